-- `placement::solve::slight_turn` meets its contract: each way through the tests of i fixes the definition's `leb` and `eqb`, and there its `cond` computes to the
-- double that is returned. The code's -0.03 is a negated double, and that computes to the definition's bits. Assumes nothing.
use borrow.Author.Tests.{le-leb, lt-leb, eq-eqb, ne_eqb}
use lib.Ieee.{neg, of_bits}
use Rattle.scene.specs.Solve.{slight_turn}
use Rattle.placement.proofs.solve.slight_turn.Goals as goal

pub returns-then-i-lt3 : goal.returns-then-i-lt3
unfolding slight_turn
returns-then-i-lt3 c = rw (lt-leb _ _ c.if-i-lt3.true)

pub returns-then-i-eq0 : goal.returns-then-i-eq0
unfolding slight_turn
returns-then-i-eq0 c = rw (le-leb _ _ c.if-i-lt3.false, eq-eqb _ _ c.if-i-eq0.true)

pub returns-then-i-eq1 : goal.returns-then-i-eq1
unfolding slight_turn neg of_bits
returns-then-i-eq1 c = rw (le-leb _ _ c.if-i-lt3.false, ne_eqb _ _ c.if-i-eq0.false, eq-eqb _ _ c.if-i-eq1.true)

pub returns : goal.returns
unfolding slight_turn
returns c = rw (le-leb _ _ c.if-i-lt3.false, ne_eqb _ _ c.if-i-eq0.false, ne_eqb _ _ c.if-i-eq1.false)

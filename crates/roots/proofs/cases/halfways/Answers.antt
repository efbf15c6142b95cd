-- `roots::cases::halfways` meets its contract. The invariant: the first k are compared, in turn. Assumes nothing.
use Rattle.std.proofs.Common.{◌≡◌, ℕ, sym, arith}
use Rattle.roots.specs.Cases.{four_halfways}
use Rattle.roots.proofs.InTurn.{turn_next, turn_none}
use Rattle.roots.proofs.cases.halfways.Goals as goal

pub loop-k-init : goal.loop-k-init
loop-k-init c = (omega arith, sym (turn_none _ _))

pub loop-k-preserved : goal.loop-k-preserved
loop-k-preserved c = (omega arith, rw (turn_next four_halfways _ _, sym c.loop-k.invariant.1, c.four_halfways-t.ensures))

pub returns : goal.returns
returns c = let e : ◌≡◌ {A = ℕ} c.loop-k.k 2048 = omega arith in rw e at c.loop-k.invariant.1

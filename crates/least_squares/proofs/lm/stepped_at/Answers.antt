-- `least_squares::lm::stepped_at` meets its contract. The invariant: t is the sum of the first i products of column c of the slopes and y, read from the scratch. At
-- the end that sum, read from the parts, is the definition's (`stepped_is`); the measure is the rows to come. Assumes nothing.
use Rattle.least_squares.proofs.LmLaws.{stepped_is}
use Rattle.numbers.specs.Sum.{sum_from}
use native.Mathlib.Numerals.{add-one}
use native.Mathlib.Omega.{arith}
use mathlib.Core.Path.{◌≡◌, refl}
use Rattle.least_squares.proofs.lm.stepped_at.Goals as goal

pub loop-i-init : goal.loop-i-init
unfolding sum_from
loop-i-init c = (omega arith, refl)

pub loop-i-preserved : goal.loop-i-preserved
unfolding sum_from
loop-i-preserved c = (omega arith, rw (add-one, ← c.loop-i.invariant.1))

pub returns : goal.returns
returns c =
    let g = c.args in
    let e : c.loop-i.i ≡ g.rows = omega arith in
    rw (c.loop-i.invariant.1, e) (stepped_is g.s.now g.n g.rows g.x g.j g.w g.y g.c (omega arith) (omega arith))

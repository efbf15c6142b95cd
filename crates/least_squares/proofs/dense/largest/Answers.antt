-- `largest` is `largest_to`. The loop's invariant: t is the largest so far; a magnitude below it leaves it as it is. Assumes nothing.
use mathlib.Core.Path.{◌≡◌, refl, sym, ◌∙◌}
use native.Mathlib.Omega.{arith}
use native.Mathlib.Numerals.{add-one}
use Rattle.numbers.specs.Double.{abs}
use lib.ListN.{length, get_or}
use lib.Ieee.{nan}
use Rattle.numbers.proofs.DoubleLaws.{fmax_more}
use Rattle.least_squares.specs.Lm.{largest_to}
use Rattle.least_squares.proofs.DenseLaws.{magnitude_below}
use Rattle.least_squares.proofs.dense.largest.Goals as goal

pub loop-x-init : goal.loop-x-init
unfolding largest_to
loop-x-init c = refl

pub loop-x-preserved-then-below : goal.loop-x-preserved-then-below
unfolding largest_to
loop-x-preserved-then-below c =
    let x = get_or c.args.s.now c.loop-x.x-index nan in
    let l = magnitude_below x c.loop-x.t (sym c.below.ensures ∙ c.if-below.true) in
    rw (add-one, ← c.loop-x.invariant, fmax_more c.loop-x.t (abs x) l)

pub loop-x-preserved : goal.loop-x-preserved
unfolding largest_to
loop-x-preserved c = rw (add-one, ← c.loop-x.invariant, ← c.abs.ensures) c.max-t.ensures

pub returns : goal.returns
returns c =
    let e : c.loop-x.x-index ≡ length c.args.s.now = omega arith in
    rw (← e) c.loop-x.invariant

-- `find_pivot` finds the pivot of `pivot_to`. The loop's invariant: best and row are those of the rows passed; a magnitude below best leaves them. Assumes nothing.
use mathlib.Core.Path.{◌≡◌, sym, ◌∙◌}
use Prim.Native.Nat.{suc, ◌+◌, ◌-◌, ◌*◌}
use native.Mathlib.Omega.{arith}
use Rattle.numbers.specs.Double.{abs}
use lib.ListN.{get_or}
use lib.Ieee.{nan}
use Rattle.numbers.proofs.DoubleLaws.{lt_asym}
use Rattle.least_squares.specs.Lm.{pivot_to}
use Rattle.least_squares.proofs.DenseLaws.{magnitude_below, pivot_taken, pivot_left}
use Rattle.least_squares.proofs.dense.find_pivot.Goals as goal
use Rattle.least_squares.proofs.dense.find_pivot.Goals.{then-v-best, else-v-best}

pub loop-r-init : goal.loop-r-init
unfolding pivot_to
loop-r-init c =
    let e : c.args.col - c.args.col ≡ 0 = omega arith in
    (omega arith, omega arith, rw e, rw e)

pub loop-r-preserved-then-below : goal.loop-r-preserved-then-below
loop-r-preserved-then-below c =
    let a = c.args in
    let k = c.loop-r.r - a.col in
    let e : c.loop-r.r + 1 - a.col ≡ suc k = omega arith in
    let g : a.col + k ≡ c.loop-r.r = omega arith in
    let x = get_or a.s.now (c.loop-r.r * a.n + a.col) nan in
    let l = lt_asym c.loop-r.best (abs x) (magnitude_below x c.loop-r.best (sym c.below.ensures ∙ c.if-below.true)) in
    let p = pivot_left a.s.now a.n a.col k c.loop-r.best (abs x) c.loop-r.invariant.2 (rw g) l in
    (omega arith, omega arith, rw (e, p) c.loop-r.invariant.2, rw (e, p) c.loop-r.invariant.3)

pub loop-r-preserved : goal.loop-r-preserved
loop-r-preserved c =
    let a = c.args in
    let k = c.loop-r.r - a.col in
    let e : c.loop-r.r + 1 - a.col ≡ suc k = omega arith in
    let g : a.col + k ≡ c.loop-r.r = omega arith in
    let v = c.abs-v.result in
    let is : v ≡ abs (get_or a.s.now ((a.col + k) * a.n + a.col) nan) = rw g c.abs-v.ensures in
    elim c.if-v-best.branch [
      | then-v-best w ↦
          let p = pivot_taken a.s.now a.n a.col k c.loop-r.best v c.loop-r.invariant.2 is w.if-v-best.true in
          (omega arith, omega arith, rw (e, p) w.best-is, rw (e, p, g) w.row-is)
      | else-v-best w ↦
          let p = pivot_left a.s.now a.n a.col k c.loop-r.best v c.loop-r.invariant.2 is w.if-v-best.false in
          (omega arith, omega arith, rw (e, p) (w.best-is ∙ c.loop-r.invariant.2), rw (e, p) (w.row-is ∙ c.loop-r.invariant.3))
    ]

pub returns : goal.returns
returns c =
    let a = c.args in
    let e : c.loop-r.r - a.col ≡ a.n - a.col = omega arith in
    record { best_is = rw (← e) c.loop-r.invariant.2; row_is = rw (← e) c.loop-r.invariant.3 }

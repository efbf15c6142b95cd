-- `least_squares::lm::gram` is the entry of the definition, over all columns. The invariant: t is the sum over the columns so far; over all of the list it is the
-- definition's (`gram_columns`). Assumes nothing.
use mathlib.Core.Path.{◌≡◌, refl, sym, ap, ◌∙◌}
use Prim.Native.Nat.{ℕ}
use native.Mathlib.Omega.{arith}
use lib.ListN.{length, get_or, take}
use lib.Ieee.{Float, binary64, add}
use Rattle.numbers.specs.Double.{zero64}
use Rattle.numbers.specs.Ops.{doubles}
use Rattle.numbers.specs.Zeros.{sum_over}
use Rattle.least_squares.proofs.ColumnLaws.{column_below, weighted_term, gram_columns}
use Rattle.numbers.proofs.ListedLaws.{over_step}
use Rattle.least_squares.proofs.lm.gram.Goals as goal

pub loop-c-init : goal.loop-c-init
unfolding sum_over
loop-c-init c = refl

pub overflow_add-t : goal.overflow_add-t
overflow_add-t c = omega (arith, column_below _ _ _ _ c.loop-c.c-index c.requires.filled (omega arith))

pub offset_bounds-s-k : goal.offset_bounds-s-k
offset_bounds-s-k c = omega (arith, column_below _ _ _ _ c.loop-c.c-index c.requires.filled (omega arith))

pub bounds-s-k : goal.bounds-s-k
bounds-s-k c = omega (arith, column_below _ _ _ _ c.loop-c.c-index c.requires.filled (omega arith))

pub overflow_add-t-in-loop-c : goal.overflow_add-t-in-loop-c
overflow_add-t-in-loop-c c = omega (arith, column_below _ _ _ _ c.loop-c.c-index c.requires.filled (omega arith))

pub offset_bounds-s-i : goal.offset_bounds-s-i
offset_bounds-s-i c = omega (arith, column_below _ _ _ _ c.loop-c.c-index c.requires.filled (omega arith))

pub bounds-s-i : goal.bounds-s-i
bounds-s-i c = omega (arith, column_below _ _ _ _ c.loop-c.c-index c.requires.filled (omega arith))

pub overflow_add-t-in-loop-c-2 : goal.overflow_add-t-in-loop-c-2
overflow_add-t-in-loop-c-2 c = omega (arith, column_below _ _ _ _ c.loop-c.c-index c.requires.filled (omega arith))

pub offset_bounds-s-w : goal.offset_bounds-s-w
offset_bounds-s-w c = omega (arith, column_below _ _ _ _ c.loop-c.c-index c.requires.filled (omega arith))

pub bounds-s-w : goal.bounds-s-w
bounds-s-w c = omega (arith, column_below _ _ _ _ c.loop-c.c-index c.requires.filled (omega arith))

pub loop-c-preserved : goal.loop-c-preserved
loop-c-preserved c =
    let g = c.args in
    let j = c.loop-c.c-index in
    let f = weighted_term g.s.now g.k g.i g.w in
    ap (λ (x : Float). add binary64 x (f (get_or g.list.now j 0))) c.loop-c.invariant ∙ sym (over_step f g.list.now j (omega arith))

pub returns : goal.returns
returns c =
    let g = c.args in
    let e : c.loop-c.c-index ≡ length g.list.now = omega arith in
    c.loop-c.invariant ∙ ap (λ (x : ℕ). sum_over doubles zero64 (weighted_term g.s.now g.k g.i g.w) (take x g.list.now)) e
    ∙ gram_columns g.s.now g.k g.i g.w g.n g.list.now (length g.list.now) c.requires.finite_at.0 c.requires.finite_at.1 c.requires.filled

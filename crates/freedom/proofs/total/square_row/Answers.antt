-- `freedom::total::square_row` meets its contract. The loop's invariant: the first k entries of the row are written. The slopes stay while the square is written behind them, so the list is theirs at
-- each entry (`rows_kept`). Assumes nothing.
use Rattle.freedom.proofs.TotalLaws.{square_step}
use mathlib.Core.Path.{◌≡◌}
use Prim.Native.Nat.{◌+◌, ◌*◌}
use native.Mathlib.Omega.{arith}
use native.Mathlib.Nat.{not-suc-le-zero}
use Rattle.eigen.proofs.EigenLaws.{row_within}
use Rattle.least_squares.proofs.MemoryLaws.{kept_refl}
use Rattle.least_squares.proofs.TableLaws.{in_rows}
use Rattle.body_freedom.proofs.SquareLaws.{rows_kept}
use Rattle.least_squares.proofs.ColumnLaws.{finite_front}
use Rattle.freedom.proofs.total.square_row.Goals as goal

pub overflow_mul-at : goal.overflow_mul-at
overflow_mul-at c = omega (arith, row_within c.requires.i_lt_n)

pub overflow_mul-at-2 : goal.overflow_mul-at-2
overflow_mul-at-2 c = omega (arith, row_within c.requires.i_lt_n)

pub overflow_add-at : goal.overflow_add-at
overflow_add-at c = omega (arith, row_within c.requires.i_lt_n)

pub filled-count-requires : goal.filled-count-requires
filled-count-requires c =
    let g = c.args in
    record { by_index = (λ q h. let z = in_rows q g.i g.n g.rows h c.requires.i_lt_n in omega arith); k_in_bounds = c.requires.rows_in_bounds }

pub loop-k-init : goal.loop-k-init
loop-k-init c = (omega arith, kept_refl _ _ _, λ j l. absurd (not-suc-le-zero l))

pub columns_times-v-requires : goal.columns_times-v-requires
columns_times-v-requires c =
    let g = c.args in
    let e = c.loop-k.invariant.1 in
    let z = e.size in
    let w = c.filled-count.auto.list in
    let at = g.rows * g.n + g.i * g.n in record { i_lt_n = (c.requires.i_lt_n, c.loop-k-test.true); n_in_bounds = omega arith; rows_in_bounds = omega arith; finite_at = finite_front g.s.now c.loop-k.s (g.rows * g.n) (g.rows * g.n) at (at + g.n) (omega arith) (omega arith) e c.requires.finite_at; filled = rows_kept g.s.now c.loop-k.s g.rows g.n at (at + g.n) (omega arith) e g.i _ _ c.requires.i_lt_n c.filled-count.ensures.first }

pub overflow_add-s : goal.overflow_add-s
overflow_add-s c = let z = c.loop-k.invariant.1.size in omega (arith, row_within c.requires.i_lt_n)

pub offset_bounds-s-at : goal.offset_bounds-s-at
offset_bounds-s-at c = let z = c.loop-k.invariant.1.size in omega (arith, row_within c.requires.i_lt_n)

pub bounds-s-at : goal.bounds-s-at
bounds-s-at c = let z = c.loop-k.invariant.1.size in omega (arith, row_within c.requires.i_lt_n)

pub loop-k-preserved : goal.loop-k-preserved
loop-k-preserved c =
    let l = c.loop-k in
    let a = c.args in
    let w = row_within c.requires.i_lt_n in
    let r = square_step a.s.now l.s a.rows a.n (a.rows * a.n + a.i * a.n) a.i l.k c.columns_times-v.result c.requires.i_lt_n (omega arith) (omega arith) (omega arith) l.invariant.1 l.invariant.2 c.columns_times-v.ensures in
    (omega arith, r.0, r.1)

pub shape_of-s : goal.shape_of-s
shape_of-s c = c.loop-k.invariant.1.size

pub shape_of-list : goal.shape_of-list
shape_of-list c = c.filled-count.auto.list

pub returns : goal.returns
returns c =
    let e : c.loop-k.k ≡ c.args.n = omega arith in
    record { entries = rw e at c.loop-k.invariant.2; kept = c.loop-k.invariant.1 }

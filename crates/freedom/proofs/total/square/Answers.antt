-- `freedom::total::square` meets its contract. The loop's invariant: the first i rows are written, and the list keeps its length. Assumes nothing.
use Rattle.freedom.proofs.TotalLaws.{squared_step, squared_all}
use mathlib.Core.Path.{◌≡◌, refl, ◌∙◌}
use Prim.Native.Nat.{◌+◌, ◌*◌}
use native.Mathlib.Omega.{arith}
use native.Mathlib.Nat.{not-suc-le-zero}
use Rattle.least_squares.proofs.MemoryLaws.{kept_refl}
use Rattle.least_squares.proofs.ColumnLaws.{finite_front}
use Rattle.freedom.proofs.total.square.Goals as goal

pub loop-i-init : goal.loop-i-init
loop-i-init c = (omega arith, refl, kept_refl _ _ _, λ p k l m. absurd (not-suc-le-zero l))

pub slice_bounds-square_row-end : goal.slice_bounds-square_row-end
slice_bounds-square_row-end c = let z = c.loop-i.invariant.1 in omega arith

pub square_row-requires : goal.square_row-requires
square_row-requires c =
    let a = c.args in
    let e = c.loop-i.invariant.2 in
    let z = e.size in
    let w = c.loop-i.invariant.1 in
    record { i_lt_n = omega arith; n_in_bounds = omega arith; rows_in_bounds = omega arith; finite_at = finite_front a.s.now c.loop-i.s (a.rows * a.n) (a.rows * a.n) (a.rows * a.n) (a.rows * a.n + a.n * a.n) (omega arith) (omega arith) e c.requires.finite_at }

pub loop-i-preserved : goal.loop-i-preserved
loop-i-preserved c =
    let l = c.loop-i in
    let a = c.args in
    let r = squared_step a.s.now l.s c.square_row.new.s a.rows a.n l.i (omega arith) l.invariant.2 l.invariant.3 c.square_row.ensures in
    (omega arith, c.square_row.auto.list ∙ l.invariant.1, r.0, r.1)

pub shape_of-s : goal.shape_of-s
shape_of-s c = c.loop-i.invariant.2.size

pub returns : goal.returns
returns c =
    let e : c.loop-i.i ≡ c.args.n = omega arith in
    squared_all c.args.s.now c.loop-i.s c.args.rows c.args.n c.loop-i.i e (omega arith) c.loop-i.invariant.2 c.loop-i.invariant.3

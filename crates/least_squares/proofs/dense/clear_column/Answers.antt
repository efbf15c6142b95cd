-- `clear_column` is `clear_column`: the pivot that memory gives is the matrix's, and what follows is the two steps one after the other. Assumes nothing.
use Prim.Native.Nat.{◌-◌}
use native.Mathlib.Omega.{arith}
use Rattle.least_squares.proofs.DenseLaws.{pivot_within, column_none, column_some}
use Rattle.least_squares.proofs.dense.clear_column.Goals as goal

pub returns-then-p-scale : goal.returns-then-p-scale
returns-then-p-scale c =
    let a = c.args in
    column_none a.s.now a.n a.col a.scale _ _ (omega arith) c.find_pivot-p.ensures c.if-p-scale.true

pub place_pivot-requires : goal.place_pivot-requires
place_pivot-requires c =
    let a = c.args in
    let p = c.find_pivot-p.ensures in
    omega (arith, p.row_is, pivot_within a.s.now a.n a.col (a.n - a.col) (omega arith) (omega arith))

pub returns : goal.returns
returns c =
    let a = c.args in
    let p = c.find_pivot-p.ensures in
    column_some a.s.now a.n a.col a.scale _ _ (omega arith) p _ _ c.if-p-scale.false c.place_pivot.ensures c.clear_below.ensures

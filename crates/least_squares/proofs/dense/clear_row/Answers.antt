-- `clear_row` is `clear_row` on the system in memory: `take_off` changes the matrix alone, and the store behind it the right side alone. Assumes nothing.
use mathlib.Core.Path.{refl}
use native.Mathlib.Omega.{arith}
use Rattle.least_squares.proofs.DenseLaws.{row_fits, clear_already, cleared}
use Rattle.least_squares.proofs.dense.clear_row.Goals as goal

pub returns-then-f : goal.returns-then-f
returns-then-f c =
    let a = c.args in
    clear_already a.s.now a.n a.r a.col _ (omega arith) (omega arith) refl c.if-f.true

pub take_off-requires : goal.take_off-requires
take_off-requires c =
    let a = c.args in
    omega (arith, row_fits a.r a.n (omega arith), row_fits a.col a.n (omega arith))

pub returns : goal.returns
returns c =
    let a = c.args in
    rw c.take_off.ensures (cleared a.s.now a.n a.r a.col _ (omega arith) (omega arith) refl c.if-f.false)

-- `place_pivot` is `pivoted` on the system in memory: its two exchanges are the matrix's and the right side's. Assumes nothing.
use Prim.Native.Nat.{◌+◌, ◌*◌}
use native.Mathlib.Omega.{arith}
use lib.Ieee.{nan}
use Rattle.std.proofs.lemmas.List.Edits.{swap_is}
use Rattle.least_squares.proofs.DenseLaws.{row_fits, placed, stays}
use Rattle.least_squares.proofs.dense.place_pivot.Goals as goal

pub returns-then-p-col : goal.returns-then-p-col
returns-then-p-col c =
    let a = c.args in
    stays a.s.now a.n a.p a.col c.if-p-col.true

pub swap_rows-requires : goal.swap_rows-requires
swap_rows-requires c =
    let a = c.args in
    omega (arith, row_fits a.p a.n (omega arith), row_fits a.col a.n (omega arith))

pub returns : goal.returns
returns c =
    let a = c.args in
    let t = c.swap_rows in
    let b = a.n * a.n in
    let swapped = swap_is t.new.s (b + a.p) (b + a.col) nan (omega (arith, t.auto.s)) (omega (arith, t.auto.s)) in
    rw (c.swap.ensures.after, ← swapped, t.ensures) (placed a.s.now a.n a.p a.col (omega arith) (omega arith) c.if-p-col.false)

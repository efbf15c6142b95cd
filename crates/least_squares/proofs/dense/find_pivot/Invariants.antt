-- `find_pivot` finds the pivot of `pivot_to`. The loop's invariant: best and row are those of the rows passed; a magnitude below best leaves them. Assumes nothing.
use mathlib.Core.Path.{◌≡◌}
use Prim.Native.Nat.{◌-◌, ◌≤◌}
use Rattle.least_squares.specs.Lm.{pivot_to}
use Rattle.least_squares.proofs.dense.find_pivot.Given as goal

abbrev pub invariant-loop-r : goal.invariant-loop-r
invariant-loop-r l = (l.col ≤ l.r) × (l.r ≤ l.n) × (l.best ≡ (pivot_to l.s l.n l.col (l.r - l.col)).best) × (l.row ≡ (pivot_to l.s l.n l.col (l.r - l.col)).row)

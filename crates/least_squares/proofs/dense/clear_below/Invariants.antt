-- `clear_below` is `clear_to`. The loop's invariant: memory holds the system with the rows before r cleared. Assumes nothing.
use Prim.Native.Nat.{◌+◌, ◌-◌, ◌≤◌}
use Rattle.least_squares.specs.Lm.{clear_to}
use Rattle.least_squares.specs.Dense.{system_at, Became}
use Rattle.least_squares.proofs.dense.clear_below.Given as goal

abbrev pub invariant-loop-r : goal.invariant-loop-r
invariant-loop-r l = (l.col + 1 ≤ l.r) × (l.r ≤ l.n) × Became l.initial.s l.s l.n (clear_to (system_at l.initial.s l.n) l.n l.col (l.r - (l.col + 1)))

-- `back` is `back_to`. The loop's invariant: memory holds the system with the last k unknowns found. Assumes nothing.
use Prim.Native.Nat.{◌≤◌}
use Rattle.least_squares.specs.Lm.{back_to}
use Rattle.least_squares.specs.Dense.{system_at, Became}
use Rattle.least_squares.proofs.dense.back.Given as goal

abbrev pub invariant-loop-k : goal.invariant-loop-k
invariant-loop-k l = (l.k ≤ l.n) × Became l.initial.s l.s l.n (back_to (system_at l.initial.s l.n) l.n l.k)

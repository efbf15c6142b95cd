-- `eliminate` is `eliminate_to`. The loop's invariant: the columns before col have given the system that memory holds. Assumes nothing.
use mathlib.Core.Path.{◌≡◌}
use mathlib.Core.Option.{some}
use Prim.Native.Nat.{◌+◌, ◌*◌, ◌≤◌}
use Rattle.least_squares.specs.Lm.{eliminate_to}
use Rattle.least_squares.specs.Dense.{system_at}
use Rattle.least_squares.specs.Memory.{Kept}
use Rattle.least_squares.proofs.dense.eliminate.Given as goal

abbrev pub invariant-loop-col : goal.invariant-loop-col
invariant-loop-col l = (l.col ≤ l.n) × (eliminate_to (system_at l.initial.s l.n) l.scale l.n l.col ≡ some (system_at l.s l.n)) × Kept l.initial.s l.s 0 (l.n * l.n + l.n)

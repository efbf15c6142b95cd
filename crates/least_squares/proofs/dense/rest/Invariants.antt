-- `rest` is `rest_to` on the system in memory. The loop's invariant: t is what is left after the columns before c. Assumes nothing.
use mathlib.Core.Path.{◌≡◌}
use Prim.Native.Nat.{◌+◌, ◌-◌, ◌≤◌}
use Rattle.least_squares.specs.Lm.{rest_to}
use Rattle.least_squares.specs.Dense.{system_at}
use Rattle.least_squares.proofs.dense.rest.Given as goal

abbrev pub invariant-loop-c : goal.invariant-loop-c
invariant-loop-c l = (l.r + 1 ≤ l.c) × (l.c ≤ l.n) × (l.t ≡ rest_to (system_at l.s l.n) l.n l.r (l.c - (l.r + 1)))

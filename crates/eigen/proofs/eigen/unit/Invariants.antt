-- `eigen::unit` meets its contract. The loop's invariant: the first i rows are written. Assumes nothing.
use mathlib.Core.Path.{◌≡◌}
use Prim.Native.Nat.{◌*◌, ◌≤◌}
use lib.ListN.{length, drop}
use mathlib.Core.List.{◌++◌}
use Rattle.eigen.specs.Eigen.{unit_to}
use Rattle.eigen.proofs.eigen.unit.Given as goal

abbrev pub invariant-loop-i : goal.invariant-loop-i
invariant-loop-i l = (l.i ≤ l.n) × (length l.v ≡ length l.initial.v) × (l.v ≡ unit_to l.n l.i ++ drop (l.i * l.n) l.initial.v)

-- `eigen::diag` meets its contract. The loop's invariant: s is the sum of the first i squares. Assumes nothing.
use mathlib.Core.Path.{◌≡◌}
use Prim.Native.Nat.{◌≤◌}
use Rattle.eigen.specs.Eigen.{diag_to}
use Rattle.eigen.proofs.eigen.diag.Given as goal

abbrev pub invariant-loop-i : goal.invariant-loop-i
invariant-loop-i l = (l.i ≤ l.n) × (l.s ≡ diag_to l.m l.n l.i)

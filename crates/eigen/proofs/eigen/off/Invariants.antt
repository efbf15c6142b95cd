-- `eigen::off` meets its contract. The loop's invariant: s is the sum after the first i rows. Assumes nothing.
use mathlib.Core.Path.{◌≡◌}
use Prim.Native.Nat.{◌≤◌}
use Rattle.eigen.specs.Eigen.{off_to}
use Rattle.eigen.proofs.eigen.off.Given as goal

abbrev pub invariant-loop-i : goal.invariant-loop-i
invariant-loop-i l = (l.i ≤ l.n) × (l.s ≡ off_to l.m l.n l.i)

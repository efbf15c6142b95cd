-- `eigen::sweep`: one row after another. The loop's invariant: the first p rows are cleared. Assumes nothing.
use mathlib.Core.Path.{◌≡◌}
use Prim.Native.Nat.{◌≤◌}
use lib.ListN.{length}
use Rattle.eigen.specs.Eigen.{turned, sweep_to}
use Rattle.eigen.proofs.eigen.sweep.Given as goal

abbrev pub invariant-loop-p : goal.invariant-loop-p
invariant-loop-p l = (l.p ≤ l.n) × (length l.m ≡ length l.initial.m) × (length l.v ≡ length l.initial.v) × (turned l.m l.v ≡ sweep_to l.n (turned l.initial.m l.initial.v) l.p)

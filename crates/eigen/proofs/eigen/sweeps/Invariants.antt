-- `eigen::sweeps`: the sweeps end where what is off the diagonal is too small to count, or with the hundredth. The loop's invariant: what is left of the hundred leads to the same
-- end. Assumes nothing.
use mathlib.Core.Path.{◌≡◌}
use Prim.Native.Nat.{◌-◌, ◌≤◌}
use lib.ListN.{length}
use Rattle.eigen.specs.Eigen.{turned, sweeps}
use Rattle.eigen.proofs.eigen.sweeps.Given as goal

abbrev pub invariant-loop-i : goal.invariant-loop-i
invariant-loop-i l = (l.i ≤ 100) × (length l.m ≡ length l.initial.m) × (length l.v ≡ length l.initial.v) × (sweeps l.n (100 - l.i) (turned l.m l.v) ≡ sweeps l.n 100 (turned l.initial.m l.initial.v))

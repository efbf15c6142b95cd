-- `eigen::sort`: each pair in turn moves forward. The loop's invariant: the first i pairs are moved forward. Assumes nothing.
use mathlib.Core.Path.{◌≡◌}
use Prim.Native.Nat.{◌≤◌}
use lib.ListN.{length}
use Rattle.eigen.specs.EigenMemory.{held, sorted}
use Rattle.eigen.proofs.eigen.sort.Given as goal

abbrev pub invariant-loop-i : goal.invariant-loop-i
invariant-loop-i l = (l.i ≤ l.n) × (length l.vals ≡ length l.initial.vals) × (length l.v ≡ length l.initial.v) × (held l.vals l.v ≡ sorted l.n (held l.initial.vals l.initial.v) l.i)

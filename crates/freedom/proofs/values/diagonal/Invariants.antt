-- `freedom::values::diagonal`: each entry is copied to its place behind the matrix, which is not written. The loop's invariant: the first i entries are copied. Assumes nothing.
use mathlib.Core.Path.{◌≡◌}
use Prim.Native.Nat.{◌+◌, ◌-◌, ◌*◌, ◌≤◌}
use Rattle.eigen.specs.EigenMemory.{diagonal}
use Rattle.least_squares.specs.Memory.{part, Kept}
use Rattle.freedom.proofs.values.diagonal.Given as goal

abbrev pub invariant-loop-i : goal.invariant-loop-i
invariant-loop-i l = (l.i ≤ l.n) × Kept l.initial.s l.s (l.n * l.n) (l.n * l.n + l.n) × (part l.s (l.n * l.n) l.i ≡ diagonal (part l.initial.s 0 (l.n * l.n)) l.n l.i)

abbrev pub decreases-loop-i : goal.decreases-loop-i
decreases-loop-i l = l.n - l.i

-- `freedom::total::square` meets its contract. The loop's invariant: the first i rows are written, and the list keeps its length. Assumes nothing.
use Rattle.freedom.proofs.TotalLaws.{Squared}
use mathlib.Core.Path.{◌≡◌}
use Prim.Native.Nat.{◌+◌, ◌-◌, ◌*◌, ◌≤◌}
use lib.ListN.{length}
use Rattle.least_squares.specs.Memory.{Kept}
use Rattle.freedom.proofs.total.square.Given as goal

abbrev pub invariant-loop-i : goal.invariant-loop-i
invariant-loop-i l = (l.i ≤ l.n) × (length l.list ≡ 896) × Kept l.initial.s l.s (l.rows * l.n) (l.rows * l.n + l.n * l.n) × Squared l.initial.s l.s l.rows l.n l.i

abbrev pub decreases-loop-i : goal.decreases-loop-i
decreases-loop-i l = l.n - l.i

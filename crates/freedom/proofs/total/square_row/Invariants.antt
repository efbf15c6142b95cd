-- `freedom::total::square_row` meets its contract. The loop's invariant: the first k entries of the row are written. The slopes stay while the square is written behind them, so the list is theirs at
-- each entry (`rows_kept`). Assumes nothing.
use mathlib.Core.Path.{◌≡◌}
use Prim.Native.Nat.{ℕ, ◌+◌, ◌-◌, ◌*◌, ◌≤◌, ◌<◌}
use lib.ListN.{get_or}
use lib.Ieee.{nan}
use Rattle.least_squares.specs.Memory.{part, Kept}
use Rattle.body_freedom.specs.Dof.{columns_times}
use Rattle.freedom.proofs.total.square_row.Given as goal

abbrev pub invariant-loop-k : goal.invariant-loop-k
invariant-loop-k l = (l.k ≤ l.n) × Kept l.initial.s l.s (l.rows * l.n + l.i * l.n) (l.rows * l.n + l.i * l.n + l.n) × ((j : ℕ) → j < l.k → get_or l.s (l.rows * l.n + l.i * l.n + j) nan ≡ columns_times (part l.initial.s 0 (l.rows * l.n)) l.rows l.n l.i j)

abbrev pub decreases-loop-k : goal.decreases-loop-k
decreases-loop-k l = l.n - l.k

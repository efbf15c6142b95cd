-- `least_squares::lm::matrix_row`. The invariant: the first k entries of the row are worked from the slopes and weights at entry, and all else is as at entry, the slopes and weights
-- too (`gram_kept`), so that the list still names the columns of row i (`columns_in`). Assumes nothing.
use mathlib.Core.Path.{◌≡◌}
use Prim.Native.Nat.{ℕ, ◌+◌, ◌*◌, ◌<◌}
use lib.Ieee.{nan}
use lib.ListN.{get_or}
use Rattle.least_squares.specs.Lm.{gram_at}
use Rattle.least_squares.specs.Memory.{Kept}
use Rattle.least_squares.proofs.lm.matrix_row.Given as goal

abbrev pub invariant-loop-k : goal.invariant-loop-k
invariant-loop-k l =
    record {
      kept : Kept l.initial.s l.s l.at (l.at + (l.i + 1));
      worked : (j : ℕ) → j < l.k → get_or l.s (l.at + j) nan ≡ gram_at l.initial.s (j * l.n) (l.i * l.n) l.w l.n;
    }

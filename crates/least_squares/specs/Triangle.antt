-- Half a square in memory: of a matrix that is the same on both sides of its diagonal the lower triangle alone, row after row. Row i has the entries 0 to i; what lies above
-- the diagonal is read below it. Document 02, 7/14. Definitions only.
use Rattle.std.specs.Prelude.{ℕ, ◌+◌, ◌*◌, ◌/◌, min, max, List, get_or, Float}
use Rattle.std.specs.Float.{nan}
use Rattle.least_squares.specs.Lm.{table_of}

-- how many places the first i rows take
unfoldable pub triangle : ℕ → ℕ
triangle i = i * (i + 1) / 2

-- the entry (i, k) of the matrix that has the lower triangle l
abbrev pub entry_of : List Float → ℕ → ℕ → Float
entry_of l i k = get_or l (triangle (max i k) + min i k) nan

-- the whole matrix, of so many rows
unfoldable pub spread : List Float → ℕ → List Float
spread l rows = table_of (entry_of l) rows rows

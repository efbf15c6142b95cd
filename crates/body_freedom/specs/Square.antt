-- What JᵀJ of slopes is summed of. The slopes stand row after row, n to a row. Definitions only.
use Rattle.std.specs.Prelude.{ℕ, ◌+◌, ◌*◌, List, get_or, Float}
use Rattle.std.specs.Float.{nan, binary64}
use Rattle.std.specs.Float.Ieee.{mul}

-- column i times column k in row r
abbrev pub products_in : List Float → ℕ → ℕ → ℕ → ℕ → Float
products_in s n i k r = mul binary64 (get_or s (r * n + i) nan) (get_or s (r * n + k) nan)

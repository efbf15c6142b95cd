-- Arrays of arrays by value, and what of them counts: the first n entries of the first n rows, row after row in one list. Definitions only.
use Rattle.std.specs.Prelude.{ℕ, zero, suc, List, [], ◌++◌, get_or, take, Float}
use Rattle.std.specs.Float.{nan}

-- the first k rows
unfoldable pub flat_to : ℕ → List (List Float) → ℕ → List Float
flat_to n m zero = []
flat_to n m (suc k) = flat_to n m k ++ take n (get_or m k [])

abbrev pub flat : ℕ → List (List Float) → List Float
flat n m = flat_to n m n

abbrev pub at : List (List Float) → ℕ → ℕ → Float
at m i j = get_or (get_or m i []) j nan

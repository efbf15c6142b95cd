-- The eigenvalues of `sym_eigen` of math.rs without the vectors, beside the matrix in one list. Document 01, "The train of files", items 3 and 6. Definitions only.
use Rattle.std.specs.Prelude.{ℕ, ◌+◌, ◌*◌, ◌≡◌, List, map, Float}
use Rattle.eigen.specs.Eigen.{Eigen, sym_eigen}
use Rattle.least_squares.specs.Memory.{part, Kept}

-- the values of the matrix in the first places of s have come to stand behind it, in rising order; what stands in the matrix's places is open
pub record Values (n : ℕ) (s t : List Float) : Type 0 where
  pub values : part t (n * n) n ≡ map (λ (e : Eigen). e.value) (sym_eigen n (part s 0 (n * n)))
  pub kept : Kept s t 0 (n * n + n)

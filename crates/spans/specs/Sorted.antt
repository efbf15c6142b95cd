-- What the sorted pairs of `sym_eigen` are a rearrangement of. Document 01, "The train of files", item 3. proofs/SortedLaws.antt has the proofs. Definitions only.
use Rattle.std.specs.Prelude.{ℕ, List, Float}
use Rattle.eigen.specs.Eigen.{Eigen, turned, pairs, sweeps, unit_to}

-- the pairs as the sweeps leave them
abbrev pub unsorted : ℕ → List Float → List Eigen
unsorted n a = pairs n (sweeps n 100 (turned a (unit_to n n))) n

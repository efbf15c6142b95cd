-- What the six-by-six `sym_eigen` returns: the pairs of `sym_eigen`, with what n leaves unused filled by 0. Definitions only.
use Rattle.std.specs.Prelude.{ℕ, ◌-◌, List, [], ◌++◌, map, replicate}
use Rattle.std.specs.Float.{nan}
use Rattle.numbers.specs.Double.{zero64}
use Rattle.spans.specs.declared.eigen6.Eigen6.{Eigen6}
use Rattle.eigen.specs.Eigen.{Eigen}

abbrev pub eigen6 : ℕ → Eigen → Eigen6
eigen6 n e = record { value = e.value; vector = e.vector ++ replicate (6 - n) zero64 }

abbrev pub none6 : Eigen6
none6 = record { value = zero64; vector = replicate 6 zero64 }

-- what stands past the end of an array; never read
abbrev pub past6 : Eigen6
past6 = record { value = nan; vector = [] }

abbrev pub eigens6 : ℕ → List Eigen → List Eigen6
eigens6 n l = map (eigen6 n) l ++ replicate (6 - n) none6

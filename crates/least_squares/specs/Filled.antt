-- Which doubles of a row or of a column are no zeros, and that doubles are finite: what lets a sum of products go without
-- its zeros. Definitions only.
use Rattle.std.specs.Prelude.{ℕ, ◌+◌, ◌*◌, ◌≤◌, ◌<◌, true, not, ◌≡◌, List, get_or, take, drop, Float}
use Rattle.std.specs.Float.{nan}
use Rattle.std.specs.Float.Ieee.{eq}
use Rattle.numbers.specs.Double.{zero64, is_finite}
use Rattle.numbers.specs.Zeros.{listed}

-- of k doubles, each `step` places behind the last and the first at o, the first m of the list name those that are no
-- zeros, in rising order
pub record Filled (s : List Float) (o step k : ℕ) (list : List ℕ) (m : ℕ) : Type 0 where
  pub few : m ≤ k
  pub holds : take m list ≡ listed (λ c. not (eq (get_or s (c * step + o) nan) zero64)) k

-- what `filled` leaves in a list: the numbers of those that are no zeros in the first m places, and from place m + 1 on
-- what stood there at entry; what stands at place m is open
pub record FilledList (s : List Float) (o step k : ℕ) (before list : List ℕ) (m : ℕ) : Type 0 where
  pub first : Filled s o step k list m
  pub behind : drop (m + 1) list ≡ drop (m + 1) before

-- the n doubles from place o on are finite
abbrev pub FiniteAt : List Float → ℕ → ℕ → Type 0
FiniteAt s o n = (c : ℕ) → c < n → is_finite (get_or s (o + c) nan) ≡ true

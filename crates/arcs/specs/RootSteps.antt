-- The words of the contracts of `root`'s own steps. Definitions only.
use Rattle.std.specs.Prelude.{ℕ, ◌+◌, ◌*◌, ◌^◌, ◌≤◌, ◌<◌, ◌≡◌}

-- n * 2 ^ e is m * 2 ^ 52 * 4 ^ k, and m has 53 or 54 digits
pub record Even (n e m k : ℕ) : Type 0 where
  pub same : n * 2 ^ e ≡ m * 2 ^ 52 * (2 ^ k * 2 ^ k)
  pub low : 2 ^ 52 ≤ m
  pub high : m < 2 ^ 54
  pub short : k ≤ 1533

-- c * c is high * 2 ^ 52 + low
pub record Squared (c high low : ℕ) : Type 0 where
  pub same : c * c ≡ high * 2 ^ 52 + low
  pub top : high < 2 ^ 54
  pub bottom : low < 2 ^ 55

-- r says whether a is below b
pub record Flag (a b r : ℕ) : Type 0 where
  pub bit : r ≤ 1
  pub one : a < b → r ≡ 1
  pub none : b ≤ a → r ≡ 0

-- q is the whole number nearest to √m: (q - 1/2)² < m < (q + 1/2)², which for whole numbers is q² - q < m ≤ q² + q
pub record WholeRoot (m q : ℕ) : Type 0 where
  pub low : q * q < m + q
  pub high : m ≤ q * q + q

-- What it says that a double is a whole number, exactly. Definitions only.
use Rattle.std.specs.Prelude.{◌≡◌, true, ℕ, ◌*◌, pos, Float}
use Rattle.numbers.specs.Frac.{frac_of}
use Rattle.numbers.specs.Double.{is_finite, of_whole}

-- `number`: x is neither a NaN nor an infinity. `value`: the fraction that x is has n times its denominator as its numerator.
pub record IsWhole (n : ℕ) (x : Float) : Type 0 where
  pub number : is_finite x ≡ true
  pub value : (frac_of x).num ≡ pos (n * (frac_of x).den)

-- r is the definition's double of n, and exactly n
pub record WholeDouble (n : ℕ) (r : Float) : Type 0 where
  pub is : r ≡ of_whole n
  pub exact : IsWhole n r

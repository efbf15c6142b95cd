-- 0 over 0 is a NaN. Assumes nothing.
use mathlib.Core.Path.{◌≡◌, refl}
use lib.Ieee.{nan, binary64, div, of_bits}
use Rattle.numbers.specs.Double.{zero64}

pub not_a_number : div binary64 zero64 zero64 ≡ nan
unfolding div of_bits
not_a_number = refl

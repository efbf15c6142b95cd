-- A whole number up to 2^53 is a double itself (`whole_exact`): with as many digits as the format keeps, rounding changes nothing (the library's `round_whole`). Assumes nothing.
use mathlib.Core.Path.{◌≡◌, refl, ap}
use mathlib.Core.Bool.{true, false}
use Prim.Native.Nat.{ℕ, ◌^◌, ◌≤◌}
use native.Mathlib.Nat.{mul-one}
use native.Mathlib.Omega.{arith}
use lib.IntN.{pos}
use lib.Ieee.{Float, nan, inf, fin, binary64, round, of_int}
use lib.Ieee.Exact.{HasValue}
use lib.Ieee.Back.{round_whole}
use Rattle.numbers.specs.Frac.{frac_of}
use Rattle.numbers.specs.Double.{is_finite, of_whole}
use Rattle.numbers.specs.Whole.{IsWhole}

of_value : (n : ℕ) (x : Float) → HasValue x false n 1 → IsWhole n x
unfolding frac_of is_finite
of_value n nan v = absurd v
of_value n (inf s) v = absurd v
of_value n (fin false m e) v = record { number = refl; value = ap pos (rw mul-one at v.1) }
of_value n (fin true m e) v = let z : ◌≡◌ {A = ℕ} 0 1 = cc v.0 in absurd (omega arith)

pub whole_exact : (n : ℕ) → n ≤ 2 ^ 53 → IsWhole n (of_whole n)
unfolding of_whole of_int
whole_exact n h = of_value n (round binary64 false n 1) (round_whole binary64 false n h)

-- Every longer sum of Machin's formula lies between `pi_low` and `pi_high` (`pi_held`), and the arcs' constants are what every number between the two makes them (`turn_constants`). The terms of
-- an arctangent fall at every number from 0 to 1, so that `between` of AlternatingLaws.antt holds at 1/5 and at 1/239, and the formula rises with its first sum and falls with its second.
-- The distance of the two fractions and the facts about the constants are computed by the kernel. Assumes nothing.
use Prim.Native.Nat.{ℕ, ◌+◌, ◌*◌, ◌≤◌, ◌<◌}
use native.Mathlib.Nat.{mul-pos}
use native.Mathlib.Omega.{arith}
use mathlib.Core.Path.{refl}
use lib.Ieee.{to_bits, of_bits}
use Rattle.numbers.specs.Frac.{Frac, lt_q}
use Rattle.arcs.specs.Pi.{whole, one_over, alternating, arctangent_term, machin, pi_low, pi_high, AtMostQ, PiHeld, halfway, TurnConstants}
use Rattle.arcs.proofs.AlternatingLaws.{sub_at_most, mul_at_most_left, whole_not_below, one_over_not_below, one_over_at_most, From0To1, Falling, mul_falling, pow_falling, one_over_falling, alternating_pos, between}

-- ---- an arctangent

pub arctangent_falling : (v : Frac) → From0To1 v → Falling (arctangent_term v)
unfolding arctangent_term
arctangent_falling v r = mul_falling (pow_falling v r (λ i. 2 * i + 1) (λ i. omega arith)) (one_over_falling (λ i. 2 * i + 1) (λ i. omega arith) (λ i. omega arith))

unit : (x : ℕ) → 1 ≤ x → From0To1 (one_over x)
unit x h = record { den_pos = h; not_below = one_over_not_below x; not_above = one_over_at_most 1 x h }

-- n terms of the arctangent of 1 / x
abbrev sum : ℕ → ℕ → Frac
sum x n = alternating (arctangent_term (one_over x)) n

sum_pos : (x : ℕ) → 1 ≤ x → (n : ℕ) → 0 < (sum x n).den
sum_pos x h = alternating_pos (arctangent_term (one_over x)) (arctangent_falling (one_over x) (unit x h)).den_pos

sum_between : (x : ℕ) → 1 ≤ x → (i n : ℕ) → 2 * i ≤ n → AtMostQ (sum x (2 * i)) (sum x n) × AtMostQ (sum x n) (sum x (2 * i + 1))
sum_between x h = between (arctangent_term (one_over x)) (arctangent_falling (one_over x) (unit x h))

-- ---- Machin's formula

pub machin_pos : (n m : ℕ) → 0 < (machin n m).den
unfolding machin
machin_pos n m = let one : 0 < 1 = omega arith in mul-pos one (mul-pos (mul-pos one (sum_pos 5 (omega arith) n)) (sum_pos 239 (omega arith) m))

machin_at_most : (n n' m m' : ℕ) → AtMostQ (sum 5 n) (sum 5 n') → AtMostQ (sum 239 m') (sum 239 m) → AtMostQ (machin n m) (machin n' m')
unfolding machin
machin_at_most n n' m m' h k = mul_at_most_left (whole 4) _ _ (whole_not_below 4) (sub_at_most _ _ _ _ (mul_at_most_left (whole 4) _ _ (whole_not_below 4) h) k)

held : (n m : ℕ) → 24 ≤ n → 8 ≤ m → AtMostQ pi_low (machin n m) × AtMostQ (machin n m) pi_high
unfolding pi_low pi_high
held n m h k =
    let a = sum_between 5 (omega arith) 12 n h in
    let b = sum_between 239 (omega arith) 4 m k in
    (machin_at_most 24 n 9 m a.0 b.1, machin_at_most n 25 m 8 a.1 b.0)

pub pi_held : PiHeld
unfolding pi_low pi_high lt_q
pi_held = record { fractions = machin_pos; held = held; apart = refl }

-- ---- the constants

pub turn_constants : TurnConstants
unfolding pi_low pi_high lt_q halfway of_bits to_bits
turn_constants =
    record {
      two_pi = record { above = refl; below = refl };
      one_pi = record { above = refl; below = refl };
      half_pi_is = record { above = refl; below = refl };
      quarter_pi_is = record { above = refl; below = refl };
      first = record { value = refl; digits = omega arith; from = refl; rest = refl };
      second = record { above = refl; below = refl };
    }

-- π, held between two fractions by Machin's formula, π / 4 = 4 * arctan (1/5) - arctan (1/239), and what it says that the arcs' constants are made from it: T, P, H, E the doubles nearest
-- 2π, π, π/2, π/4, T1 the first 33 binary digits of 2π, T2 the double nearest the rest. Documents 01, "The train of files", item 1, and 02, 3/14. An arctangent is the number that its
-- alternating series closes in on: an even count of terms lies below it and an odd count above. proofs/PiLaws.antt has the proofs, `pi_held` and `turn_constants`. Definitions and statements.
use Rattle.std.specs.Prelude.{ℕ, zero, suc, ◌+◌, ◌-◌, ◌*◌, ◌%◌, ◌^◌, ◌≤◌, ◌<◌, ◌≡◌, true, false, cond, pos, eqb, Float}
use Rattle.std.specs.Float.{binary64}
use Rattle.std.specs.Float.Ieee.{to_bits, of_bits}
use Rattle.numbers.specs.Frac.{Frac, add_q, sub_q, mul_q, lt_q, frac_of}
use Rattle.arcs.specs.Arcs.{tau, pi, half_pi, quarter_pi, tau1, tau2}

-- ---- alternating sums

abbrev pub whole : ℕ → Frac
whole n = record { num = pos n; den = 1 }

abbrev pub one_over : ℕ → Frac
one_over n = record { num = pos 1; den = n }

unfoldable pub pow_q : Frac → ℕ → Frac
unfolding mul_q
pow_q v zero = whole 1
pow_q v (suc n) = mul_q v (pow_q v n)

-- a 0 - a 1 + a 2 - .., n terms
unfoldable pub alternating : (ℕ → Frac) → ℕ → Frac
unfolding add_q sub_q
alternating a zero = whole 0
alternating a (suc n) = cond (eqb (n % 2) 0) (add_q (alternating a n) (a n)) (sub_q (alternating a n) (a n))

-- v ^ (2 * i + 1) / (2 * i + 1)
unfoldable pub arctangent_term : Frac → ℕ → Frac
unfolding mul_q pow_q
arctangent_term v i = mul_q (pow_q v (2 * i + 1)) (one_over (2 * i + 1))

-- ---- π

-- 4 * (4 * arctan (1/5) - arctan (1/239)), n terms of the first arctangent and m of the second
unfoldable pub machin : ℕ → ℕ → Frac
unfolding mul_q sub_q alternating arctangent_term
machin n m = mul_q (whole 4) (sub_q (mul_q (whole 4) (alternating (arctangent_term (one_over 5)) n)) (alternating (arctangent_term (one_over 239)) m))

unfoldable pub pi_low : Frac
unfolding machin
pi_low = machin 24 9

unfoldable pub pi_high : Frac
unfolding machin
pi_high = machin 25 8

-- x ≤ y
abbrev pub AtMostQ : Frac → Frac → Type 0
AtMostQ x y = lt_q y x ≡ false

-- every longer sum of Machin's formula, of any two counts, lies between the two, and these are less than 2 ^ -100 apart. All of them are fractions, with a denominator that is not 0.
pub record PiHeld : Type 0 where
  pub fractions : (n m : ℕ) → 0 < (machin n m).den
  pub held : (n m : ℕ) → 24 ≤ n → 8 ≤ m → AtMostQ pi_low (machin n m) × AtMostQ (machin n m) pi_high
  pub apart : lt_q (sub_q pi_high pi_low) (one_over (2 ^ 100)) ≡ true

-- ---- the constants

-- the number halfway between two doubles
unfoldable pub halfway : Float → Float → Frac
unfolding mul_q add_q frac_of
halfway x y = mul_q (add_q (frac_of x) (frac_of y)) (one_over 2)

-- every number from `low` to `high` is nearer to the double with the bits b, one without a sign, than to any other: it lies above the number halfway to the double before and below
-- the number halfway to the double after
pub record NearestTo (b : ℕ) (low high : Frac) : Type 0 where
  pub above : lt_q (halfway (of_bits binary64 (b - 1)) (of_bits binary64 b)) low ≡ true
  pub below : lt_q high (halfway (of_bits binary64 b) (of_bits binary64 (b + 1))) ≡ true

-- x is the first 33 binary digits of every number from `low` to `high`, which lie from 4 to 8: n of 2 ^ -30, n having 33 digits, and the rest less than one more
pub record First33Digits (x : Float) (n : ℕ) (low high : Frac) : Type 0 where
  pub value : (sub_q (frac_of x) (mul_q (whole n) (one_over (2 ^ 30)))).num ≡ pos 0
  pub digits : (2 ^ 32 ≤ n) × (n < 2 ^ 33)
  pub from : AtMostQ (frac_of x) low
  pub rest : lt_q high (mul_q (whole (n + 1)) (one_over (2 ^ 30))) ≡ true

abbrev pub twice : Frac → Frac
twice x = mul_q (whole 2) x

abbrev pub over : ℕ → Frac → Frac
over n x = mul_q (one_over n) x

pub record TurnConstants : Type 0 where
  pub two_pi : NearestTo (to_bits binary64 tau) (twice pi_low) (twice pi_high)
  pub one_pi : NearestTo (to_bits binary64 pi) pi_low pi_high
  pub half_pi_is : NearestTo (to_bits binary64 half_pi) (over 2 pi_low) (over 2 pi_high)
  pub quarter_pi_is : NearestTo (to_bits binary64 quarter_pi) (over 4 pi_low) (over 4 pi_high)
  pub first : First33Digits tau1 6746518852 (twice pi_low) (twice pi_high)
  pub second : NearestTo (to_bits binary64 tau2) (sub_q (twice pi_low) (frac_of tau1)) (sub_q (twice pi_high) (frac_of tau1))

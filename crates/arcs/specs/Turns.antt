-- What it says that k is the number of whole turns in t, that what is left is at most one turn, and how near it is to what is left in fractions. Document 02, 3/14. The proofs are `turns_greatest` in
-- proofs/TurnLaws.antt, `reduced_in_turn` in proofs/InTurn.antt and `reduced_near` in proofs/TurnsNear.antt. Definitions and statements.
use Rattle.std.specs.Prelude.{ℕ, ◌*◌, ◌^◌, ◌≤◌, ◌≡◌, true, false, Float}
use Rattle.std.specs.Float.Ieee.{le}
use Rattle.std.specs.Float.Ieee.Positive.{num, den}
use Rattle.numbers.specs.Frac.{Frac, add_q, sub_q, mul_q, frac_of}
use Rattle.numbers.specs.Double.{is_finite, negative}
use Rattle.arcs.specs.Arcs.{tau, turn_num, turn_den}
use Rattle.arcs.specs.Pi.{whole, one_over, twice, pi_low, pi_high, AtMostQ}

-- k is the greatest whole number with k * (T1 + T2) not above t: t is num t / den t, and T1 + T2 is turn_num / turn_den
pub record Greatest (t : Float) (k : ℕ) : Type 0 where
  pub fitting : k * turn_num * den t ≤ num t * turn_den
  pub greatest : (j : ℕ) → j * turn_num * den t ≤ num t * turn_den → j ≤ k

-- a is finite, without the sign bit, and at most T
pub record InTurn (a : Float) : Type 0 where
  pub number : is_finite a ≡ true
  pub plus : negative a ≡ false
  pub most : le a tau ≡ true

-- t less k turns, a turn being x, in fractions
abbrev pub less_q : Float → ℕ → Frac → Frac
less_q t k x = sub_q (frac_of t) (mul_q (whole k) x)

-- a lies within 2 ^ -50 of t less k turns, whichever number from 2 * pi_low to 2 * pi_high a turn is: of the least, with turns of 2 * pi_high, and of the most, with turns of 2 * pi_low
pub record NearTurns (t a : Float) (k : ℕ) : Type 0 where
  pub above : AtMostQ (sub_q (frac_of a) (one_over (2 ^ 50))) (less_q t k (twice pi_high))
  pub below : AtMostQ (less_q t k (twice pi_low)) (add_q (frac_of a) (one_over (2 ^ 50)))

-- What is left of a double over 64 and up to 2 ^ 20 lies within 2 ^ -50 of t less its turns of 2π (`reduced_near`): the last difference is rounded by at most 2 ^ -51, the product k * T2 by at most
-- 2 ^ -67, and k times what T1 + T2 lacks of 2π is at most 2 ^ -67. Assumes nothing.
use Prim.Native.Nat.{ℕ, ◌+◌, ◌-◌, ◌*◌, ◌^◌, ◌≤◌, ◌<◌}
use native.Mathlib.Nat.{le_trans, le_of_eq, le_of_lt, lt_of_le_of_lt, mul_assoc, mul_comm, mul-add, add-mul, mul-le-mul_right, mul-lt-mul_of_pos_right, le_of_mul-le-mul_right, le_refl, add-le-add, sub-add_cancel, zero-mul, mul-zero, one-mul, add-zero, zero-add, sub-le}
use native.Mathlib.Omega.{arith}
use mathlib.Core.Path.{◌≡◌, refl, sym, ap, ◌∙◌, subst}
use mathlib.Core.Bool.{true, false, true≢false}
use lib.IntN.{pos}
use lib.Dec.{T, leb→le}
use lib.Pow.{pow_pos}
use lib.Ieee.{Float, nan, inf, fin, binary64, up, down, round, fits}
use lib.Ieee.Bits.{is_true}
use lib.Ieee.Exact.{HasValue}
use Rattle.numbers.specs.Frac.{Frac, add_q, neg_q, sub_q, mul_q, lt_q, frac_of}
use Rattle.numbers.proofs.Round.{round_moves}
use Rattle.arcs.specs.Arcs.{turns, far, less_turns, reduced}
use Rattle.arcs.specs.Pi.{whole, one_over, twice, pi_low, pi_high, AtMostQ}
use Rattle.arcs.specs.Turns.{NearTurns}
use Rattle.arcs.specs.TurnSteps.{first_part, second_part}
use Rattle.arcs.proofs.AlternatingLaws.{Is, is_add, is_sub, is_mul, at_most_of, at_most_trans, add_at_most, sub_at_most, mul_at_most_left, whole_not_below}
use Rattle.numbers.proofs.CloseLaws.{ring}
use Rattle.arcs.proofs.Values.{rescaled}
use Rattle.arcs.proofs.FarLaws.{far_value}
use Rattle.arcs.proofs.InTurn.{k, j, v, Left, left_units, Worked, worked}
use Rattle.arcs.proofs.InTurn as long

-- ---- a number without a sign and the fraction that it is
abbrev fraction : ℕ → ℕ → Frac
fraction a c = record { num = pos a; den = c }

is_over : (a c : ℕ) → Is (fraction a c) a 0
is_over a c = record { value = omega arith }

crossed : (x y a b : ℕ) → x ≡ y → x + 0 * a ≤ 0 * b + y
crossed x y a b e = le_trans (le_of_eq (ap (λ (z : ℕ). x + z) (zero-mul a) ∙ add-zero x)) (le_trans (le_of_eq e) (le_of_eq (sym (ap (λ (z : ℕ). z + y) (zero-mul b) ∙ zero-add y))))

value_most : (x : Float) (a c : ℕ) → HasValue x false a c → AtMostQ (frac_of x) (fraction a c)
unfolding frac_of
value_most nan a c h = absurd h
value_most (inf s) a c h = absurd h
value_most (fin true m e) a c h = absurd (true≢false h.0)
value_most (fin false m e) a c h = at_most_of (is_over (m * up e) (down e)) (is_over a c) (crossed (m * up e * c) (a * down e) (down e) c h.1)

value_least : (x : Float) (a c : ℕ) → HasValue x false a c → AtMostQ (fraction a c) (frac_of x)
unfolding frac_of
value_least nan a c h = absurd h
value_least (inf s) a c h = absurd h
value_least (fin true m e) a c h = absurd (true≢false h.0)
value_least (fin false m e) a c h = at_most_of (is_over a c) (is_over (m * up e) (down e)) (crossed (a * down e) (m * up e * c) c (down e) (sym h.1))

-- ---- over one denominator
module _ (d : ℕ) (D : 0 < d) where
  less_over : (a e x k z : ℕ) → a + k * z ≤ e + x → AtMostQ (sub_q (fraction a d) (fraction e d)) (sub_q (fraction x d) (mul_q (whole k) (fraction z d)))
  unfolding sub_q add_q neg_q mul_q
  less_over a e x k z h =
      at_most_of (is_sub (is_over a d) (is_over e d)) (is_sub (is_over x d) (is_mul (is_over k 1) (is_over z d)))
      (le_trans (le_of_eq low) (le_trans (mul-le-mul_right (d * (d * d)) h) (le_of_eq high)))
    where
      low : (a * d + 0 * d) * (d * (1 * d)) + (0 * (1 * d) + (k * z + 0) * d) * (d * d) ≡ (a + k * z) * (d * (d * d))
      low = simp (zero-mul, one-mul, add-zero, zero-add, ring)

      high : (e + x) * (d * (d * d)) ≡ (0 * d + e * d) * (d * (1 * d)) + (x * (1 * d) + (k * 0 + 0 * z) * d) * (d * d)
      high = simp (zero-mul, mul-zero, one-mul, add-zero, zero-add, ring)

  over_less : (a e x k z : ℕ) → x ≤ k * z + (a + e) → AtMostQ (sub_q (fraction x d) (mul_q (whole k) (fraction z d))) (add_q (fraction a d) (fraction e d))
  unfolding sub_q add_q neg_q mul_q
  over_less a e x k z h =
      at_most_of (is_sub (is_over x d) (is_mul (is_over k 1) (is_over z d))) (is_add (is_over a d) (is_over e d))
      (le_trans (le_of_eq low) (le_trans (mul-le-mul_right (d * (d * d)) h) (le_of_eq high)))
    where
      low : (x * (1 * d) + (k * 0 + 0 * z) * d) * (d * d) + (0 * d + 0 * d) * (d * (1 * d)) ≡ x * (d * (d * d))
      low = simp (zero-mul, mul-zero, one-mul, add-zero, ring)

      high : (k * z + (a + e)) * (d * (d * d)) ≡ (0 * (1 * d) + (k * z + 0) * d) * (d * d) + (a * d + e * d) * (d * (1 * d))
      high = simp (zero-mul, one-mul, add-zero, zero-add, ring)

-- ---- the sums, in units of 2 ^ -1074
more_sum : (A p g w r s c Y E F : ℕ) → A ≤ p + E → p + g ≡ w → s ≤ g + F → c ≤ F → r + w ≡ Y → A + (r + s + c) ≤ E + F + F + Y
more_sum A p g w r s c Y E F h1 h2 h3 h4 h5 = omega arith

less_sum : (A p g w r s Y E F : ℕ) → p ≤ A + E → p + g ≡ w → g ≤ s + F → r + w ≡ Y → Y ≤ r + s + (A + (E + F))
less_sum A p g w r s Y E F h1 h2 h3 h4 = omega arith

-- T1 + T2 and 2 ^ -85 more, which no number that 2π may be is above, and T1 + T2, which none is below
abbrev long_turn : ℕ
long_turn = first_part * 2 ^ 1044 + second_part * 2 ^ 990 + 2 ^ 989

abbrev short_turn : ℕ
short_turn = first_part * 2 ^ 1044 + second_part * 2 ^ 990

-- 2 ^ -50 in these units
abbrev most : ℕ
most = 2 ^ 1024

two_pi_most : AtMostQ (twice pi_high) (fraction long_turn (2 ^ 1074))
unfolding pi_high lt_q
two_pi_most = refl

two_pi_least : AtMostQ (fraction short_turn (2 ^ 1074)) (twice pi_low)
unfolding pi_low lt_q
two_pi_least = refl

half_place : AtMostQ (fraction most (2 ^ 1074)) (one_over (2 ^ 50))
unfolding lt_q
half_place = refl

module _ (t : Float) (f : T (fits binary64 t)) (h : T (far t)) where
  u : Left (k t f h) (j t f h)
  u = left_units t f h

  w : Worked t f h
  w = worked t f h

  abbrev K : ℕ
  K = k t f h

  abbrev J : ℕ
  J = j t f h

  abbrev Y : ℕ
  Y = v t f h * 2 ^ 1028

  abbrev p : ℕ
  p = J * 2 ^ 1028 - w.g

  small : p * 2 ^ 1074 < 2 ^ 1077 * 2 ^ 1074
  small = mul-lt-mul_of_pos_right (lt_of_le_of_lt (sub-le (J * 2 ^ 1028) w.g) (mul-lt-mul_of_pos_right u.short (pow_pos 1028))) (pow_pos 1074)

  moved : (A : ℕ) × HasValue (round binary64 false p (2 ^ 1074)) false A (2 ^ 1074) × (A * 2 ^ 1074 ≤ p * 2 ^ 1074 + 2 ^ 1074 * 2 ^ 1023) × (p * 2 ^ 1074 ≤ A * 2 ^ 1074 + 2 ^ 1074 * 2 ^ 1023)
  moved = round_moves binary64 false p (2 ^ 1074) 1023 (pow_pos 1074) small (leb→le 1078 2098 tt)

  abbrev A : ℕ
  A = moved.0

  value : HasValue (less_turns t K) false A (2 ^ 1074)
  value = subst (λ (x : Float). HasValue x false A (2 ^ 1074)) (sym w.is) moved.1

  divided : (x y : ℕ) → x * 2 ^ 1074 ≤ y * 2 ^ 1074 + 2 ^ 1074 * 2 ^ 1023 → x ≤ y + 2 ^ 1023
  divided x y l = le_of_mul-le-mul_right (le_trans l (le_of_eq (ap (λ (z : ℕ). y * 2 ^ 1074 + z) (mul_comm (2 ^ 1074) (2 ^ 1023)) ∙ sym (add-mul y (2 ^ 1023) (2 ^ 1074))))) (pow_pos 1074)

  whole_angle : K * (first_part * 2 ^ 1044) + J * 2 ^ 1028 ≡ Y
  whole_angle =
      ap (λ (z : ℕ). z + J * 2 ^ 1028) (sym (mul_assoc K first_part (2 ^ 1044)) ∙ sym (mul_assoc (K * first_part) (2 ^ 16) (2 ^ 1028)))
      ∙ sym (add-mul (K * first_part * 2 ^ 16) J (2 ^ 1028))
      ∙ ap (λ (z : ℕ). z * 2 ^ 1028) (long.whole t f h)

  taken : p + w.g ≡ J * 2 ^ 1028
  taken = sub-add_cancel w.under

  second : K * second_part * 2 ^ 990 ≡ K * (second_part * 2 ^ 990)
  second = mul_assoc K second_part (2 ^ 990)

  rest : K * 2 ^ 989 ≤ 2 ^ 1007
  rest = mul-le-mul_right (2 ^ 989) (le_of_lt u.few)

  upper : A + K * long_turn ≤ most + Y
  upper =
      le_trans (le_of_eq (ap (λ (z : ℕ). A + z) (mul-add K short_turn (2 ^ 989) ∙ ap (λ (z : ℕ). z + K * 2 ^ 989) (mul-add K (first_part * 2 ^ 1044) (second_part * 2 ^ 990)))))
      (le_trans (more_sum A p w.g (J * 2 ^ 1028) (K * (first_part * 2 ^ 1044)) (K * (second_part * 2 ^ 990)) (K * 2 ^ 989) Y (2 ^ 1023) (2 ^ 1007) (divided A p moved.2) taken (le_trans (le_of_eq (sym second)) w.lower) rest whole_angle)
      (add-le-add (leb→le (2 ^ 1023 + 2 ^ 1007 + 2 ^ 1007) most tt) (le_refl Y)))

  lower : Y ≤ K * short_turn + (A + most)
  lower =
      le_trans (less_sum A p w.g (J * 2 ^ 1028) (K * (first_part * 2 ^ 1044)) (K * (second_part * 2 ^ 990)) Y (2 ^ 1023) (2 ^ 1007) (divided p A moved.3) taken (le_trans w.upper (le_of_eq (ap (λ (z : ℕ). z + 2 ^ 1007) second))) whole_angle)
      (add-le-add (le_of_eq (sym (mul-add K (first_part * 2 ^ 1044) (second_part * 2 ^ 990)))) (add-le-add (le_refl A) (leb→le (2 ^ 1023 + 2 ^ 1007) most tt)))

  angle : HasValue t false Y (2 ^ 1074)
  angle = rescaled t false (v t f h) (2 ^ 46) Y (2 ^ 1074) (pow_pos 46) (mul_assoc (v t f h) (2 ^ 1028) (2 ^ 46)) (far_value t f h)

  less_near : NearTurns t (less_turns t K) K
  unfolding sub_q add_q mul_q
  less_near =
      let d = 2 ^ 1074 in
      record {
        above =
            at_most_trans _ _ _ (pow_pos 2148) (sub_at_most (frac_of (less_turns t K)) (fraction A d) (one_over (2 ^ 50)) (fraction most d) (value_most (less_turns t K) A d value) half_place)
            (at_most_trans _ _ _ (pow_pos 2148) (less_over d (pow_pos 1074) A most Y K long_turn upper)
            (sub_at_most (fraction Y d) (frac_of t) (mul_q (whole K) (fraction long_turn d)) (mul_q (whole K) (twice pi_high)) (value_least t Y d angle) (mul_at_most_left (whole K) (twice pi_high) (fraction long_turn d) (whole_not_below K) two_pi_most)));
        below =
            at_most_trans _ _ _ (pow_pos 2148)
            (sub_at_most (frac_of t) (fraction Y d) (mul_q (whole K) (twice pi_low)) (mul_q (whole K) (fraction short_turn d)) (value_most t Y d angle) (mul_at_most_left (whole K) (fraction short_turn d) (twice pi_low) (whole_not_below K) two_pi_least))
            (at_most_trans _ _ _ (pow_pos 2148) (over_less d (pow_pos 1074) A most Y K short_turn lower)
            (add_at_most (fraction A d) (frac_of (less_turns t K)) (fraction most d) (one_over (2 ^ 50)) (value_least (less_turns t K) A d value) half_place));
      }

pub reduced_near : (t : Float) → T (fits binary64 t) → T (far t) → NearTurns t (reduced t) (turns t)
unfolding reduced
reduced_near t f h = rw (is_true (far t) h) (less_near t f h)

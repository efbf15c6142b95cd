-- An angle over 64 and up to 2 ^ 20: what its tests say, and its bits, by which it is a whole number of units of 2 ^ -46. Assumes nothing.
use Prim.Native.Nat.{ℕ, ◌+◌, ◌-◌, ◌*◌, ◌/◌, ◌%◌, ◌^◌, ◌≤◌, ◌<◌}
use native.Mathlib.Nat.{le_trans, eq-zero-or-pos, le_of_lt, le_of_suc-le-suc, lt-suc_self, sub-add_cancel, add-mul, le_of_eq, lt_of_lt_of_le, lt_of_le_of_lt, lt_of_not-le, not-le_of_lt, mul_assoc, mul_right_comm, mul-le-mul_left, mul-le-mul_right, mul-lt-mul_of_pos_right, lt_of_mul-lt-mul_right, le_of_mul-le-mul_right, eq_of_mul-eq-mul_right, mod-lt}
use native.Mathlib.Omega.{arith}
use mathlib.Core.Path.{◌≡◌, refl, sym, ap, ◌∙◌}
use mathlib.Core.Logic.{inl, inr}
use mathlib.Core.Bool.{true, false, not, false≢true}
use lib.Dec.{T, ltb, ltb→lt, lt→ltb}
use lib.Pow.{pow_pos, pow-add, pow_mono, pow-lt, split, low, mod-mod-pow}
use lib.Ieee.{Float, nan, inf, fin, binary64, up, down, lt, le, eq, fits, of_bits, to_bits, is_nan}
use lib.Ieee.Bits.{is_true, is_false}
use lib.Ieee.Fits.{and_l, and_r, down_pos}
use lib.Ieee.Exact.{HasValue}
use lib.Ieee.Positive.{num, den, den_pos, positive, first_pos, value→cross}
use borrow.Author.Tests.{ltb-true, le-ltb, leb-false}
use Rattle.numbers.specs.Double.{negative}
use Rattle.numbers.specs.Bits.{field, significand, exponent}
use Rattle.numbers.proofs.DoubleLaws.{negative_bits}
use Rattle.numbers.proofs.CloseLaws.{ring}
use Rattle.numbers.proofs.ValueOrder.{le_says}
use Rattle.numbers.proofs.BitLaws.{significand_low, significand_normal, exponent_is, by_bits}
use Rattle.arcs.specs.Arcs.{tau, far}
use Rattle.arcs.specs.TurnSteps.{Steps}
use Rattle.arcs.proofs.root.Bits.{positive_no_nan}

-- what the two tests say
pub record Between (t : Float) : Type 0 where
  pub above : T (positive t)
  pub plus : negative t ≡ false
  pub over : 2 ^ 6 * den t < num t
  pub up_to : num t ≤ 2 ^ 20 * den t

pub far_between : (t : Float) → T (far t) → Between t
unfolding far lt le eq of_bits negative
far_between nan h = absurd h
far_between (inf true) h = absurd h
far_between (inf false) h = absurd h
far_between (fin true m e) h = absurd h
far_between (fin false m e) h =
    let D = down_pos e in
    let l : 1 * 2 ^ 6 * down e < m * up e * 1 = ltb→lt _ _ (and_l (ltb (1 * 2 ^ 6 * down e) (m * up e * 1)) _ h) in
    let u : m * up e * 1 ≤ 1 * 2 ^ 20 * down e = le_says (m * up e * 1) (1 * 2 ^ 20 * down e) true (and_r (ltb (1 * 2 ^ 6 * down e) (m * up e * 1)) _ h) in
    record { above = lt→ltb 0 m (first_pos m (up e) (omega arith)); plus = refl; over = omega arith; up_to = omega arith }

-- below T the first test fails
pub near_not_far : (t : Float) → lt t tau ≡ true → far t ≡ false
unfolding far lt le eq of_bits
near_not_far nan h = refl
near_not_far (inf true) h = refl
near_not_far (inf false) h = absurd (false≢true h)
near_not_far (fin true m e) h = refl
near_not_far (fin false m e) h =
    let l : m * up e * 140737488355328 < 884279719003555 * 1 * down e = ltb-true _ _ h in
    let D = down_pos e in
    rw (le-ltb (1 * 2 ^ 6 * down e) (m * up e * 1) (omega (arith, l, D)))

-- ---- the exponent's field, of g * 2 ^ x
module _ (g x : ℕ) where
  -- over 2 ^ 1080, g having at most 53 digits
  field_above : g < 2 ^ 53 → 2 ^ 1080 < g * 2 ^ x → 1028 ≤ x
  field_above small h = lt_of_not-le (λ (q : x ≤ 1027). not-le_of_lt h (le_trans (le_of_lt (mul-lt-mul_of_pos_right small (pow_pos x))) (mul-le-mul_left (2 ^ 53) (pow_mono q))))

  -- up to 2 ^ 1094, g having at least 53 digits
  field_below : 2 ^ 52 ≤ g → g * 2 ^ x ≤ 2 ^ 1094 → x ≤ 1042
  field_below big h =
      le_of_suc-le-suc (lt_of_not-le (λ (q : 1043 ≤ x). not-le_of_lt (lt_of_lt_of_le (pow-lt {i = 1094} {j = 1095} (lt-suc_self 1094)) (le_trans (mul-le-mul_left (2 ^ 52) (pow_mono q)) (mul-le-mul_right (2 ^ x) big))) h))

-- d * 2 ^ s, cut at 2 ^ 16
cut_at : (d s : ℕ) → s ≤ 16 → d / 2 ^ (16 - s) * 2 ^ 16 + d * 2 ^ s % 2 ^ 64 % 2 ^ 16 ≡ d * 2 ^ s
cut_at d s h =
    let q = d / 2 ^ (16 - s) in
    let r = d % 2 ^ (16 - s) in
    let p : 2 ^ (16 - s) * 2 ^ s ≡ 2 ^ 16 = sym (pow-add 2 (16 - s) s) ∙ ap (λ (x : ℕ). 2 ^ x) (sub-add_cancel h) in
    let e : d * 2 ^ s ≡ q * 2 ^ 16 + r * 2 ^ s = ap (λ (x : ℕ). x * 2 ^ s) (sym (split d (16 - s))) ∙ add-mul _ _ _ ∙ ap (λ (x : ℕ). x + r * 2 ^ s) (mul_assoc q (2 ^ (16 - s)) (2 ^ s) ∙ ap (λ (x : ℕ). q * x) p) in
    let l : r * 2 ^ s < 2 ^ 16 = lt_of_lt_of_le (mul-lt-mul_of_pos_right (mod-lt d (pow_pos (16 - s))) (pow_pos s)) (le_of_eq p) in
    rw (mod-mod-pow (d * 2 ^ s) 48 16, e, low q 16 l)

of_cross : (t : Float) → T (positive t) → (a c : ℕ) → num t * c ≡ a * den t → HasValue t false a c
of_cross nan p a c h = absurd p
of_cross (inf s) p a c h = absurd p
of_cross (fin true m e) p a c h = absurd p
of_cross (fin false m e) p a c h = (refl, h)

module _ (t : Float) (f : T (fits binary64 t)) (h : T (far t)) where
  at : Between t
  at = far_between t h

  pub number : T (not (is_nan t))
  number = positive_no_nan t at.above

  abbrev b : ℕ
  b = to_bits binary64 t

  value : num t * 2 ^ 1074 ≡ significand b * 2 ^ exponent b * den t
  value = value→cross t (significand b * 2 ^ exponent b) (2 ^ 1074) (by_bits t f at.above)

  -- over 64 and up to 2 ^ 20, in units of 2 ^ -1074
  over_units : 2 ^ 1080 < significand b * 2 ^ exponent b
  over_units = lt_of_mul-lt-mul_right (den t) (lt_of_lt_of_le (lt_of_le_of_lt (le_of_eq (unit_64 (den t))) (mul-lt-mul_of_pos_right at.over (pow_pos 1074))) (le_of_eq value))
    where
      unit_64 : (d : ℕ) → 2 ^ 1080 * d ≡ 2 ^ 6 * d * 2 ^ 1074
      unit_64 d = sym (mul_right_comm (2 ^ 6) d (2 ^ 1074))

  up_to_units : significand b * 2 ^ exponent b ≤ 2 ^ 1094
  up_to_units = le_of_mul-le-mul_right (le_trans (le_of_eq (sym value)) (le_trans (mul-le-mul_right (2 ^ 1074) at.up_to) (le_of_eq (unit_20 (den t))))) (den_pos t)
    where
      unit_20 : (d : ℕ) → 2 ^ 20 * d * 2 ^ 1074 ≡ 2 ^ 1094 * d
      unit_20 d = mul_right_comm (2 ^ 20) d (2 ^ 1074)

  normal : 0 < field b
  normal = elim (eq-zero-or-pos (field b)) [ inl z ↦ absurd (none z) | inr p ↦ p ]
    where
      none : field b ≡ 0 → ⊥
      none z =
          let g : significand b < 2 ^ 53 = omega (arith, significand_low b z) in
          let x : 1028 ≤ exponent b = field_above (significand b) (exponent b) g over_units in
          omega (arith, exponent_is b)

  pub record FarBits : Type 0 where
    pub plus : b < 2 ^ 63
    pub least : 1029 ≤ b / 2 ^ 52
    pub most : b / 2 ^ 52 ≤ 1043
    pub digits : significand b ≡ 2 ^ 52 + b % 2 ^ 52
    pub place : exponent b ≡ 1028 + (b / 2 ^ 52 - 1029)

  pub far_bits : FarBits
  far_bits =
      let g = significand_normal b normal in
      let x = exponent_is b in
      let plus : b < 2 ^ 63 = leb-false (2 ^ 63) b (negative_bits t (is_true (fits binary64 t) f) (is_false (is_nan t) number) ∙ at.plus) in
      let l : 1028 ≤ exponent b = field_above (significand b) (exponent b) (omega arith) over_units in
      let u : exponent b ≤ 1042 = field_below (significand b) (exponent b) (omega arith) up_to_units in
      record { plus = plus; least = omega arith; most = omega arith; digits = g; place = omega arith }

  steps_same : (g s : ℕ) → significand b ≡ g → exponent b ≡ 1028 + s → num t * 2 ^ 46 ≡ g * 2 ^ s * den t
  steps_same g s eg es =
      eq_of_mul-eq-mul_right (2 ^ 1028) (pow_pos 1028) (num t * 2 ^ 46) (g * 2 ^ s * den t)
      (mul_assoc (num t) (2 ^ 46) (2 ^ 1028) ∙ value ∙ rw (eg, es, pow-add 2 1028 s) (simp ring))

  -- t as a whole number of units of 2 ^ -46
  abbrev pub units46 : ℕ
  units46 = (2 ^ 52 + b % 2 ^ 52) * 2 ^ (b / 2 ^ 52 - 1029)

  pub far_value : HasValue t false units46 (2 ^ 46)
  far_value = of_cross t at.above units46 (2 ^ 46) (steps_same (2 ^ 52 + b % 2 ^ 52) (b / 2 ^ 52 - 1029) far_bits.digits far_bits.place)

  far_units : units46 ≤ 2 ^ 66
  far_units = le_of_mul-le-mul_right (le_trans (le_of_eq (sym (value→cross t units46 (2 ^ 46) far_value))) (le_trans (mul-le-mul_right (2 ^ 46) at.up_to) (le_of_eq (mul_right_comm (2 ^ 20) (den t) (2 ^ 46))))) (den_pos t)

  pub far_steps : (let s = b / 2 ^ 52 - 1029 in let d = 2 ^ 52 + b % 2 ^ 52 in Steps t (d / 2 ^ (16 - s)) (d * 2 ^ s % 2 ^ 64 % 2 ^ 16))
  far_steps =
      let s = b / 2 ^ 52 - 1029 in
      let d = 2 ^ 52 + b % 2 ^ 52 in
      let h = far_bits in
      let c = cut_at d s (omega arith) in
      record {
        value = value→cross t units46 (2 ^ 46) far_value ∙ ap (λ (x : ℕ). x * den t) (sym c);
        bottom = mod-lt (d * 2 ^ s % 2 ^ 64) (pow_pos 16);
        top = le_trans (le_of_eq c) far_units;
      }

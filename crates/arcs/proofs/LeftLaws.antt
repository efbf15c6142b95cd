-- What is left of an angle after k turns. k * T1 is exact, and so is what is left after it where that is below 8; what is left from 2 ^ -13 up to T1 shows that k is the number of turns.
-- Assumes nothing.
use Prim.Native.Nat.{ℕ, ◌+◌, ◌-◌, ◌*◌, ◌^◌, ◌≤◌, ◌<◌}
use native.Mathlib.Nat.{lt_irrefl, mul-one, mul_right_comm, eq_of_mul-eq-mul_right, le_of_suc-le-suc, lt_of_lt_of_le, lt_of_not-le, mul_assoc, mul-pos, sub-add_cancel}
use native.Mathlib.Omega.{arith}
use mathlib.Core.Path.{◌≡◌, refl, sym, ap, ◌∙◌, subst}
use mathlib.Core.Bool.{Bool, true, false, true≢false}
use lib.IntN.{ℤ, pos, negsuc}
use lib.Dec.{T, eqb, eqb→eq}
use lib.Pow.{pow_pos, pow-add, pow_mono, shl_lt}
use lib.Ieee.{Float, nan, inf, fin, binary64, unlike, up, down, round, eq, is_nan, fits, add, sub, mul, lt, le, of_int, of_bits}
use lib.Ieee.Fits.{up_pos, down_pos, and_l, and_r, of_int-fits}
use lib.Ieee.Exact.{HasValue, round_exact}
use lib.Ieee.Back.{round_whole, whole_unique}
use lib.Ieee.Order.{round_mono}
use lib.Ieee.Positive.{positive, value→cross}
use Rattle.numbers.proofs.DoubleLaws.{round_number, sum_number}
use Rattle.arcs.specs.Arcs.{tau1, tau2, turns}
use Rattle.arcs.specs.TurnSteps.{first_part, second_part}
use Rattle.arcs.proofs.TurnLaws.{turns_is}
use Rattle.numbers.proofs.ValueOrder.{le_values, lt_values}
use Rattle.arcs.proofs.Values.{rounded, rescaled, mul_values, sub_level, sub_values_under}

tau1_value : HasValue tau1 false first_part (2 ^ 30)
unfolding of_bits
tau1_value = (refl, refl)

tau2_value : HasValue tau2 false second_part (2 ^ 84)
unfolding of_bits
tau2_value = (refl, refl)

-- a whole number of at most 53 digits, over a power of two, is not rounded
exact_at : (q l : ℕ) → q < 2 ^ 53 → l ≤ 1074 → HasValue (round binary64 false q (2 ^ l)) false q (2 ^ l)
exact_at q l h L =
    round_exact binary64 false q (2 ^ l) q (1074 - l) (pow_pos l) h (lt_of_lt_of_le (shl_lt 53 (1074 - l) h) (pow_mono {i = 53 + (1074 - l)} {j = 2098} (omega arith)))
    (ap (λ (x : ℕ). q * 2 ^ x) (sym (sub-add_cancel L)) ∙ ap (λ (x : ℕ). q * x) (pow-add 2 (1074 - l) l) ∙ sym (mul_assoc q (2 ^ (1074 - l)) (2 ^ l)))

-- ---- two orders that no number meets
abbrev pub least : Float
least = fin false 1 (negsuc 12)

abbrev eight : Float
eight = fin false 1 (pos 3)

-- above 0 and with the sign
not_under : (n : ℕ) (d : ℤ) (m : ℕ) (e : ℤ) → 0 < n → T (le (fin false n d) (fin true m e)) → ⊥
unfolding le lt eq
not_under n d m e N h =
    let a = n * up d * down e in
    let z = eqb→eq a 0 (and_r (eqb a (m * up e * down d)) (eqb a 0) h) in
    lt_irrefl 0 (subst (λ (x : ℕ). 0 < x) z (mul-pos (mul-pos N (up_pos d)) (down_pos e)))

with_sign : (x : Float) (a c : ℕ) → HasValue x true a c → T (le least x) → ⊥
with_sign nan a c v h = v
with_sign (inf t) a c v h = v
with_sign (fin false m e) a c v h = true≢false (sym v.0)
with_sign (fin true m e) a c v h = not_under 1 (negsuc 12) m e (pow_pos 0) h

not_below : (x c : ℕ) → T (le least (round binary64 true x c)) → ⊥
unfolding le lt eq
not_below x c = rounded true x c (λ y. T (le least y) → ⊥) with_sign (λ h. h)

not_eight : (x : Float) → T (le eight x) → T (lt x tau1) → ⊥
unfolding le lt eq of_bits
not_eight nan h l = l
not_eight (inf true) h l = h
not_eight (inf false) h l = l
not_eight (fin true m e) h l = not_under 1 (pos 3) m e (pow_pos 0) h
not_eight (fin false m e) h l =
    let a = le_values 8 1 (m * up e) (down e) (pow_pos 0) (down_pos e) eight (fin false m e) (refl, refl) (refl, refl) h in
    let b = lt_values (m * up e) (down e) first_part (2 ^ 30) (down_pos e) (pow_pos 30) (fin false m e) tau1 (refl, refl) tau1_value l in
    let d = down_pos e in
    omega (arith, a, b, d)

-- ---- the quotient, a double that is no NaN
add_number : (x : Float) (s : Bool) (m : ℕ) (e : ℤ) → is_nan x ≡ false → is_nan (add binary64 x (fin s m e)) ≡ false
unfolding add is_nan
add_number nan s m e h = h
add_number (inf t) s m e h = refl
add_number (fin t n g) s m e h = sum_number binary64 t (n * up g * down e) s (m * up e * down g) (down g * down e)

pub quotient_number : (t : Float) → T (positive t) → is_nan (add binary64 (mul binary64 t (of_bits binary64 0x3FC4_5F30_6DC9_C883)) (of_bits binary64 0x432F_FFFF_FFFF_FFFF)) ≡ false
unfolding mul of_bits
quotient_number nan h = absurd h
quotient_number (inf s) h = absurd h
quotient_number (fin s m e) h = add_number (mul binary64 (fin s m e) (of_bits binary64 0x3FC4_5F30_6DC9_C883)) _ _ _ (round_number binary64 (unlike s false) (m * up e * (5734161139222659 * 1)) (down e * 2 ^ 55))

-- ---- a double that equals a whole number above 0 is that number
level_value : (m e' n q d' : ℕ) → 0 < d' → m * d' ≡ q * e' → q * 1 ≡ n * d' → m * 1 ≡ n * e'
level_value m e' n q d' D h k = eq_of_mul-eq-mul_right d' D (m * 1) (n * e') (ap (λ (x : ℕ). x * d') (mul-one m) ∙ h ∙ ap (λ (x : ℕ). x * e') (sym (mul-one q) ∙ k) ∙ mul_right_comm n d' e')

value_of_eq : (x y : Float) (n : ℕ) → 0 < n → HasValue y false n 1 → T (eq x y) → HasValue x false n 1
unfolding eq
value_of_eq nan y n N v h = absurd h
value_of_eq (inf s) nan n N v h = absurd v
value_of_eq (inf s) (inf t) n N v h = absurd v
value_of_eq (inf s) (fin t q d) n N v h = absurd h
value_of_eq (fin s m e) nan n N v h = absurd v
value_of_eq (fin s m e) (inf t) n N v h = absurd v
value_of_eq (fin s m e) (fin true q d) n N v h = absurd (true≢false v.0)
value_of_eq (fin false m e) (fin false q d) n N v h = (refl, level_value (m * up e) (down e) n (q * up d) (down d) (down_pos d) (eqb→eq _ _ (and_l (eqb (m * up e * down d) (q * up d * down e)) true h)) v.1)
value_of_eq (fin true m e) (fin false q d) n N v h =
    let a = m * up e * down d in
    let b = q * up d * down e in
    let same : a ≡ b = eqb→eq a b (and_l (eqb a b) (eqb a 0) h) in
    let none : a ≡ 0 = eqb→eq a 0 (and_r (eqb a b) (eqb a 0) h) in
    let full : b ≡ n * down d * down e = ap (λ (x : ℕ). x * down e) (sym (mul-one (q * up d)) ∙ v.1) in
    absurd (lt_irrefl 0 (subst (λ (x : ℕ). 0 < x) (sym full ∙ sym same ∙ none) (mul-pos (mul-pos N (down_pos d)) (down_pos e))))

-- ---- k as a double, k * T1 exactly, k * T2 rounded once
module _ (k : ℕ) (small : k < 2 ^ 18) where
  whole_value : HasValue (of_int binary64 (pos k)) false k 1
  unfolding of_int
  whole_value = round_whole binary64 false k (omega arith)

  pub same_whole : (x : Float) → T (fits binary64 x) → 0 < k → T (eq x (of_int binary64 (pos k))) → x ≡ of_int binary64 (pos k)
  same_whole x f K h = whole_unique binary64 x (of_int binary64 (pos k)) false k f (of_int-fits binary64 (pos k)) (value_of_eq x (of_int binary64 (pos k)) k K whole_value h) whole_value

  pub first_value : HasValue (mul binary64 (of_int binary64 (pos k)) tau1) false (k * first_part) (2 ^ 30)
  first_value =
      subst (λ (x : Float). HasValue x false (k * first_part) (2 ^ 30)) (sym (mul_values k 1 first_part (2 ^ 30) (pow_pos 0) (pow_pos 30) (of_int binary64 (pos k)) tau1 whole_value tau1_value))
      (exact_at (k * first_part) 30 (omega arith) (omega arith))

  pub second_is : mul binary64 (of_int binary64 (pos k)) tau2 ≡ round binary64 false (k * second_part) (2 ^ 84)
  second_is = mul_values k 1 second_part (2 ^ 84) (pow_pos 0) (pow_pos 84) (of_int binary64 (pos k)) tau2 whole_value tau2_value

  -- ---- an angle of v units of 2 ^ -46
  module _ (t : Float) (v : ℕ) (h : HasValue t false v (2 ^ 46)) where
    abbrev left : Float
    left = sub binary64 t (mul binary64 (of_int binary64 (pos k)) tau1)

    first_units : HasValue (mul binary64 (of_int binary64 (pos k)) tau1) false (k * first_part * 2 ^ 16) (2 ^ 46)
    first_units = rescaled (mul binary64 (of_int binary64 (pos k)) tau1) false (k * first_part) (2 ^ 30) (k * first_part * 2 ^ 16) (2 ^ 46) (pow_pos 30) (mul_assoc (k * first_part) (2 ^ 16) (2 ^ 30)) first_value

    pub left_is : (j : ℕ) → k * first_part * 2 ^ 16 + j ≡ v → left ≡ round binary64 false j (2 ^ 46)
    left_is j e =
        sub_level v (k * first_part * 2 ^ 16) (2 ^ 46) t (mul binary64 (of_int binary64 (pos k)) tau1) (pow_pos 46) h first_units (omega (arith, e))
        ∙ ap (λ (x : ℕ). round binary64 false x (2 ^ 46)) (omega (arith, e))

    pub left_value : (j : ℕ) → k * first_part * 2 ^ 16 + j ≡ v → j < 2 ^ 53 → HasValue left false j (2 ^ 46)
    left_value j e l = subst (λ (x : Float). HasValue x false j (2 ^ 46)) (sym (left_is j e)) (exact_at j 46 l (omega arith))

    -- ---- an estimate that leaves from 2 ^ -13 up to T1 is the number of turns
    module _ (from : T (le least left)) (under : T (lt left tau1)) where
      reached : k * first_part * 2 ^ 16 ≤ v
      reached = le_of_suc-le-suc (lt_of_not-le (λ (l : v < k * first_part * 2 ^ 16). not_below _ _ (subst (λ (x : Float). T (le least x)) (sub_values_under v (2 ^ 46) (k * first_part * 2 ^ 16) (2 ^ 46) (pow_pos 46) (pow_pos 46) t (mul binary64 (of_int binary64 (pos k)) tau1) h first_units (omega arith)) from)))

      abbrev j : ℕ
      j = v - k * first_part * 2 ^ 16

      all : k * first_part * 2 ^ 16 + j ≡ v
      all = omega (arith, reached)

      short : j < 2 ^ 49
      unfolding round
      short = lt_of_not-le (λ (l : 2 ^ 49 ≤ j). not_eight left (subst (λ (x : Float). T (le eight x)) (sym (left_is j all)) (round_mono binary64 8 1 j (2 ^ 46) (pow_pos 0) (pow_pos 46) (omega (arith, l)))) under)

      value : HasValue left false j (2 ^ 46)
      value = left_value j all (omega (arith, short))

      at_least : 2 ^ 33 ≤ j
      at_least = let l = le_values 1 (2 ^ 13) j (2 ^ 46) (pow_pos 13) (pow_pos 46) least left (refl, refl) value from in omega (arith, l)

      at_most : j < first_part * 2 ^ 16
      at_most = let l = lt_values j (2 ^ 46) first_part (2 ^ 30) (pow_pos 46) (pow_pos 30) left tau1 value tau1_value under in omega (arith, l)

      pub estimate_right : k ≡ turns t
      estimate_right = turns_is t v (value→cross t v (2 ^ 46) h) k (omega (arith, all, at_least)) (omega (arith, all, at_most))

-- Numbers without a sign by the fractions that they are: the same number as another fraction, products and differences; and what a rounded number may be. Assumes nothing.
use Prim.Native.Nat.{ℕ, ◌-◌, ◌*◌, ◌^◌, ◌≤◌, ◌<◌}
use native.Mathlib.Nat.{lt_of_not-le, not-le_of_lt, mul-le-mul_right, mul-pos, mul_assoc, mul_comm, mul_right_comm, mul-mul-mul_comm, mul-sub, eq_of_mul-eq-mul_right}
use mathlib.Core.Path.{◌≡◌, sym, ap, ◌∙◌}
use mathlib.Core.Bool.{Bool, true, false, cond, true≢false}
use lib.IntN.{ℤ}
use lib.Dec.{ltb}
use lib.Ieee.{Float, nan, inf, fin, binary64, up, down, odd, units, round, sum, add, sub, mul, neg}
use lib.Ieee.Fits.{down_pos, round_is}
use lib.Ieee.Exact.{HasValue, odd_sign}
use lib.Ieee.Scale.{round_same}
use lib.Ieee.Order.{transfer}
use borrow.Author.Tests.{lt-ltb, le-ltb}
use Rattle.numbers.proofs.CloseLaws.{ring}

pub rescaled : (x : Float) (s : Bool) (a c p r : ℕ) → 0 < c → p * c ≡ a * r → HasValue x s a c → HasValue x s p r
rescaled nan s a c p r C e v = v
rescaled (inf t) s a c p r C e v = v
rescaled (fin t m g) s a c p r C e v = (
  v.0,
  eq_of_mul-eq-mul_right c C (m * up g * r) (p * down g)
      (mul_right_comm (m * up g) r c ∙ ap (λ (x : ℕ). x * r) v.1 ∙ mul_right_comm a (down g) r ∙ ap (λ (x : ℕ). x * down g) (sym e) ∙ mul_right_comm p c (down g)),
)

-- x * c ≡ a * y and z * d ≡ b * w: the product, and both over one denominator
product : (x y z w a c b d : ℕ) → x * c ≡ a * y → z * d ≡ b * w → x * z * (c * d) ≡ a * b * (y * w)
product x y z w a c b d h k = mul-mul-mul_comm x z c d ∙ (λ i. h i * k i) ∙ mul-mul-mul_comm a y b w

over_one : (x y w a c d : ℕ) → x * c ≡ a * y → x * w * (c * d) ≡ a * d * (y * w)
over_one x y w a c d h = mul-mul-mul_comm x w c d ∙ ap (λ (z : ℕ). z * (w * d)) h ∙ simp ring

pub sub_mul : (x y z : ℕ) → (x - y) * z ≡ x * z - y * z
sub_mul x y z = mul_comm (x - y) z ∙ mul-sub z x y ∙ (λ i. mul_comm z x i - mul_comm z y i)

module _ (a c b d : ℕ) (C : 0 < c) (D : 0 < d) where
  pub mul_values : (x y : Float) → HasValue x false a c → HasValue y false b d → mul binary64 x y ≡ round binary64 false (a * b) (c * d)
  unfolding mul
  mul_values nan y h k = absurd h
  mul_values (inf s) y h k = absurd h
  mul_values (fin true m e) y h k = absurd (true≢false h.0)
  mul_values (fin false m e) nan h k = absurd k
  mul_values (fin false m e) (inf t) h k = absurd k
  mul_values (fin false m e) (fin true n g) h k = absurd (true≢false k.0)
  mul_values (fin false m e) (fin false n g) h k =
      round_same binary64 false (m * up e * (n * up g)) (down e * down g) (a * b) (c * d) (mul-pos (down_pos e) (down_pos g)) (mul-pos C D) (product (m * up e) (down e) (n * up g) (down g) a c b d h.1 k.1)

  -- the two sides of a difference
  module _ (m n : ℕ) (e g : ℤ) (h : m * up e * c ≡ a * down e) (k : n * up g * d ≡ b * down g) where
    differ : (m * up e * down g - n * up g * down e) * (c * d) ≡ (a * d - b * c) * (down e * down g)
    differ =
        sub_mul (m * up e * down g) (n * up g * down e) (c * d)
        ∙ (λ i. over_one (m * up e) (down e) (down g) a c d h i - (ap (λ (z : ℕ). n * up g * down e * z) (mul_comm c d) ∙ over_one (n * up g) (down g) (down e) b d c k ∙ ap (λ (z : ℕ). b * c * z) (mul_comm (down g) (down e))) i)
        ∙ sym (sub_mul (a * d) (b * c) (down e * down g))

    differ_back : (n * up g * down e - m * up e * down g) * (c * d) ≡ (b * c - a * d) * (down e * down g)
    differ_back =
        sub_mul (n * up g * down e) (m * up e * down g) (c * d)
        ∙ (λ i. (ap (λ (z : ℕ). n * up g * down e * z) (mul_comm c d) ∙ over_one (n * up g) (down g) (down e) b d c k ∙ ap (λ (z : ℕ). b * c * z) (mul_comm (down g) (down e))) i - over_one (m * up e) (down e) (down g) a c d h i)
        ∙ sym (sub_mul (b * c) (a * d) (down e * down g))

  pub sub_values : (x y : Float) → HasValue x false a c → HasValue y false b d → b * c ≤ a * d → sub binary64 x y ≡ round binary64 false (a * d - b * c) (c * d)
  unfolding sub add neg sum
  sub_values nan y h k l = absurd h
  sub_values (inf s) y h k l = absurd h
  sub_values (fin true m e) y h k l = absurd (true≢false h.0)
  sub_values (fin false m e) nan h k l = absurd k
  sub_values (fin false m e) (inf t) h k l = absurd k
  sub_values (fin false m e) (fin true n g) h k l = absurd (true≢false k.0)
  sub_values (fin false m e) (fin false n g) h k l =
      rw (le-ltb (m * up e * down g) (n * up g * down e) (transfer (n * up g) (m * up e) (down g) (down e) b a d c D C k.1 h.1 l))
      (round_same binary64 false _ _ _ _ (mul-pos (down_pos e) (down_pos g)) (mul-pos C D) (differ m n e g h.1 k.1))

  pub sub_values_under : (x y : Float) → HasValue x false a c → HasValue y false b d → a * d < b * c → sub binary64 x y ≡ round binary64 true (b * c - a * d) (c * d)
  unfolding sub add neg sum
  sub_values_under nan y h k l = absurd h
  sub_values_under (inf s) y h k l = absurd h
  sub_values_under (fin true m e) y h k l = absurd (true≢false h.0)
  sub_values_under (fin false m e) nan h k l = absurd k
  sub_values_under (fin false m e) (inf t) h k l = absurd k
  sub_values_under (fin false m e) (fin true n g) h k l = absurd (true≢false k.0)
  sub_values_under (fin false m e) (fin false n g) h k l =
      rw (lt-ltb (m * up e * down g) (n * up g * down e) (lt_of_not-le (λ q. not-le_of_lt l (transfer b a d c (n * up g) (m * up e) (down g) (down e) (down_pos g) (down_pos e) (sym k.1) (sym h.1) q))))
      (round_same binary64 true _ _ _ _ (mul-pos (down_pos e) (down_pos g)) (mul-pos C D) (differ_back m n e g h.1 k.1))

-- over one denominator
pub sub_level : (a b c : ℕ) (x y : Float) → 0 < c → HasValue x false a c → HasValue y false b c → b ≤ a → sub binary64 x y ≡ round binary64 false (a - b) c
sub_level a b c x y C h k l =
    sub_values a c b c C C x y h k (mul-le-mul_right c l)
    ∙ round_same binary64 false (a * c - b * c) (c * c) (a - b) c (mul-pos C C) C (ap (λ (z : ℕ). z * c) (sym (sub_mul a b c)) ∙ mul_assoc (a - b) c c)

-- ---- a rounded number is finite, with the sign that it was given, or the infinity of that sign
of_units : (s : Bool) (P : Float → Type 0) → ((x : Float) (p r : ℕ) → HasValue x s p r → P x) → P (inf s) → (b : Bool) (q k : ℕ) → P (cond b (odd 54 s q k 1074) (inf s))
of_units s P f i true q k = f (odd 54 s q k 1074) (q * 2 ^ k) (2 ^ 1074) (odd_sign 54 s q k 1074)
of_units s P f i false q k = i

rounded_units : (s : Bool) (P : Float → Type 0) → ((x : Float) (p r : ℕ) → HasValue x s p r → P x) → P (inf s) → (q k : ℕ) → P (units binary64 s q k)
unfolding units
rounded_units s P f i q k = of_units s P f i (ltb (q * 2 ^ k) (2 ^ 2098)) q k

pub rounded : (s : Bool) (a b : ℕ) (P : Float → Type 0) → ((x : Float) (p r : ℕ) → HasValue x s p r → P x) → P (inf s) → P (round binary64 s a b)
rounded s a b P f i = rw (round_is binary64 s a b) (rounded_units s P f i _ _)

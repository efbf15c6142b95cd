-- A finite double's bits and its value: the value is what significand and exponent make (`bits_value`); for a double
-- above 0 it has no sign (`by_bits`). Assumes nothing.
use Prim.Native.Nat.{ℕ, zero, suc, ◌+◌, ◌-◌, ◌*◌, ◌%◌, ◌^◌, ◌≤◌, ◌<◌}
use mathlib.Core.Path.{◌≡◌, refl, sym, ap, subst}
use mathlib.Core.Logic.{inl, inr}
use mathlib.Core.Bool.{Bool, true, false, not, cond, false≢true}
use native.Mathlib.Nat.{eq-or-lt_of_le}
use native.Mathlib.Omega.{arith}
use lib.Dec.{T, leb, eqb, eqb→eq, eqb-suc-zero, not_T}
use lib.Pow.{pow_pos}
use lib.Ieee.{Float, nan, inf, fin, binary64, odd, of_fields, of_bits, to_bits, fits}
use lib.Ieee.Bits.{is_true, cond_no, of_bits-to_bits}
use lib.Ieee.Fits.{eq→eqb}
use lib.Ieee.Exact.{HasValue, odd_sign}
use lib.Ieee.Positive.{positive, first_pos, value_pos}
use Rattle.numbers.specs.Bits.{field, significand, exponent}
use Rattle.numbers.specs.Double.{is_finite}

-- ---- significand and exponent by the field

pub significand_low : (b : ℕ) → field b ≡ 0 → significand b ≡ b % 2 ^ 52
unfolding significand
significand_low b h = ap (λ (z : ℕ). cond (eqb z 0) (b % 2 ^ 52) (2 ^ 52 + b % 2 ^ 52)) h

by_field : (x t : ℕ) → 0 < x → cond (eqb x 0) t (2 ^ 52 + t) ≡ 2 ^ 52 + t
by_field zero t h = omega arith
by_field (suc x) t h = ap (λ (z : Bool). cond z t (2 ^ 52 + t)) (eqb-suc-zero x)

pub significand_normal : (b : ℕ) → 0 < field b → significand b ≡ 2 ^ 52 + b % 2 ^ 52
unfolding significand
significand_normal b h = by_field (field b) (b % 2 ^ 52) h

pub exponent_is : (b : ℕ) → exponent b ≡ field b - 1
unfolding exponent
exponent_is b = refl

-- ---- the value of a finite double's bits

below_top : (x : ℕ) → x < 2047 → x ≡ 2047 → ⊥
below_top x h e = omega arith

less_one : (y : ℕ) → suc y - 1 ≡ y
less_one y = omega arith

fields_value : (s : Bool) (x t : ℕ) → x < 2047
    → HasValue (of_fields binary64 s x t) s (cond (eqb x 0) t (2 ^ 52 + t) * 2 ^ (x - 1)) (2 ^ 1074)
unfolding of_fields
fields_value s zero t h = odd_sign 53 s t 0 1074
fields_value s (suc y) t h =
    let below : T (not (eqb (suc y) 2047)) =
    not_T (eqb (suc y) 2047) (λ u. below_top (suc y) h (eqb→eq (suc y) 2047 u)) in
    let size : cond (eqb (suc y) 0) t (2 ^ 52 + t) * 2 ^ (suc y - 1) ≡ (2 ^ 52 + t) * 2 ^ y =
    rw (eqb-suc-zero y, less_one y) in
    subst (λ (v : Float). HasValue v s (cond (eqb (suc y) 0) t (2 ^ 52 + t) * 2 ^ (suc y - 1)) (2 ^ 1074))
    (sym (cond_no (eqb (suc y) 2047) (cond (eqb t 0) (inf s) nan) (odd 53 s (2 ^ 52 + t) y 1074) below))
    (subst (λ (a : ℕ). HasValue (odd 53 s (2 ^ 52 + t) y 1074) s a (2 ^ 1074)) (sym size)
    (odd_sign 53 s (2 ^ 52 + t) y 1074))

pub bits_value : (b : ℕ) → field b < 2047
    → HasValue (of_bits binary64 b) (leb (2 ^ 63) b) (significand b * 2 ^ exponent b) (2 ^ 1074)
unfolding of_bits significand exponent
bits_value b h = fields_value (leb (2 ^ 63) b) (field b) (b % 2 ^ 52) h

-- the bits of a finite double: the field is not the highest
pub fields_below : (s : Bool) (x t : ℕ) → x ≤ 2047 → is_finite (of_fields binary64 s x t) ≡ true → x < 2047
unfolding of_fields is_finite
fields_below s zero t l p = omega arith
fields_below s (suc y) t l p = elim (eq-or-lt_of_le l) [ inl e ↦ absurd (top (eqb t 0) (at_top e)) | inr g ↦ g ]
  where
    at_top : suc y ≡ 2047 → is_finite (cond (eqb t 0) (inf s) nan) ≡ true
    at_top e =
        subst (λ (v : Float). is_finite v ≡ true)
        (ap (λ (z : Bool). cond z (cond (eqb t 0) (inf s) nan) (odd 53 s (2 ^ 52 + t) y 1074)) (is_true (eqb (suc y) 2047) (eq→eqb e)))
        p

    top : (z : Bool) → is_finite (cond z (inf s) nan) ≡ true → ⊥
    top true q = false≢true q
    top false q = false≢true q

positive_finite : (x : Float) → T (positive x) → is_finite x ≡ true
unfolding is_finite
positive_finite nan p = absurd p
positive_finite (inf s) p = absurd p
positive_finite (fin true m e) p = absurd p
positive_finite (fin false m e) p = refl

fields_finite : (s : Bool) (x t : ℕ) → x ≤ 2047 → T (positive (of_fields binary64 s x t)) → x < 2047
fields_finite s x t l p = fields_below s x t l (positive_finite (of_fields binary64 s x t) p)

bits_finite : (b : ℕ) → T (positive (of_bits binary64 b)) → field b < 2047
unfolding of_bits
bits_finite b p = fields_finite (leb (2 ^ 63) b) (field b) (b % 2 ^ 52) (omega arith) p

unsigned : (x : Float) (s : Bool) (a c : ℕ) → T (positive x) → HasValue x s a c → HasValue x false a c
unsigned nan s a c p h = absurd p
unsigned (inf t) s a c p h = absurd p
unsigned (fin true m e) s a c p h = absurd p
unsigned (fin false m e) s a c p h = (refl, h.1)

-- a finite double above 0, by its bits
module _ (x : Float) (f : T (fits binary64 x)) (p : T (positive x)) where
  pub field_finite : field (to_bits binary64 x) < 2047
  field_finite =
      bits_finite (to_bits binary64 x) (subst (λ (v : Float). T (positive v)) (sym (of_bits-to_bits binary64 x f)) p)

  pub by_bits : HasValue x false (significand (to_bits binary64 x) * 2 ^ exponent (to_bits binary64 x)) (2 ^ 1074)
  by_bits =
      let b = to_bits binary64 x in
      unsigned x (leb (2 ^ 63) b) (significand b * 2 ^ exponent b) (2 ^ 1074) p
      (subst (λ (v : Float). HasValue v (leb (2 ^ 63) b) (significand b * 2 ^ exponent b) (2 ^ 1074))
      (of_bits-to_bits binary64 x f) (bits_value b field_finite))

  pub significand_pos : 0 < significand (to_bits binary64 x)
  significand_pos =
      let b = to_bits binary64 x in
      first_pos (significand b) (2 ^ exponent b)
      (value_pos x (significand b * 2 ^ exponent b) (2 ^ 1074) p (pow_pos 1074) by_bits)

-- The magnitudes of doubles are in the order of their bits without the sign, read as whole numbers: what significand
-- and exponent make grows with the bits (`grows`), two numbers compare as that does (`le_level`), and the bits of the
-- infinities and the NaNs are above those of every number. Assumes nothing.
use mathlib.Core.Path.{◌≡◌, refl, sym, subst, ◌∙◌}
use mathlib.Core.Bool.{Bool, true, false, cond}
use mathlib.Core.Logic.{⊎_elim}
use Prim.Native.Nat.{ℕ, zero, suc, ◌+◌, ◌-◌, ◌*◌, ◌/◌, ◌%◌, ◌^◌, ◌<◌, ◌≤◌}
use native.Mathlib.Nat.{eq-or-lt_of_le, mul-le-mul_left, mul-le-mul_right, mul-lt-mul_of_pos_right, lt_of_lt_of_le}
use native.Mathlib.Nat.{le_of_lt, le_refl, le_trans, pow-suc}
use native.Mathlib.Omega.{arith}
use lib.Dec.{leb, eqb}
use lib.Pow.{pow_pos, pow_mono}
use lib.Ieee.{Float, nan, inf, fin, binary64, odd, of_fields, of_bits, le, lt, eq}
use lib.Ieee.Exact.{HasValue}
use borrow.Author.Tests.{leb-true, leb-false, le-leb, lt-leb}
use Rattle.numbers.specs.Double.{abs}
use Rattle.numbers.specs.Bits.{field, significand, exponent}
use Rattle.numbers.proofs.BitLaws.{bits_value, significand_low, significand_normal, exponent_is}
use Rattle.numbers.proofs.ValueOrder.{le_level}

-- ---- the magnitude of a double has its bits without the sign

abs_odd : (d : ℕ) (s : Bool) (q k l : ℕ) → abs (odd d s q k l) ≡ odd d false q k l
unfolding odd abs
abs_odd d s zero k l = refl
abs_odd d s (suc q) k l = refl

abs_cond : (a b s : Bool) (v w : Float) → abs v ≡ w
    → abs (cond a (cond b (inf s) nan) v) ≡ cond a (cond b (inf false) nan) w
unfolding abs
abs_cond true true s v w h = refl
abs_cond true false s v w h = refl
abs_cond false b s v w h = h

abs_fields : (s : Bool) (x t : ℕ) → abs (of_fields binary64 s x t) ≡ of_fields binary64 false x t
unfolding of_fields
abs_fields s zero t = abs_odd 53 s t 0 1074
abs_fields s (suc x) t =
    abs_cond (eqb (suc x) 2047) (eqb t 0) s (odd 53 s (2 ^ 52 + t) x 1074) (odd 53 false (2 ^ 52 + t) x 1074)
    (abs_odd 53 s (2 ^ 52 + t) x 1074)

pub abs_bits : (n : ℕ) → abs (of_bits binary64 n) ≡ of_bits binary64 (n % 2 ^ 63)
unfolding of_bits
abs_bits n =
    let below : n % 2 ^ 63 < 2 ^ 63 = omega arith in
    let again : n % 2 ^ 63 % 2 ^ 63 ≡ n % 2 ^ 63 = omega arith in
    let rest : n % 2 ^ 63 % 2 ^ 52 ≡ n % 2 ^ 52 = omega arith in
    abs_fields (leb (2 ^ 63) n) (n % 2 ^ 63 / 2 ^ 52) (n % 2 ^ 52)
    ∙ rw (lt-leb (2 ^ 63) (n % 2 ^ 63) below, again, rest)

-- ---- what significand and exponent make grows with the bits

-- in units of 2 ^ -1074
abbrev magnitude : ℕ → ℕ
magnitude b = significand b * 2 ^ exponent b

-- at the same field the fractions decide
same_field : (z : Bool) (t u : ℕ) → t < u → cond z t (2 ^ 52 + t) < cond z u (2 ^ 52 + u)
same_field true t u h = h
same_field false t u h = omega arith

grows_same : (a b : ℕ) → field a ≡ field b → a % 2 ^ 52 < b % 2 ^ 52 → magnitude a < magnitude b
unfolding significand exponent
grows_same a b e h =
    rw e (mul-lt-mul_of_pos_right (same_field (eqb (field b) 0) (a % 2 ^ 52) (b % 2 ^ 52) h) (pow_pos (field b - 1)))

-- what a lower field reaches is below what a higher one begins with
apart : (s m p t q : ℕ) → 0 < p → s < m → m * p ≤ 2 ^ 52 * q → 2 ^ 52 ≤ t → s * p < t * q
apart s m p t q P h k l = lt_of_lt_of_le (mul-lt-mul_of_pos_right h P) (le_trans k (mul-le-mul_right q l))

twice : (p q : ℕ) → p * 2 ≤ q → 2 ^ 53 * p ≤ 2 ^ 52 * q
twice p q h = omega arith

grows_apart : (a b : ℕ) → field a < field b → magnitude a < magnitude b
grows_apart a b h = go (field a) refl
  where
    upper : 2 ^ 52 ≤ significand b
    upper = omega (arith, significand_normal b (omega arith))

    go : (x : ℕ) → field a ≡ x → magnitude a < magnitude b
    go zero e =
        apart (significand a) (2 ^ 52) (2 ^ exponent a) (significand b) (2 ^ exponent b) (pow_pos (exponent a))
        (omega (arith, significand_low a e))
        (mul-le-mul_left (2 ^ 52) (pow_mono (omega (arith, exponent_is a, exponent_is b)))) upper
    go (suc x) e =
        let next : 2 ^ suc (exponent a) ≤ 2 ^ exponent b =
        pow_mono {i = suc (exponent a)} {j = exponent b} (omega (arith, exponent_is a, exponent_is b)) in
        apart (significand a) (2 ^ 53) (2 ^ exponent a) (significand b) (2 ^ exponent b) (pow_pos (exponent a))
        (omega (arith, significand_normal a (omega arith)))
        (twice (2 ^ exponent a) (2 ^ exponent b) (subst (λ (z : ℕ). z ≤ 2 ^ exponent b) (pow-suc 2 (exponent a)) next))
        upper

grows : (a b : ℕ) → a < b → b < 2 ^ 63 → magnitude a < magnitude b
grows a b h l =
    let fields : field a ≤ field b = omega arith in
    ⊎_elim (λ (e : field a ≡ field b). grows_same a b e (omega arith)) (λ (k : field a < field b). grows_apart a b k)
    (eq-or-lt_of_le fields)

magnitude_order : (a b : ℕ) → a < 2 ^ 63 → b < 2 ^ 63 → leb (magnitude a) (magnitude b) ≡ leb a b
magnitude_order a b h l = go (leb a b) refl
  where
    go : (z : Bool) → leb a b ≡ z → leb (magnitude a) (magnitude b) ≡ z
    go true e =
        ⊎_elim (λ (k : a ≡ b). le-leb (magnitude a) (magnitude b) (rw k (le_refl (magnitude b))))
        (λ (k : a < b). le-leb (magnitude a) (magnitude b) (le_of_lt (grows a b k l)))
        (eq-or-lt_of_le (leb-true a b e))
    go false e = lt-leb (magnitude a) (magnitude b) (grows b a (leb-false a b e) h)

-- ---- the bits of two doubles

-- an infinity and a NaN are at most no number
not_below : (z : Bool) (y : Float) (b c : ℕ) → HasValue y false b c → le (cond z (inf false) nan) y ≡ false
unfolding le lt eq
not_below z nan b c q = absurd q
not_below z (inf t) b c q = absurd q
not_below true (fin t n d) b c q = refl
not_below false (fin t n d) b c q = refl

finite_value : (b : ℕ) → b < 0x7FF0_0000_0000_0000 → HasValue (of_bits binary64 b) false (magnitude b) (2 ^ 1074)
finite_value b h =
    subst (λ (s : Bool). HasValue (of_bits binary64 b) s (magnitude b) (2 ^ 1074))
    (lt-leb (2 ^ 63) b (omega arith)) (bits_value b (omega arith))

top_bits : (a : ℕ) → a < 2 ^ 63 → 0x7FF0_0000_0000_0000 ≤ a
    → of_bits binary64 a ≡ cond (eqb (a % 2 ^ 52) 0) (inf false) nan
unfolding of_bits of_fields
top_bits a h k = let e : a % 2 ^ 63 / 2 ^ 52 ≡ 2047 = omega arith in rw (lt-leb (2 ^ 63) a h, e)

pub le_bits : (a b : ℕ) → a < 2 ^ 63 → b < 0x7FF0_0000_0000_0000 → le (of_bits binary64 a) (of_bits binary64 b) ≡ leb a b
le_bits a b h l = go (leb 0x7FF0_0000_0000_0000 a) refl
  where
    go : (z : Bool) → leb 0x7FF0_0000_0000_0000 a ≡ z → le (of_bits binary64 a) (of_bits binary64 b) ≡ leb a b
    go true e =
        let k = leb-true 0x7FF0_0000_0000_0000 a e in
        rw (top_bits a h k)
        (not_below (eqb (a % 2 ^ 52) 0) (of_bits binary64 b) (magnitude b) (2 ^ 1074) (finite_value b l)
        ∙ sym (lt-leb a b (omega arith)))
    go false e =
        let k = leb-false 0x7FF0_0000_0000_0000 a e in
        le_level (of_bits binary64 a) (of_bits binary64 b) (magnitude a) (magnitude b) (2 ^ 1074) (pow_pos 1074)
        (finite_value a k) (finite_value b l)
        ∙ magnitude_order a b h (omega arith)

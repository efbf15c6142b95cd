-- The remainder of two finite doubles is that of two whole numbers of units of 2 ^ -1074, and it is found from significands brought to one power of two, digit by digit.
-- The quotient is taken off by the equation a = b * (a / b) + a % b, times a number. Assumes nothing.
use mathlib.Core.Path.{◌≡◌, refl, sym, ap, subst, ◌∙◌}
use mathlib.Core.Bool.{Bool, true, false, not, ◌&&◌, false≢true}
use Rattle.std.proofs.lemmas.Bool.{true≢false}
use Prim.Native.Nat.{ℕ, zero, suc, ◌+◌, ◌-◌, ◌*◌, ◌/◌, ◌%◌, ◌^◌, ◌≤◌, ◌<◌}
use native.Mathlib.Nat.{mul_comm, mul_assoc, mul_left_comm, mul_right_comm, add-mul, mul-pos, mod-lt, mod-eq_of_lt, add-mul-mod_self_right, mul-lt-mul_of_pos_right, mul-one, one-mul, lt_of_lt_of_le, le_trans, le_of_eq, mul-le-mul, zero-mul, zero-lt-suc}
use native.Mathlib.Omega.{arith}
use lib.Dec.{T, leb, eqb}
use lib.Pow.{pow-add, pow_pos, pow_mono}
use lib.IntN.{ℤ, pos}
use lib.Ieee.{Float, nan, inf, fin, binary64, up, down, unlike, round, mul, rem, eq, of_int, of_bits, to_bits, fits, is_nan, nan_bits}
use lib.Ieee.Bits.{is_true, is_false, of_bits-to_bits, nan_bits_is}
use lib.Ieee.Back.{round_whole}
use lib.Ieee.Positive.{first_pos}
use lib.Arith.{lt→nleb}
use Rattle.std.proofs.Common.{le→leb}
use borrow.Author.Tests.{eqb-true}
use lib.Ieee.Fits.{up_pos, down_pos}
use lib.Ieee.Exact.{HasValue}
use lib.Ieee.Scale.{round_same}
use borrow.Author.Tests.{ne_eqb}
use Rattle.numbers.specs.Bits.{field, significand, exponent}
use Rattle.numbers.specs.Double.{is_finite, zero64}
use Rattle.numbers.proofs.BitLaws.{fields_below, bits_value, significand_low, significand_normal, exponent_is}
use Rattle.numbers.proofs.ZeroLaws.{round_own}

-- ---- whole numbers

quotient : (a b : ℕ) → 0 < b → a ≡ a % b + a / b * b
quotient a b h = rw (mul_comm (a / b) b) (omega arith)

pub mod_scaled : (a b c : ℕ) → 0 < b → 0 < c → a * c % (b * c) ≡ a % b * c
mod_scaled a b c B C =
    let e : a * c ≡ a % b * c + a / b * (b * c) = ap (λ (x : ℕ). x * c) (quotient a b B) ∙ add-mul (a % b) (a / b * b) c ∙ ap (λ (x : ℕ). a % b * c + x) (mul_assoc (a / b) b c) in
    ap (λ (x : ℕ). x % (b * c)) e ∙ add-mul-mod_self_right (a % b * c) (a / b) (b * c) ∙ mod-eq_of_lt (mul-lt-mul_of_pos_right (mod-lt a B) C)

pub mod_doubled : (a n : ℕ) → 0 < n → a % n * 2 % n ≡ a * 2 % n
mod_doubled a n N =
    let e : a * 2 ≡ a % n * 2 + a / n * 2 * n = ap (λ (x : ℕ). x * 2) (quotient a n N) ∙ add-mul (a % n) (a / n * n) 2 ∙ ap (λ (x : ℕ). a % n * 2 + x) (mul_right_comm (a / n) n 2) in
    sym (ap (λ (x : ℕ). x % n) e ∙ add-mul-mod_self_right (a % n * 2) (a / n * 2) n)

pub shifted_step : (m i n : ℕ) → 0 < n → m * 2 ^ i % n * 2 % n ≡ m * 2 ^ (i + 1) % n
shifted_step m i n N = mod_doubled (m * 2 ^ i) n N ∙ ap (λ (x : ℕ). x % n) (mul_assoc m (2 ^ i) 2 ∙ ap (λ (x : ℕ). m * x) (sym (pow-add 2 i 1)))

-- m * 2 ^ (d + k) by n * 2 ^ d
pub mod_shifted : (m n d k : ℕ) → 0 < n → m * 2 ^ (d + k) % (n * 2 ^ d) ≡ m * 2 ^ k % n * 2 ^ d
mod_shifted m n d k N =
    let e : m * 2 ^ (d + k) ≡ m * 2 ^ k * 2 ^ d = ap (λ (x : ℕ). m * x) (pow-add 2 d k ∙ mul_comm (2 ^ d) (2 ^ k)) ∙ sym (mul_assoc m (2 ^ k) (2 ^ d)) in
    ap (λ (x : ℕ). x % (n * 2 ^ d)) e ∙ mod_scaled (m * 2 ^ k) n (2 ^ d) N (pow_pos d)

-- ---- what finite doubles are by their bits

module _ (x : Float) (f : T (fits binary64 x)) (p : is_finite x ≡ true) where
  pub field_below : field (to_bits binary64 x) < 2047
  unfolding of_bits
  field_below =
      let b = to_bits binary64 x in
      fields_below (leb (2 ^ 63) b) (field b) (b % 2 ^ 52) (omega arith) (subst (λ (v : Float). is_finite v ≡ true) (sym (of_bits-to_bits binary64 x f)) p)

  pub value_of_bits : HasValue x (leb (2 ^ 63) (to_bits binary64 x)) (significand (to_bits binary64 x) * 2 ^ exponent (to_bits binary64 x)) (2 ^ 1074)
  value_of_bits =
      let b = to_bits binary64 x in
      subst (λ (v : Float). HasValue v (leb (2 ^ 63) b) (significand b * 2 ^ exponent b) (2 ^ 1074)) (of_bits-to_bits binary64 x f) (bits_value b field_below)

-- ---- remainder and product by values

pub rem_value : (x y : Float) (s t : Bool) (a b c : ℕ) → 0 < b → 0 < c → HasValue x s a c → HasValue y t b c → rem binary64 x y ≡ round binary64 s (a % b) c
unfolding rem
rem_value nan y s t a b c B C v w = absurd v
rem_value (inf z) y s t a b c B C v w = absurd v
rem_value (fin z m e) nan s t a b c B C v w = absurd w
rem_value (fin z m e) (inf u) s t a b c B C v w = absurd w
rem_value (fin z m e) (fin u n d) s t a b c B C v w =
    let N : 0 < n = nonzero n (up d) c b (down d) (down_pos d) B w.1 in
    let D : 0 < down e * down d = mul-pos (down_pos e) (down_pos d) in
    let p : m * up e * down d * c ≡ a * (down e * down d) = mul_right_comm (m * up e) (down d) c ∙ ap (λ (k : ℕ). k * down d) v.1 ∙ mul_assoc a (down e) (down d) in
    let q : n * up d * down e * c ≡ b * (down e * down d) = mul_right_comm (n * up d) (down e) c ∙ ap (λ (k : ℕ). k * down e) w.1 ∙ mul_assoc b (down d) (down e) ∙ ap (λ (k : ℕ). b * k) (mul_comm (down d) (down e)) in
    let same : m * up e * down d % (n * up d * down e) * c ≡ a % b * (down e * down d) =
    sym (mod_scaled (m * up e * down d) (n * up d * down e) c (mul-pos (mul-pos N (up_pos d)) (down_pos e)) C)
    ∙ ap (λ (k : ℕ). k % (n * up d * down e * c)) p
    ∙ ap (λ (k : ℕ). a * (down e * down d) % k) q
    ∙ mod_scaled a b (down e * down d) B D in
    rw (ne_eqb n 0 (λ z. omega arith), ← v.0)
    (round_same binary64 z (m * up e * down d % (n * up d * down e)) (down e * down d) (a % b) c D C same)
  where
    nonzero : (n u c b d : ℕ) → 0 < d → 0 < b → n * u * c ≡ b * d → 0 < n
    nonzero zero u c b d D B h = let q = mul-pos B D in omega (arith, zero-mul u, ap (λ (k : ℕ). k * c) (zero-mul u), zero-mul c)
    nonzero (suc n) u c b d D B h = omega arith

plus : (s : Bool) → unlike false s ≡ s
plus true = refl
plus false = refl

pub mul_value : (x u : Float) (s : Bool) (r p c : ℕ) → 0 < c → HasValue x false r 1 → HasValue u s p c → mul binary64 x u ≡ round binary64 s (r * p) c
unfolding mul
mul_value nan u s r p c C v w = absurd v
mul_value (inf z) u s r p c C v w = absurd v
mul_value (fin z m e) nan s r p c C v w = absurd w
mul_value (fin z m e) (inf t) s r p c C v w = absurd w
mul_value (fin z m e) (fin t n d) s r p c C v w =
    let a : m * up e ≡ r * down e = sym (mul-one (m * up e)) ∙ v.1 in
    let same : m * up e * (n * up d) * c ≡ r * p * (down e * down d) =
    mul_assoc (m * up e) (n * up d) c ∙ ap (λ (k : ℕ). m * up e * k) w.1 ∙ ap (λ (k : ℕ). k * (p * down d)) a
    ∙ mul_assoc r (down e) (p * down d) ∙ ap (λ (k : ℕ). r * k) (mul_left_comm (down e) p (down d)) ∙ sym (mul_assoc r p (down e * down d)) in
    rw (v.0, w.0, plus s) (round_same binary64 s (m * up e * (n * up d)) (down e * down d) (r * p) c (mul-pos (down_pos e) (down_pos d)) C same)

-- a double that is a / c is what a / c rounds to
pub own_value : (x : Float) (s : Bool) (a c : ℕ) → 0 < c → T (fits binary64 x) → HasValue x s a c → round binary64 s a c ≡ x
own_value nan s a c C f v = absurd v
own_value (inf z) s a c C f v = absurd v
own_value (fin z m e) s a c C f v = rw (← v.0) (round_same binary64 z a c (m * up e) (down e) C (down_pos e) (sym v.1) ∙ round_own binary64 z m e f)

-- ---- a power of two by its bits

pub record Power (d b : ℕ) : Type 0 where
  pub plus : b < 2 ^ 63
  pub finite : field b < 2047
  pub size : significand b * 2 ^ exponent b ≡ 2 ^ d

low_bits : (d b : ℕ) → b ≡ 2 ^ d → b ≤ 2 ^ 51 → Power d b
low_bits d b h l =
    let z : field b ≡ 0 = omega arith in
    let m : b % 2 ^ 52 ≡ b = mod-eq_of_lt (omega arith) in
    let e : field b - 1 ≡ 0 = omega arith in
    record { plus = omega arith; finite = omega arith; size = rw (significand_low b z, m, exponent_is b, e) (mul-one b ∙ h) }

pub power_low : (d : ℕ) → d < 52 → Power d (1 * 2 ^ d % 2 ^ 64)
power_low d h =
    let l : d ≤ 51 = omega arith in
    let p : 2 ^ d ≤ 2 ^ 51 = pow_mono l in
    let e : 1 * 2 ^ d % 2 ^ 64 ≡ 2 ^ d = rw (one-mul (2 ^ d)) (mod-eq_of_lt (omega arith)) in
    subst (λ (b : ℕ). Power d b) (sym e) (low_bits d (2 ^ d) refl p)

pub power_high : (d : ℕ) → 52 ≤ d → d ≤ 2045 → Power d ((d - 51) * 2 ^ 52)
power_high d l h = go ((d - 51) * 2 ^ 52) refl
  where
    go : (b : ℕ) → b ≡ (d - 51) * 2 ^ 52 → Power d b
    go b e =
        let at : field b ≡ d - 51 = omega arith in
        let none : b % 2 ^ 52 ≡ 0 = omega arith in
        let place : field b - 1 ≡ d - 52 = omega arith in
        let whole : 52 + (d - 52) ≡ d = omega arith in
        record {
          plus = omega arith;
          finite = omega arith;
          size = rw (significand_normal b (omega arith), none, exponent_is b, place) (sym (pow-add 2 52 (d - 52)) ∙ ap (λ (k : ℕ). 2 ^ k) whole);
        }

-- the sign's bit changes neither field nor digits
signed : (b : ℕ) → b < 2 ^ 63 → (field (2 ^ 63 + b) ≡ field b) × (significand (2 ^ 63 + b) ≡ significand b) × (exponent (2 ^ 63 + b) ≡ exponent b)
unfolding significand exponent
signed b h =
    let f : (2 ^ 63 + b) % 2 ^ 63 ≡ b % 2 ^ 63 = omega arith in
    let t : (2 ^ 63 + b) % 2 ^ 52 ≡ b % 2 ^ 52 = omega arith in
    (rw f, rw (f, t), rw f)

pub unit_plus : (d b : ℕ) → Power d b → HasValue (of_bits binary64 b) false (2 ^ d) (2 ^ 1074)
unit_plus d b p =
    subst (λ (a : ℕ). HasValue (of_bits binary64 b) false a (2 ^ 1074)) p.size
    (subst (λ (s : Bool). HasValue (of_bits binary64 b) s (significand b * 2 ^ exponent b) (2 ^ 1074)) (is_false (leb (2 ^ 63) b) (lt→nleb (2 ^ 63) b p.plus)) (bits_value b p.finite))

pub unit_minus : (d b : ℕ) → Power d b → HasValue (of_bits binary64 (2 ^ 63 + b)) true (2 ^ d) (2 ^ 1074)
unit_minus d b p =
    let s = signed b p.plus in
    let w = 2 ^ 63 + b in
    subst (λ (a : ℕ). HasValue (of_bits binary64 w) true a (2 ^ 1074)) (rw (s.1, s.2) p.size)
    (subst (λ (z : Bool). HasValue (of_bits binary64 w) z (significand w * 2 ^ exponent w) (2 ^ 1074)) (is_true (leb (2 ^ 63) w) (le→leb (2 ^ 63) w (omega arith))) (bits_value w (rw s.0 p.finite)))

value_no_nan : (x : Float) (s : Bool) (a c : ℕ) → HasValue x s a c → T (not (is_nan x))
unfolding is_nan
value_no_nan nan s a c h = h
value_no_nan (inf t) s a c h = absurd h
value_no_nan (fin t m e) s a c h = tt

pub bits_no_nan : (b : ℕ) (s : Bool) (a c : ℕ) → HasValue (of_bits binary64 b) s a c → T (not (nan_bits binary64 b))
bits_no_nan b s a c h = subst (λ (z : Bool). T (not z)) (sym (nan_bits_is binary64 b)) (value_no_nan (of_bits binary64 b) s a c h)

pub finite_no_nan : (x : Float) → is_finite x ≡ true → T (not (is_nan x))
unfolding is_finite is_nan
finite_no_nan nan h = absurd (false≢true h)
finite_no_nan (inf s) h = absurd (false≢true h)
finite_no_nan (fin s m e) h = tt

-- ---- two finite doubles

pub significand_short : (b : ℕ) → significand b < 2 ^ 53
significand_short b = go (field b) refl
  where
    go : (x : ℕ) → field b ≡ x → significand b < 2 ^ 53
    go zero e = rw (significand_low b e) (omega arith)
    go (suc x) e = rw (significand_normal b (omega arith)) (omega arith)

zero_is : (s : Bool) (e : ℤ) → eq (fin s zero e) zero64 ≡ true
unfolding eq of_bits
zero_is true e = rw (zero-mul (up e), zero-mul (down e))
zero_is false e = rw (zero-mul (up e), zero-mul (down e))

none_of : (m u c d : ℕ) → 0 < u → 0 < c → m * u * c ≡ 0 * d → m ≡ 0
none_of zero u c d U C h = refl
none_of (suc m) u c d U C h = let p = mul-pos (mul-pos (zero-lt-suc m) U) C in absurd (omega (arith, zero-mul d))

pub value_nonzero : (x : Float) (s : Bool) (a c : ℕ) → 0 < c → HasValue x s a c → eq x zero64 ≡ false → 0 < a
value_nonzero nan s a c C v h = absurd v
value_nonzero (inf z) s a c C v h = absurd v
value_nonzero (fin z m e) s zero c C v h = absurd (true≢false (sym (zero_is z e) ∙ ap (λ (k : ℕ). eq (fin z k e) zero64) (sym (none_of m (up e) c (down e) (up_pos e) C v.1)) ∙ h))
value_nonzero (fin z m e) s (suc a) c C v h = omega arith

module _ (a b : Float) (f : T (fits binary64 a)) (g : T (fits binary64 b)) (p : is_finite a ≡ true) (q : is_finite b ≡ true) (z : eq b zero64 ≡ false) where
  pub n_pos : 0 < significand (to_bits binary64 b)
  n_pos =
      let y = to_bits binary64 b in
      first_pos (significand y) (2 ^ exponent y) (value_nonzero b (leb (2 ^ 63) y) (significand y * 2 ^ exponent y) (2 ^ 1074) (pow_pos 1074) (value_of_bits b g q) z)

  by_values : (let x = to_bits binary64 a in let y = to_bits binary64 b in rem binary64 a b ≡ round binary64 (leb (2 ^ 63) x) (significand x * 2 ^ exponent x % (significand y * 2 ^ exponent y)) (2 ^ 1074))
  by_values =
      let x = to_bits binary64 a in
      let y = to_bits binary64 b in
      rem_value a b (leb (2 ^ 63) x) (leb (2 ^ 63) y) (significand x * 2 ^ exponent x) (significand y * 2 ^ exponent y) (2 ^ 1074) (mul-pos n_pos (pow_pos (exponent y))) (pow_pos 1074) (value_of_bits a f p) (value_of_bits b g q)

  pub small : exponent (to_bits binary64 a) < exponent (to_bits binary64 b) → a ≡ rem binary64 a b
  small h =
      let x = to_bits binary64 a in
      let y = to_bits binary64 b in
      let below = less (significand x) (significand y) (exponent x) (exponent y) (significand_short x) (leading y (exponent x) h) h in
      sym (by_values ∙ ap (λ (k : ℕ). round binary64 (leb (2 ^ 63) x) k (2 ^ 1074)) (mod-eq_of_lt below) ∙ own_value a (leb (2 ^ 63) x) (significand x * 2 ^ exponent x) (2 ^ 1074) (pow_pos 1074) f (value_of_bits a f p))
    where
      leading : (y k : ℕ) → k < exponent y → 2 ^ 52 ≤ significand y
      leading y k h = let e = exponent_is y in rw (significand_normal y (omega arith)) (omega arith)

      less : (m n e d : ℕ) → m < 2 ^ 53 → 2 ^ 52 ≤ n → e < d → m * 2 ^ e < n * 2 ^ d
      less m n e d hm hn h =
          let s : 2 ^ 53 * 2 ^ e ≡ 2 ^ 52 * 2 ^ suc e = sym (pow-add 2 53 e) ∙ ap (λ (k : ℕ). 2 ^ k) (let r : 53 + e ≡ 52 + suc e = omega arith in r) ∙ pow-add 2 52 (suc e) in
          lt_of_lt_of_le (mul-lt-mul_of_pos_right hm (pow_pos e)) (le_trans (le_of_eq s) (mul-le-mul hn (pow_mono h)))

  pub found : exponent (to_bits binary64 b) ≤ exponent (to_bits binary64 a) → (r : ℕ) (u : Float)
      → r ≡ significand (to_bits binary64 a) * 2 ^ (exponent (to_bits binary64 a) - exponent (to_bits binary64 b)) % significand (to_bits binary64 b)
      → HasValue u (leb (2 ^ 63) (to_bits binary64 a)) (2 ^ exponent (to_bits binary64 b)) (2 ^ 1074)
      → mul binary64 (of_int binary64 (pos r)) u ≡ rem binary64 a b
  unfolding of_int
  found h r u er v =
      let x = to_bits binary64 a in
      let y = to_bits binary64 b in
      let d = exponent y in
      let k = exponent x - d in
      let e : d + k ≡ exponent x = omega arith in
      let n = n_pos in
      let s : r ≤ 2 ^ 53 = let l = mod-lt (significand x * 2 ^ k) n in let w = significand_short y in omega arith in
      let m : significand x * 2 ^ exponent x % (significand y * 2 ^ d) ≡ r * 2 ^ d =
      ap (λ (j : ℕ). significand x * 2 ^ j % (significand y * 2 ^ d)) (sym e) ∙ mod_shifted (significand x) (significand y) d k n ∙ ap (λ (j : ℕ). j * 2 ^ d) (sym er) in
      mul_value (round binary64 false r 1) u (leb (2 ^ 63) x) r (2 ^ d) (2 ^ 1074) (pow_pos 1074) (round_whole binary64 false r s) v
      ∙ ap (λ (j : ℕ). round binary64 (leb (2 ^ 63) x) j (2 ^ 1074)) (sym m)
      ∙ sym by_values

-- ---- a NaN, an infinity, a divisor 0

pub not_finite : (x y : Float) → is_finite x ≡ false → nan ≡ rem binary64 x y
unfolding is_finite rem
not_finite nan y h = refl
not_finite (inf s) y h = refl
not_finite (fin s m e) y h = absurd (true≢false h)

pub by_nan : (x y : Float) → is_finite x ≡ true → y ≡ nan → y ≡ rem binary64 x y
unfolding is_finite rem
by_nan nan y h e = absurd (false≢true h)
by_nan (inf s) y h e = absurd (false≢true h)
by_nan (fin s m d) y h e = rw e

pub by_infinity : (x y : Float) → is_finite x ≡ true → is_finite y ≡ false → is_nan y ≡ false → x ≡ rem binary64 x y
unfolding is_finite rem is_nan
by_infinity nan y h k n = absurd (false≢true h)
by_infinity (inf s) y h k n = absurd (false≢true h)
by_infinity (fin s m e) nan h k n = absurd (true≢false n)
by_infinity (fin s m e) (inf t) h k n = refl
by_infinity (fin s m e) (fin t j d) h k n = absurd (true≢false k)

both_true : (a b : Bool) → (a && b) ≡ true → a ≡ true
both_true true b h = refl
both_true false b h = h

above_zero : (n : ℕ) (d : ℤ) (b : Bool) → (eqb (suc n * up d * 1) (0 * down d) && b) ≡ true → ⊥
above_zero n d b h =
    let q : suc n * up d * 1 ≡ 0 * down d = eqb-true _ _ (both_true _ b h) in
    let p = mul-pos (zero-lt-suc n) (up_pos d) in
    omega (arith, zero-mul (down d), mul-one (suc n * up d))

pub by_zero : (x y : Float) → is_finite x ≡ true → eq y zero64 ≡ true → nan ≡ rem binary64 x y
unfolding is_finite rem eq of_bits
by_zero nan y h k = absurd (false≢true h)
by_zero (inf s) y h k = absurd (false≢true h)
by_zero (fin s m e) nan h k = absurd (false≢true k)
by_zero (fin s m e) (inf t) h k = absurd (false≢true k)
by_zero (fin s m e) (fin t zero d) h k = refl
by_zero (fin s m e) (fin t (suc n) d) h k = absurd (above_zero n d _ k)

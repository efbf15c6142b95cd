-- Zeros among doubles. A zero added to a double that is not -0 leaves it, and a sum is -0 only where both numbers are: so a sum from +0 is the same without its terms that are
-- zeros, in any number and place (`sum_listed`), NaNs and infinities too. A sum from -0 is that from +0 unless all terms are -0 (`sums_tied`). A product with a
-- zero is a zero where the other factor is finite. Assumes nothing.
use mathlib.Core.Path.{◌≡◌, refl, sym, ap, subst, ◌∙◌}
use mathlib.Core.Bool.{Bool, true, false, not, ◌&&◌, ◌||◌, beq, cond, false≢true}
use borrow.Author.Tests.{le-ltb, lt-ltb}
use Prim.Native.Nat.{ℕ, zero, suc, ◌+◌, ◌-◌, ◌*◌, ◌/◌, ◌%◌, ◌^◌, ◌≤◌, ◌<◌, compare}
use native.Mathlib.Omega.{arith}
use native.Mathlib.Nat.{zero-add, zero-mul, mul-zero, one-mul, mul-one, mul_comm, mul_assoc, mul_right_comm, mul-pos, mul-le-mul_right, mul-lt-mul_of_pos_right, lt_of_mul-lt-mul_right, mul-sub, suc-mul, le_trans, zero-lt-suc, le-div_iff_mul-le, div-mul-le_self, add-zero, eq_of_mul-eq-mul_right}
use lib.IntN.{ℤ, pos, negsuc}
use lib.Dec.{T, ltb, leb, eqb, eqb→eq, ltb→lt, leb→le, nleb→lt}
use lib.Pow.{pow-add, pow_pos, pow-lt}
use lib.Ieee.{Float, nan, inf, fin, Format, binary64, up, down, prec, emax, low, size, nearest, units, odd, unlike, round, sum, add, mul, neg, eq, fits, to_bits, of_bits, hid, top}
use lib.Ieee.Bits.{of_bits-to_bits, of_bits-fits}
use lib.Ieee.Digits.{size-lt, size_reaches}
use lib.Ieee.Fits.{two, up_pos, down_pos, and_l, and_r, round_is, round-fits, add-fits, neg-fits}
use lib.Ieee.Nearest.{nearest-ge, div_same}
use lib.Ieee.Exact.{HasValue, odd_sign, round_exact}
use lib.Ieee.Scale.{round_same}
use mathlib.Core.List.{[], ◌∷◌, ◌++◌, foldl, foldl-append}
use Rattle.numbers.specs.Double.{zero64, is_finite, negative}
use Rattle.numbers.specs.Ops.{doubles}
use Rattle.numbers.specs.Sum.{sum_from}
use Rattle.numbers.specs.Zeros.{IsZero, listed, sum_over, is_minus, all_minus}
use Rattle.numbers.proofs.DoubleLaws.{zero_value}

-- ---- a double that fits, in units of the format's smallest value
exponents : (a b : ℕ) → 2 ^ a ≤ 2 ^ b → a ≤ b
exponents a b h = go (leb a b) (leb→le a b) (nleb→lt a b)
  where
    go : (t : Bool) → (T t → a ≤ b) → (T (not t) → b < a) → a ≤ b
    go true p q = p tt
    go false p q = let l = pow-lt (q tt) in omega arith

pub record Fitting (f : Format) (m : ℕ) (e : ℤ) : Type 0 where
  pub digits : m < 2 ^ prec f
  pub fine : down e ≤ 2 ^ low f
  pub under : m * up e < 2 ^ suc (emax f) * down e

fitting : (f : Format) (s : Bool) (m : ℕ) (e : ℤ) → T (fits f (fin s m e)) → Fitting f m e
unfolding fits
fitting f s zero e t =
    let h = eqb→eq (up e * down e) 1 t in
    let l = mul-le-mul_right (down e) (up_pos e) in
    let p = pow_pos (low f) in
    record { digits = pow_pos (prec f); fine = omega (arith, one-mul (down e)); under = rw (zero-mul (up e)) (mul-pos (pow_pos (suc (emax f))) (down_pos e)) }
fitting f s (suc m) e t =
    let a = eqb (suc m % 2) 1 in
    let b = ltb (suc m) (2 ^ prec f) in
    let c = leb (down e) (2 ^ low f) in
    let d = ltb (suc m * up e) (2 ^ suc (emax f) * down e) in
    let abc = and_l (a && b && c) d t in
    record { digits = ltb→lt (suc m) (2 ^ prec f) (and_r a b (and_l (a && b) c abc)); fine = leb→le (down e) (2 ^ low f) (and_r (a && b) c abc); under = ltb→lt (suc m * up e) (2 ^ suc (emax f) * down e) (and_r (a && b && c) d t) }

-- 2 ^ e is 2 ^ j units
in_units : (e : ℤ) (l : ℕ) → down e ≤ 2 ^ l → (j : ℕ) × (up e * 2 ^ l ≡ 2 ^ j * down e)
in_units (pos k) l h = (k + l, sym (pow-add 2 k l) ∙ sym (mul-one (2 ^ (k + l))))
in_units (negsuc k) l h =
    let le = exponents (suc k) l h in
    let e : l - suc k + suc k ≡ l = omega arith in
    (l - suc k, one-mul (2 ^ l) ∙ ap (λ (x : ℕ). 2 ^ x) (sym e) ∙ pow-add 2 (l - suc k) (suc k))

-- ---- two doubles that fit are equal where their signs and sizes are
pattern : (f : Format) (s : Bool) (n : ℕ) → ℕ
pattern f s n = cond s (top f) 0 + (size n - prec f) * hid f + n / 2 ^ (size n - prec f)

pattern_is : (f : Format) (s : Bool) (m : ℕ) (e : ℤ) → to_bits f (fin s m e) ≡ pattern f s (m * up e * 2 ^ low f / down e)
unfolding to_bits pattern
pattern_is f s m e = refl

bits_of_value : (f : Format) (x : Float) (s : Bool) (a c : ℕ) → 0 < c → HasValue x s a c → to_bits f x ≡ pattern f s (a * 2 ^ low f / c)
bits_of_value f (fin t m e) s a c p v =
    let q : m * up e * 2 ^ low f / down e ≡ a * 2 ^ low f / c =
    div_same (m * up e * 2 ^ low f) (down e) (a * 2 ^ low f) c (down_pos e) p
    (mul_right_comm (m * up e) (2 ^ low f) c ∙ ap (λ (x : ℕ). x * 2 ^ low f) v.1 ∙ mul_right_comm a (down e) (2 ^ low f)) in
    pattern_is f t m e ∙ (λ i. pattern f (v.0 i) (q i))
bits_of_value f nan s a c p v = elim v [ ]
bits_of_value f (inf _) s a c p v = elim v [ ]

pub value_unique : (f : Format) (x y : Float) (s : Bool) (a c : ℕ) → 0 < c → T (fits f x) → T (fits f y) → HasValue x s a c → HasValue y s a c → x ≡ y
value_unique f x y s a c p h k v w =
    sym (of_bits-to_bits f x h) ∙ ap (of_bits f) (bits_of_value f x s a c p v ∙ sym (bits_of_value f y s a c p w)) ∙ of_bits-to_bits f y k

-- ---- a double that fits is rounded to itself
pub round_own : (f : Format) (s : Bool) (m : ℕ) (e : ℤ) → T (fits f (fin s m e)) → round f s (m * up e) (down e) ≡ fin s m e
round_own f s m e t =
    let p = fitting f s m e t in
    let u = in_units e (low f) p.fine in
    let j = u.0 in
    let q : m * up e * 2 ^ low f ≡ m * 2 ^ j * down e = mul_assoc m (up e) (2 ^ low f) ∙ ap (λ (x : ℕ). m * x) u.1 ∙ sym (mul_assoc m (2 ^ j) (down e)) in
    let big : m * up e * 2 ^ low f < 2 ^ suc (emax f) * down e * 2 ^ low f = mul-lt-mul_of_pos_right p.under (pow_pos (low f)) in
    let top : m * 2 ^ j * down e < 2 ^ (low f + suc (emax f)) * down e =
    subst (λ (x : ℕ). x < 2 ^ (low f + suc (emax f)) * down e) q
    (subst (λ (x : ℕ). m * up e * 2 ^ low f < x) (mul_right_comm (2 ^ suc (emax f)) (down e) (2 ^ low f) ∙ ap (λ (x : ℕ). x * down e) (mul_comm (2 ^ suc (emax f)) (2 ^ low f) ∙ sym (pow-add 2 (low f) (suc (emax f))))) big) in
    value_unique f (round f s (m * up e) (down e)) (fin s m e) s (m * up e) (down e) (down_pos e) (round-fits f s (m * up e) (down e)) t
    (round_exact f s (m * up e) (down e) m j (down_pos e) p.digits (lt_of_mul-lt-mul_right (down e) top) q) (refl, refl)

-- ---- not -0: a NaN, an infinity, and a finite number that is positive or not zero
abbrev pub Plain : Float → Type 0
Plain nan = T true
Plain (inf s) = T true
Plain (fin false m e) = T true
Plain (fin true m e) = 0 < m

plain_cond : (b : Bool) (x y : Float) → Plain x → Plain y → Plain (cond b x y)
plain_cond true x y h k = h
plain_cond false x y h k = k

plain_when : (b : Bool) {P : Type 0} (x y : Float) → (T b → P) → (P → Plain x) → Plain y → Plain (cond b x y)
plain_when true x y p h k = h (p tt)
plain_when false x y p h k = k

has_size : (x : Float) (s : Bool) (a c : ℕ) → (T s → 0 < a) → HasValue x s a c → Plain x
has_size (fin false m e) s a c p v = tt
has_size (fin true zero e) s a c p v =
    let h = mul-pos (p (subst T v.0 tt)) (down_pos e) in
    let z : 0 ≡ a * down e = sym (ap (λ (x : ℕ). x * c) (zero-mul (up e)) ∙ zero-mul c) ∙ v.1 in
    absurd (omega arith)
has_size (fin true (suc m) e) s a c p v = zero-lt-suc m
has_size nan s a c p v = elim v [ ]
has_size (inf _) s a c p v = elim v [ ]

units_plain : (f : Format) (s : Bool) (q k : ℕ) → (T s → 0 < q) → Plain (units f s q k)
unfolding units
units_plain f s q k h =
    plain_cond (ltb (q * 2 ^ k) (2 ^ (low f + suc (emax f)))) (odd (suc (prec f)) s q k (low f)) (inf s)
    (has_size (odd (suc (prec f)) s q k (low f)) s (q * 2 ^ k) (2 ^ low f) (λ t. mul-pos (h t) (pow_pos k)) (odd_sign (suc (prec f)) s q k (low f))) tt

-- a number of one or more digits is not below the power that its first digits keep
kept_pos : (w p : ℕ) → 0 < w → 2 ≤ p → 2 ^ (size w - p) ≤ w
kept_pos w p h l = go (size w) (size-lt w) (size_reaches w)
  where
    go : (z : ℕ) → w < 2 ^ z → ((j : ℕ) → j < z → 2 ^ j ≤ w) → 2 ^ (z - p) ≤ w
    go zero a b = absurd (omega arith)
    go (suc z) a b = b (suc z - p) (omega arith)

-- a fraction of at least one unit is not rounded to zero
pub round_plain : (f : Format) (s : Bool) (num den : ℕ) → 0 < den → (T s → den ≤ num * 2 ^ low f) → Plain (round f s num den)
round_plain f s num den p h =
    let n = num * 2 ^ low f in
    let k = size (n / den) - prec f in
    let u = den * 2 ^ k in
    subst Plain (sym (round_is f s num den))
    (units_plain f s (nearest (n / u) (compare (n % u * 2) u)) k (λ t. le_trans (at_least n (h t)) (nearest-ge (n / u) (compare (n % u * 2) u))))
  where
    at_least : (n : ℕ) → den ≤ n → 1 ≤ n / (den * 2 ^ (size (n / den) - prec f))
    at_least n l =
        let k = size (n / den) - prec f in
        let w : 1 ≤ n / den = (le-div_iff_mul-le p).1 (rw (one-mul den) l) in
        let q : 2 ^ k * den ≤ n = le_trans (mul-le-mul_right den (kept_pos (n / den) (prec f) w (two f))) (div-mul-le_self n den) in
        (le-div_iff_mul-le (mul-pos p (pow_pos k))).1 (rw (one-mul (den * 2 ^ k), mul_comm den (2 ^ k)) q)

-- ---- a sum is -0 only where both numbers are
-- two sizes in units, over one denominator c, differ by c units or not at all
apart : (l a b c p q : ℕ) → 0 < l → 0 < c → a * l ≡ p * c → b * l ≡ q * c → b < a → c ≤ (a - b) * l
apart l a b c p q L C h k less =
    let m = mul-lt-mul_of_pos_right less L in
    let n : q < p = lt_of_mul-lt-mul_right c (rw (h, k) at m) in
    let r = mul-le-mul_right c n in
    let e = suc-mul q c in
    let d : (a - b) * l ≡ a * l - b * l = mul_comm (a - b) l ∙ mul-sub l a b ∙ (λ i. mul_comm l a i - mul_comm l b i) in
    omega arith

scaled : (l m u j de dd : ℕ) → u * l ≡ 2 ^ j * de → m * u * dd * l ≡ m * 2 ^ j * (de * dd)
scaled l m u j de dd h =
    mul_right_comm (m * u) dd l ∙ ap (λ (x : ℕ). x * dd) (mul_assoc m u l ∙ ap (λ (x : ℕ). m * x) h ∙ sym (mul_assoc m (2 ^ j) de)) ∙ mul_assoc (m * 2 ^ j) de dd

-- the sum of two sizes over c that are whole numbers of units
sum_plain : (f : Format) (s : Bool) (a : ℕ) (t : Bool) (b c p q : ℕ) → 0 < c → a * 2 ^ low f ≡ p * c → b * 2 ^ low f ≡ q * c → (T s → 0 < p) → Plain (sum f s a t b c)
unfolding sum
sum_plain f s a t b c p q C A B h = signs s t h
  where
    more : b < a → c ≤ (a - b) * 2 ^ low f
    more = apart (2 ^ low f) a b c p q (pow_pos (low f)) C A B

    less : a < b → c ≤ (b - a) * 2 ^ low f
    less = apart (2 ^ low f) b a c q p (pow_pos (low f)) C B A

    both : 0 < p → c ≤ (a + b) * 2 ^ low f
    both l =
        let u = mul-le-mul_right c l in
        let v : a * 2 ^ low f ≤ (a + b) * 2 ^ low f = mul-le-mul_right (2 ^ low f) (omega arith) in
        omega (arith, one-mul c, A)

    signs : (s t : Bool) → (T s → 0 < p) → Plain (sum f s a t b c)
    signs false false h = round_plain f false (a + b) c C (λ z. absurd z)
    signs true true h = round_plain f true (a + b) c C (λ z. both (h tt))
    signs false true h = plain_when (ltb a b) (round f true (b - a) c) (round f false (a - b) c) (ltb→lt a b) (λ z. round_plain f true (b - a) c C (λ w. less z)) (round_plain f false (a - b) c C (λ z. absurd z))
    signs true false h = plain_cond (ltb a b) (round f false (b - a) c) (round f (ltb b a) (a - b) c) (round_plain f false (b - a) c C (λ z. absurd z)) (round_plain f (ltb b a) (a - b) c C (λ z. more (ltb→lt b a z)))

negative_size : (s : Bool) (m : ℕ) (e : ℤ) → Plain (fin s m e) → T s → 0 < m
negative_size true m e p t = p
negative_size false m e p t = absurd t

pub add_plain : (f : Format) (x y : Float) → T (fits f x) → T (fits f y) → Plain x → Plain (add f x y)
unfolding add
add_plain f nan y h k p = tt
add_plain f (inf s) nan h k p = tt
add_plain f (inf s) (inf t) h k p = plain_cond (beq s t) (inf s) nan tt tt
add_plain f (inf s) (fin t n d) h k p = tt
add_plain f (fin s m e) nan h k p = tt
add_plain f (fin s m e) (inf t) h k p = tt
add_plain f (fin s m e) (fin t n d) h k p =
    let ue = in_units e (low f) (fitting f s m e h).fine in
    let ud = in_units d (low f) (fitting f t n d k).fine in
    sum_plain f s (m * up e * down d) t (n * up d * down e) (down e * down d) (m * 2 ^ ue.0) (n * 2 ^ ud.0) (mul-pos (down_pos e) (down_pos d))
    (scaled (2 ^ low f) m (up e) ue.0 (down e) (down d) ue.1)
    (scaled (2 ^ low f) n (up d) ud.0 (down d) (down e) ud.1 ∙ ap (λ (x : ℕ). n * 2 ^ ud.0 * x) (mul_comm (down d) (down e)))
    (λ z. mul-pos (negative_size s m e p z) (pow_pos ue.0))

-- ---- zeros
or-true : (b : Bool) → (b || true) ≡ true
or-true true = refl
or-true false = refl

pub size_zero : (s : Bool) (m : ℕ) (e : ℤ) → m * up e ≡ 0 → IsZero (fin s m e)
unfolding eq of_bits
size_zero s m e h = rw (h, zero-mul (down e)) (or-true (beq s false))

-- a zero added to a size leaves it, where it is not -0
sum_nothing : (f : Format) (s : Bool) (a : ℕ) (t : Bool) (b c : ℕ) → b ≡ 0 → (T s → 0 < a) → sum f s a t b c ≡ round f s a c
unfolding sum
sum_nothing f s a t b c z h = ap (λ (x : ℕ). sum f s a t x c) z ∙ signs s t h
  where
    less : a - 0 ≡ a
    less = omega arith

    signs : (s t : Bool) → (T s → 0 < a) → sum f s a t 0 c ≡ round f s a c
    signs true true h = ap (λ (x : ℕ). round f true x c) (add-zero a)
    signs false false h = ap (λ (x : ℕ). round f false x c) (add-zero a)
    signs false true h =
        ap (λ (b : Bool). cond b (round f true (0 - a) c) (round f false (a - 0) c)) (le-ltb a 0 (omega arith)) ∙ ap (λ (x : ℕ). round f false x c) less
    signs true false h =
        ap (λ (b : Bool). cond b (round f false (0 - a) c) (round f (ltb 0 a) (a - 0) c)) (le-ltb a 0 (omega arith)) ∙ (λ i. round f (lt-ltb 0 a (h tt) i) (less i) c)

-- what is a zero is finite
zero_form : (z : Float) (P : Float → Type 0) → ((t : Bool) (n : ℕ) (d : ℤ) → n * up d ≡ 0 → P (fin t n d)) → IsZero z → P z
zero_form nan P h q = let e : false ≡ true = unfold eq of_bits in q in absurd (false≢true e)
zero_form (inf s) P h q = let e : false ≡ true = unfold eq of_bits in q in absurd (false≢true e)
zero_form (fin t n d) P h q = h t n d (zero_value t n d q)

-- a size over the denominator of a sum
over_another : (f : Format) (s : Bool) (m : ℕ) (e d : ℤ) → T (fits f (fin s m e)) → round f s (m * up e * down d) (down e * down d) ≡ fin s m e
over_another f s m e d h =
    round_same f s (m * up e * down d) (down e * down d) (m * up e) (down e) (mul-pos (down_pos e) (down_pos d)) (down_pos e) (mul_assoc (m * up e) (down d) (down e) ∙ ap (λ (x : ℕ). m * up e * x) (mul_comm (down d) (down e)))
    ∙ round_own f s m e h

pub add_nothing : (f : Format) (x z : Float) → T (fits f x) → Plain x → IsZero z → add f x z ≡ x
unfolding add
add_nothing f x z h p = zero_form z (λ z. add f x z ≡ x) (at x h p)
  where
    at : (x : Float) → T (fits f x) → Plain x → (t : Bool) (n : ℕ) (d : ℤ) → n * up d ≡ 0 → add f x (fin t n d) ≡ x
    at nan h p t n d z = refl
    at (inf s) h p t n d z = refl
    at (fin s m e) h p t n d z =
        sum_nothing f s (m * up e * down d) t (n * up d * down e) (down e * down d) (ap (λ (x : ℕ). x * down e) z ∙ zero-mul (down e)) (λ w. mul-pos (mul-pos (negative_size s m e p w) (up_pos e)) (down_pos d))
        ∙ over_another f s m e d h

-- ---- a product with a zero
value_zero : (x : Float) (s : Bool) (c : ℕ) → 0 < c → HasValue x s 0 c → IsZero x
value_zero (fin t m e) s c p v = size_zero t m e (eq_of_mul-eq-mul_right c p (m * up e) 0 (v.1 ∙ zero-mul (down e) ∙ sym (zero-mul c)))
value_zero nan s c p v = elim v [ ]
value_zero (inf _) s c p v = elim v [ ]

round_zero : (f : Format) (s : Bool) (num den : ℕ) → num ≡ 0 → 0 < den → IsZero (round f s num den)
round_zero f s num den z p =
    subst (λ (x : ℕ). IsZero (round f s x den)) (sym z)
    (value_zero (round f s 0 den) s den p
    (round_exact f s 0 den 0 0 p (pow_pos (prec f)) (pow_pos (low f + suc (emax f))) (zero-mul (2 ^ low f) ∙ sym (zero-mul den))))

pub mul_nothing : (f : Format) (x y : Float) → IsZero x → is_finite y ≡ true → IsZero (mul f x y)
mul_nothing f x y z h = zero_form x (λ x. IsZero (mul f x y)) (at y h) z
  where
    at : (y : Float) → is_finite y ≡ true → (s : Bool) (m : ℕ) (e : ℤ) → m * up e ≡ 0 → IsZero (mul f (fin s m e) y)
    at nan h s m e z = let e : false ≡ true = unfold is_finite in h in absurd (false≢true e)
    at (inf t) h s m e z = let e : false ≡ true = unfold is_finite in h in absurd (false≢true e)
    at (fin t n d) h s m e z =
        unfold mul in round_zero f (unlike s t) (m * up e * (n * up d)) (down e * down d) (ap (λ (x : ℕ). x * (n * up d)) z ∙ zero-mul (n * up d)) (mul-pos (down_pos e) (down_pos d))

pub mul_second_nothing : (f : Format) (x y : Float) → is_finite x ≡ true → IsZero y → IsZero (mul f x y)
mul_second_nothing f x y h z = zero_form y (λ y. IsZero (mul f x y)) (at x h) z
  where
    at : (x : Float) → is_finite x ≡ true → (s : Bool) (m : ℕ) (e : ℤ) → m * up e ≡ 0 → IsZero (mul f x (fin s m e))
    at nan h s m e z = let e : false ≡ true = unfold is_finite in h in absurd (false≢true e)
    at (inf t) h s m e z = let e : false ≡ true = unfold is_finite in h in absurd (false≢true e)
    at (fin t n d) h s m e z =
        unfold mul in round_zero f (unlike t s) (n * up d * (m * up e)) (down d * down e) (ap (λ (x : ℕ). n * up d * x) z ∙ mul-zero (n * up d)) (mul-pos (down_pos d) (down_pos e))

-- ---- sums from +0, of any length
sum_fits : (s : Float) (f : ℕ → Float) (n : ℕ) → T (fits binary64 s) → T (fits binary64 (sum_from doubles s f n))
unfolding sum_from
sum_fits s f zero h = h
sum_fits s f (suc n) h = add-fits binary64 (sum_from doubles s f n) (f n)

module _ (f : ℕ → Float) (terms-fit : (i : ℕ) → T (fits binary64 (f i))) where
  -- never -0
  pub sums_plain : (n : ℕ) → Plain (sum_from doubles zero64 f n)
  unfolding sum_from
  sums_plain zero = unfold of_bits in tt
  sums_plain (suc n) = add_plain binary64 (sum_from doubles zero64 f n) (f n) (sum_fits zero64 f n (of_bits-fits binary64 0)) (terms-fit n) (sums_plain n)

  -- a term that is a zero
  sum_nothing_more : (n : ℕ) → IsZero (f n) → sum_from doubles zero64 f (suc n) ≡ sum_from doubles zero64 f n
  unfolding sum_from
  sum_nothing_more n z = add_nothing binary64 (sum_from doubles zero64 f n) (f n) (sum_fits zero64 f n (of_bits-fits binary64 0)) (sums_plain n) z

  -- Terms that are zeros may be left out of a sum from +0, in any number and place.
  pub sum_listed : (keep : ℕ → Bool) (n : ℕ) → ((i : ℕ) → i < n → keep i ≡ false → IsZero (f i)) → sum_over doubles zero64 f (listed keep n) ≡ sum_from doubles zero64 f n
  unfolding sum_over listed sum_from
  sum_listed keep zero h = refl
  sum_listed keep (suc n) h = one (sum_listed keep n (λ i l. h i (omega arith))) (keep n) (h n (omega arith))
    where
      step : Float → ℕ → Float
      step t c = add binary64 t (f c)

      one : foldl step zero64 (listed keep n) ≡ sum_from doubles zero64 f n → (b : Bool) → (b ≡ false → IsZero (f n))
          → foldl step zero64 (cond b (listed keep n ++ (n ∷ [])) (listed keep n)) ≡ add binary64 (sum_from doubles zero64 f n) (f n)
      one rest true k = foldl-append step zero64 (listed keep n) (n ∷ []) ∙ ap (λ (x : Float). add binary64 x (f n)) rest
      one rest false k = rest ∙ sym (sum_nothing_more n (k refl))

-- ---- sums from -0
-- -0 added to a double leaves it, -0 too
sum_minus_nothing : (f : Format) (s : Bool) (a b c : ℕ) → b ≡ 0 → sum f s a true b c ≡ round f s a c
unfolding sum
sum_minus_nothing f s a b c z = ap (λ (x : ℕ). sum f s a true x c) z ∙ signs s
  where
    less : a - 0 ≡ a
    less = omega arith

    signs : (s : Bool) → sum f s a true 0 c ≡ round f s a c
    signs true = ap (λ (x : ℕ). round f true x c) (add-zero a)
    signs false = ap (λ (b : Bool). cond b (round f true (0 - a) c) (round f false (a - 0) c)) (le-ltb a 0 (omega arith)) ∙ ap (λ (x : ℕ). round f false x c) less

add_minus_nothing : (f : Format) (x z : Float) → T (fits f x) → IsZero z → negative z ≡ true → add f x z ≡ x
unfolding add
add_minus_nothing f x z h q n = zero_form z (λ z. negative z ≡ true → add f x z ≡ x) (at x h) q n
  where
    at : (x : Float) → T (fits f x) → (t : Bool) (n : ℕ) (d : ℤ) → n * up d ≡ 0 → negative (fin t n d) ≡ true → add f x (fin t n d) ≡ x
    at nan h t n d z k = refl
    at (inf s) h t n d z k = refl
    at (fin s m e) h t n d z k =
        let e1 : t ≡ true = unfold negative in k in
        ap (λ (u : Bool). sum f s (m * up e * down d) u (n * up d * down e) (down e * down d)) e1
        ∙ sum_minus_nothing f s (m * up e * down d) (n * up d * down e) (down e * down d) (ap (λ (x : ℕ). x * down e) z ∙ zero-mul (down e))
        ∙ over_another f s m e d h

-- a double added to a zero is itself, but -0 added to +0
sum_first_nothing : (f : Format) (s : Bool) (a : ℕ) (t : Bool) (b c : ℕ) → a ≡ 0 → (s ≡ false → T t → 0 < b) → sum f s a t b c ≡ round f t b c
unfolding sum
sum_first_nothing f s a t b c z h = ap (λ (x : ℕ). sum f s x t b c) z ∙ signs s t b h
  where
    signs : (s t : Bool) (b : ℕ) → (s ≡ false → T t → 0 < b) → sum f s 0 t b c ≡ round f t b c
    signs true true b h = ap (λ (x : ℕ). round f true x c) (zero-add b)
    signs false false b h = ap (λ (x : ℕ). round f false x c) (zero-add b)
    signs true false zero h = refl
    signs true false (suc b) h = let less : suc b - 0 ≡ suc b = omega arith in ap (λ (u : Bool). cond u (round f false (suc b - 0) c) (round f (ltb (suc b) 0) (0 - suc b) c)) (lt-ltb 0 (suc b) (zero-lt-suc b)) ∙ ap (λ (x : ℕ). round f false x c) less
    signs false true b h = let less : b - 0 ≡ b = omega arith in ap (λ (u : Bool). cond u (round f true (b - 0) c) (round f false (0 - b) c)) (lt-ltb 0 b (h refl tt)) ∙ ap (λ (x : ℕ). round f true x c) less

add_first_nothing : (f : Format) (z y : Float) → IsZero z → T (fits f y) → (negative z ≡ false → Plain y) → add f z y ≡ y
unfolding add
add_first_nothing f z y q h p = zero_form z (λ z. (negative z ≡ false → Plain y) → add f z y ≡ y) (at y h) q p
  where
    at : (y : Float) → T (fits f y) → (s : Bool) (m : ℕ) (e : ℤ) → m * up e ≡ 0 → (negative (fin s m e) ≡ false → Plain y) → add f (fin s m e) y ≡ y
    at nan h s m e z p = refl
    at (inf t) h s m e z p = refl
    at (fin t n d) h s m e z p =
        sum_first_nothing f s (m * up e * down d) t (n * up d * down e) (down e * down d) (ap (λ (x : ℕ). x * down d) z ∙ zero-mul (down d))
        (λ u w. mul-pos (mul-pos (negative_size t n d (p (unfold negative in u)) w) (up_pos d)) (down_pos e))
        ∙ ap (λ (x : ℕ). round f t (n * up d * down e) x) (mul_comm (down e) (down d)) ∙ over_another f t n d e h

-- what is no zero below 0
plain_is : (x : Float) → (IsZero x → negative x ≡ false) → Plain x
unfolding negative
plain_is nan h = tt
plain_is (inf s) h = tt
plain_is (fin false m e) h = tt
plain_is (fin true zero e) h = absurd (false≢true (sym (h (size_zero true 0 e (zero-mul (up e))))))
plain_is (fin true (suc m) e) h = zero-lt-suc m

minus_fits : T (fits binary64 (neg zero64))
minus_fits = neg-fits binary64 zero64 (of_bits-fits binary64 0)

plus_zero_lem : IsZero zero64
unfolding eq of_bits
plus_zero_lem = refl

minus_zero : IsZero (neg zero64)
unfolding eq neg of_bits
minus_zero = refl

-- The sum from -0 is that from +0, but -0 where all terms are -0, and then the other is +0.
abbrev pub Tied : Bool → Float → Float → Type 0
Tied true x y = (x ≡ neg zero64) × (y ≡ zero64)
Tied false x y = x ≡ y

and_is : (a b : Bool) → (a && b) ≡ true → (a ≡ true) × (b ≡ true)
and_is true b h = (refl, h)
and_is false b h = absurd (false≢true h)

-- one term more
tied_more : (a b : Bool) (x y v : Float) → T (fits binary64 v) → is_minus v ≡ b → Tied a x y → Tied (a && b) (add binary64 x v) (add binary64 y v)
tied_more true true x y v f e h =
    let z = and_is (eq v zero64) (negative v) e in (
      ap (λ (u : Float). add binary64 u v) h.0 ∙ add_minus_nothing binary64 (neg zero64) v minus_fits z.0 z.1,
      ap (λ (u : Float). add binary64 u v) h.1 ∙ add_minus_nothing binary64 zero64 v (of_bits-fits binary64 0) z.0 z.1,
    )
tied_more true false x y v f e h =
    let p = plain_is v (λ z. sym (ap (λ (u : Bool). u && negative v) z) ∙ e) in
    ap (λ (u : Float). add binary64 u v) h.0 ∙ add_first_nothing binary64 (neg zero64) v minus_zero f (λ k. p)
    ∙ sym (ap (λ (u : Float). add binary64 u v) h.1 ∙ add_first_nothing binary64 zero64 v plus_zero_lem f (λ k. p))
tied_more false b x y v f e h = ap (λ (u : Float). add binary64 u v) h

pub sums_tied : (f : ℕ → Float) → ((i : ℕ) → T (fits binary64 (f i))) → (n : ℕ) → Tied (all_minus f n) (sum_from doubles (neg zero64) f n) (sum_from doubles zero64 f n)
unfolding all_minus sum_from
sums_tied f fit zero = (refl, refl)
sums_tied f fit (suc n) = tied_more (all_minus f n) (is_minus (f n)) (sum_from doubles (neg zero64) f n) (sum_from doubles zero64 f n) (f n) (fit n) refl (sums_tied f fit n)

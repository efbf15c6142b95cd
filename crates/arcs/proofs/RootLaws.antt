-- Laws of the square root: `root x` is correct for every double x (`root_correct`), no other double is (`root_unique`), so whatever is correct is `root x` (`correct_is_root`).
-- For a finite x above 0, x is n / 4 ^ 1074 with n = m * 2 ^ j, m having at most 53 digits; so n is a multiple of 4 ^ k, the quotient has 105 or 106 digits, and `RootNearest` applies.
-- Assumes nothing.
use Prim.Native.Nat.{ℕ, zero, suc, ◌+◌, ◌-◌, ◌*◌, ◌/◌, ◌^◌, ◌≤◌, ◌<◌, zero-le}
use mathlib.Core.Path.{◌≡◌, refl, sym, ap, subst, ◌∙◌}
use mathlib.Core.Logic.{◌⊎◌, inl, inr}
use mathlib.Core.Bool.{Bool, true, false, not, cond}
use native.Mathlib.Nat.{eq-or-lt_of_le, le-add_left, zero-lt-suc, mul-lt-mul_of_pos_right, le_of_eq, one-mul, mul-le-mul_right, pow-succ', le_of_mul-le-mul_right, lt_of_mul-lt-mul_right, sub-add_cancel, suc-ne-zero, le_trans, lt_of_lt_of_le, lt_of_le_of_lt, lt_of_not-le, not-le_of_lt, mul_comm, mul_assoc, mul_left_comm, mul-le-mul, mul-pos, mul-div_cancel}
use native.Mathlib.Decide.{dec_le}
use native.Mathlib.Omega.{arith}
use lib.IntN.{ℤ}
use lib.Dec.{T, leb, ltb, leb→le, nleb→lt, ltb→lt, lt→ltb, lit<}
use lib.Pow.{pow_pos, pow_mono, pow-add, shl_lt}
use lib.Ieee.{Float, nan, inf, fin, binary64, up, down, lt, fits, size, odd, units, of_bits, to_bits}
use lib.Ieee.Fits.{odd-fits, inf-fits, nan-fits, up_pos, down_pos}
use lib.Ieee.Bits.{of_bits-to_bits}
use lib.Ieee.Digits.{size-lt, size-le, size_reaches}
use lib.Ieee.Exact.{units_val}
use lib.Ieee.Nearest.{div_same}
use lib.Ieee.Positive.{num, den, positive, first_pos}
use Rattle.arcs.specs.Root.{isqrt, nearest_whole, root, NearestRoot, CorrectRoot}
use Rattle.arcs.specs.RootSteps.{WholeRoot}
use Rattle.arcs.proofs.RootNearest.{at_most, swap, positive_from_zero, digits, held, nearest}

-- ● the root of 2
pub root_of_two : to_bits binary64 (root (of_bits binary64 0x4000_0000_0000_0000)) ≡ 0x3FF6_A09E_667F_3BCD
unfolding root of_bits to_bits
root_of_two = refl

-- ---- the whole part of a root, and the nearest whole number

pub record WholePart (n q : ℕ) : Type 0 where
  pub low : q * q ≤ n
  pub high : n < (q + 1) * (q + 1)

-- one more digit: 2 * p or 2 * p + 1, for p the whole part of the root of n / 4
next_digit : (n p : ℕ) → WholePart (n / 4) p → WholePart n (cond (leb ((2 * p + 1) * (2 * p + 1)) n) (2 * p + 1) (2 * p))
next_digit n p w = go (leb ((2 * p + 1) * (2 * p + 1)) n) (leb→le ((2 * p + 1) * (2 * p + 1)) n) (nleb→lt ((2 * p + 1) * (2 * p + 1)) n)
  where
    go : (b : Bool) → (T b → (2 * p + 1) * (2 * p + 1) ≤ n) → (T (not b) → n < (2 * p + 1) * (2 * p + 1)) → WholePart n (cond b (2 * p + 1) (2 * p))
    go true h k = record { low = h tt; high = omega arith }
    go false h k = record { low = omega arith; high = k tt }

isqrt_part : (d n : ℕ) → n < 4 ^ d → WholePart n (isqrt d n)
unfolding isqrt
isqrt_part zero n h = record { low = zero-le; high = h }
isqrt_part (suc d) n h = next_digit n (isqrt d (n / 4)) (isqrt_part d (n / 4) (omega arith))

parity : (s : ℕ) → (s ≡ (s + 1) / 2 + (s + 1) / 2) ⊎ (suc s ≡ (s + 1) / 2 + (s + 1) / 2)
parity s = go (dec_le (suc s) ((s + 1) / 2 + (s + 1) / 2))
  where
    go : Dec (suc s ≤ (s + 1) / 2 + (s + 1) / 2) → (s ≡ (s + 1) / 2 + (s + 1) / 2) ⊎ (suc s ≡ (s + 1) / 2 + (s + 1) / 2)
    go (yes l) = inr (omega arith)
    go (no f) = inl (omega arith)

-- half of the whole part of √(4 * m), rounded up
even : (m q : ℕ) → 0 < m → WholePart (4 * m) (q + q) → WholeRoot m q
even m zero h w = record { low = omega arith; high = omega (arith, w.high) }
even m (suc p) h w = record { low = omega (arith, w.low); high = omega (arith, w.high) }

uneven : (m p : ℕ) → WholePart (4 * m) (p + p + 1) → WholeRoot m (suc p)
uneven m p w = record { low = omega (arith, w.low); high = omega (arith, w.high) }

halved : (m s q : ℕ) → 0 < m → WholePart (4 * m) s → (s ≡ q + q) ⊎ (suc s ≡ q + q) → WholeRoot m q
halved m s q h w (inl e) = even m q h (subst (λ (z : ℕ). WholePart (4 * m) z) e w)
halved m s zero h w (inr e) = absurd (suc-ne-zero s e)
halved m s (suc p) h w (inr e) =
    let same : s ≡ p + p + 1 = omega arith in
    uneven m p (subst (λ (z : ℕ). WholePart (4 * m) z) same w)

pub nearest_whole_root : (m : ℕ) → 0 < m → m < 4 ^ 53 → WholeRoot m (nearest_whole m)
unfolding nearest_whole
nearest_whole_root m h k = halved m (isqrt 54 (4 * m)) ((isqrt 54 (4 * m) + 1) / 2) h (isqrt_part 54 (4 * m) (quadruple m (4 ^ 53) k)) (parity (isqrt 54 (4 * m)))
  where
    quadruple : (a b : ℕ) → a < b → 4 * a < 4 * b
    quadruple a b l = omega arith

-- ---- the digits that a double drops

four_pow : (k : ℕ) → 4 ^ k ≡ 2 ^ k * 2 ^ k
four_pow zero = refl
four_pow (suc k) = rw (pow-succ' 4 k, pow-succ' 2 k, four_pow k) (omega arith)

-- how many binary digits of √n a double drops
abbrev dropped : ℕ → ℕ
dropped n = (size n + 1) / 2 - 53

-- what is kept
record Kept (n k m : ℕ) : Type 0 where
  exact : n ≡ m * (2 ^ k * 2 ^ k)
  big : 2 ^ 52 * 2 ^ 52 ≤ m
  small : m < 4 ^ 53

square_pow : (b k : ℕ) → 2 ^ (b + (k + k)) ≡ 2 ^ b * (2 ^ k * 2 ^ k)
square_pow b k = rw (pow-add 2 b (k + k), pow-add 2 k k)

kept_at : (n a j k : ℕ) → n ≡ a * 2 ^ j → k + k ≤ j → 2 ^ (104 + (k + k)) ≤ n → n < 2 ^ (106 + (k + k)) → Kept n k (n / 4 ^ k)
kept_at n a j k e l lo hi =
    let p : 0 < 2 ^ k * 2 ^ k = mul-pos (pow_pos k) (pow_pos k) in
    let whole : n ≡ a * 2 ^ (j - (k + k)) * (2 ^ k * 2 ^ k) = e ∙ ap (λ (z : ℕ). a * z) (ap (λ (z : ℕ). 2 ^ z) (sym (sub-add_cancel l)) ∙ square_pow (j - (k + k)) k) ∙ sym (mul_assoc a (2 ^ (j - (k + k))) (2 ^ k * 2 ^ k)) in
    let m_is : n / 4 ^ k ≡ a * 2 ^ (j - (k + k)) = ap (λ (z : ℕ). n / z) (four_pow k) ∙ ap (λ (z : ℕ). z / (2 ^ k * 2 ^ k)) whole ∙ mul-div_cancel (a * 2 ^ (j - (k + k))) p in
    let exact : n ≡ n / 4 ^ k * (2 ^ k * 2 ^ k) = whole ∙ ap (λ (z : ℕ). z * (2 ^ k * 2 ^ k)) (sym m_is) in
    record {
      exact = exact;
      big = le_of_mul-le-mul_right (le_trans (le_of_eq (sym (square_pow 104 k))) (le_trans lo (le_of_eq exact))) p;
      small = lt_of_mul-lt-mul_right (2 ^ k * 2 ^ k) (lt_of_le_of_lt (le_of_eq (sym exact)) (lt_of_lt_of_le hi (le_of_eq (square_pow 106 k))));
    }

size_above : (n j : ℕ) → 2 ^ j ≤ n → j < size n
size_above n j h = lt_of_not-le (λ (g : size n ≤ j). not-le_of_lt (lt_of_lt_of_le (size-lt n) (pow_mono g)) h)

-- n is a number of at most 53 digits with at least 1074 zeros below them
kept : (n a j : ℕ) → n ≡ a * 2 ^ j → 0 < a → a < 2 ^ 53 → 1074 ≤ j → Kept n (dropped n) (n / 4 ^ dropped n)
kept n a j e pa sa lj =
    let upper : size n ≤ 53 + j = size-le n (53 + j) (subst (λ (y : ℕ). y < 2 ^ (53 + j)) (sym e) (shl_lt 53 j sa)) in
    let lower : 1074 < size n = size_above n 1074 (subst (λ (y : ℕ). 2 ^ 1074 ≤ y) (sym e) (le_trans (pow_mono lj) (le_trans (le_of_eq (sym (one-mul (2 ^ j)))) (mul-le-mul_right (2 ^ j) pa)))) in
    kept_at n a j (dropped n) e (omega arith) (size_reaches n (104 + (dropped n + dropped n)) (omega arith)) (lt_of_lt_of_le (size-lt n) (pow_mono (omega arith)))

-- ---- the root is correct

units_fits : (q k : ℕ) → q ≤ 2 ^ 53 → T (fits binary64 (units binary64 false q k))
unfolding units
units_fits q k h = go (ltb (q * 2 ^ k) (2 ^ 2098)) (ltb→lt (q * 2 ^ k) (2 ^ 2098))
  where
    go : (b : Bool) → (T b → q * 2 ^ k < 2 ^ 2098) → T (fits binary64 (cond b (odd 54 false q k 1074) (inf false)))
    go true l = odd-fits binary64 54 false q k (lt_of_le_of_lt h (lit< tt)) h (l tt)
    go false l = inf-fits binary64 false

-- the root of n / 4 ^ 1074
abbrev root_of : ℕ → Float
root_of n = units binary64 false (nearest_whole (n / 4 ^ dropped n)) (dropped n)

root_is : (m : ℕ) (e : ℤ) → root (fin false (suc m) e) ≡ root_of (suc m * up e * 4 ^ 1074 / down e)
unfolding root
root_is m e = refl

root_of_correct : (x : Float) (n a j : ℕ) → num x * (2 ^ 1074 * 2 ^ 1074) ≡ n * den x → n ≡ a * 2 ^ j → 0 < a → a < 2 ^ 53 → 1074 ≤ j → n < 2 ^ 3172
    → T (fits binary64 (root_of n)) × NearestRoot x (root_of n)
root_of_correct x n a j ex e pa sa lj small =
    let k = dropped n in
    let m = n / 4 ^ k in
    let t = kept n a j e pa sa lj in
    let w = nearest_whole_root m (lt_of_lt_of_le (pow_pos 104) t.big) t.small in
    let top : nearest_whole m ≤ 2 ^ 53 = at_most m (nearest_whole m) (2 ^ 53) w t.small in
    let z : size n ≤ 3172 = size-le n 3172 small in
    let bound : nearest_whole m * 2 ^ k < 2 ^ 2098 = lt_of_le_of_lt (mul-le-mul top (pow_mono {i = k} {j = 1533} (omega arith))) (lit< tt) in
    (units_fits (nearest_whole m) k top, nearest x (root_of n) m (nearest_whole m) k (units_val binary64 false (nearest_whole m) k bound) (ex ∙ ap (λ (y : ℕ). y * den x) t.exact) t.big w)

-- twice as many places below the point
pub doubled : (c a j d l : ℕ) → c * 2 ^ l ≡ a * 2 ^ j * d → c * (2 ^ l * 2 ^ l) ≡ a * 2 ^ (j + l) * d
doubled c a j d l h = sym (mul_assoc c (2 ^ l) (2 ^ l)) ∙ ap (λ (z : ℕ). z * 2 ^ l) h ∙ simp (pow-add, mul_comm, mul_left_comm)

-- n * d is c * q, and c is below b * d
bounded : (n c d q b : ℕ) → n * d ≡ c * q → c < b * d → 0 < q → n < b * q
bounded n c d q b e h p = lt_of_mul-lt-mul_right d (subst (λ (z : ℕ). z < b * q * d) (sym e) (lt_of_lt_of_le (mul-lt-mul_of_pos_right h p) (le_of_eq (swap b d q))))

above_correct : (m : ℕ) (e : ℤ) → T (fits binary64 (fin false (suc m) e)) → T (fits binary64 (root (fin false (suc m) e))) × NearestRoot (fin false (suc m) e) (root (fin false (suc m) e))
above_correct m e h =
    let x = fin false (suc m) e in
    let d = digits x h in
    let l = d.j + 1074 in
    let whole : suc m * up e * (2 ^ 1074 * 2 ^ 1074) ≡ d.n * 2 ^ l * down e = doubled (suc m * up e) d.n d.j (down e) 1074 d.exact in
    let n_is : suc m * up e * 4 ^ 1074 / down e ≡ d.n * 2 ^ l = ap (λ (z : ℕ). z / down e) whole ∙ mul-div_cancel (d.n * 2 ^ l) (down_pos e) in
    let some : 0 < d.n = first_pos d.n (2 ^ d.j) (first_pos (d.n * 2 ^ d.j) (down e) (subst (λ (z : ℕ). 0 < z) d.exact (mul-pos (mul-pos (zero-lt-suc m) (up_pos e)) (pow_pos 1074)))) in
    let small : d.n * 2 ^ l < 2 ^ 3172 = bounded (d.n * 2 ^ l) (suc m * up e) (down e) (2 ^ 1074 * 2 ^ 1074) (2 ^ 1024) (sym whole) (held false m e h).bounded (pow_pos 2148) in
    subst (λ (r : Float). T (fits binary64 r) × NearestRoot x r) (sym (root_is m e ∙ ap root_of n_is))
    (root_of_correct x (d.n * 2 ^ l) d.n l whole refl some d.short (le-add_left 1074 d.j) small)

pub root_correct : (x : Float) → T (fits binary64 x) → CorrectRoot x (root x)
unfolding root
root_correct nan h = record { double = h; value = refl }
root_correct (inf true) h = record { double = nan-fits binary64; value = refl }
root_correct (inf false) h = record { double = h; value = refl }
root_correct (fin s zero e) h = record { double = h; value = refl }
root_correct (fin true (suc m) e) h = record { double = nan-fits binary64; value = refl }
root_correct (fin false (suc m) e) h = record { double = (above_correct m e h).0; value = (above_correct m e h).1 }

-- ---- and no other double is

-- the bits of a finite double from +0 up, by its size in units of 2 ^ -1074
abbrev written_as : ℕ → ℕ
written_as n = 0 + (size n - 53) * 2 ^ 52 + n / 2 ^ (size n - 53)

bits_of : (m : ℕ) (e : ℤ) → to_bits binary64 (fin false m e) ≡ written_as (m * up e * 2 ^ 1074 / down e)
unfolding to_bits
bits_of m e = refl

scaled : (a b c d l : ℕ) → a * b ≡ c * d → a * l * b ≡ c * l * d
scaled a b c d l h = swap a l b ∙ ap (λ (z : ℕ). z * l) h ∙ swap c d l

-- two doubles of one size are one
same_size : (x y : Float) → T (fits binary64 x) → T (fits binary64 y) → T (positive x) → T (positive y) → num x * den y ≡ num y * den x → x ≡ y
same_size nan y f g p q h = absurd p
same_size (inf s) y f g p q h = absurd p
same_size (fin true m e) y f g p q h = absurd p
same_size (fin false m e) nan f g p q h = absurd q
same_size (fin false m e) (inf t) f g p q h = absurd q
same_size (fin false m e) (fin true n d) f g p q h = absurd q
same_size (fin false m e) (fin false n d) f g p q h =
    let units : m * up e * 2 ^ 1074 / down e ≡ n * up d * 2 ^ 1074 / down d = div_same (m * up e * 2 ^ 1074) (down e) (n * up d * 2 ^ 1074) (down d) (down_pos e) (down_pos d) (scaled (m * up e) (down d) (n * up d) (down e) (2 ^ 1074) h) in
    sym (of_bits-to_bits binary64 (fin false m e) f) ∙ ap (of_bits binary64) (bits_of m e ∙ ap written_as units ∙ sym (bits_of n d)) ∙ of_bits-to_bits binary64 (fin false n d) g

cross→lt : (x y : Float) → T (positive x) → T (positive y) → num x * den y < num y * den x → T (lt x y)
unfolding lt
cross→lt nan y p q h = absurd p
cross→lt (inf s) y p q h = absurd p
cross→lt (fin true m e) y p q h = absurd p
cross→lt (fin false m e) nan p q h = absurd q
cross→lt (fin false m e) (inf t) p q h = absurd q
cross→lt (fin false m e) (fin true n d) p q h = absurd q
cross→lt (fin false m e) (fin false n d) p q h = lt→ltb (m * up e * down d) (n * up d * down e) h

apart : (nx dx nr dr ns ds : ℕ) → 4 * nx * (dr * ds * (dr * ds)) < (nr * ds + ns * dr) * (nr * ds + ns * dr) * dx
    → (ns * dr + nr * ds) * (ns * dr + nr * ds) * dx < 4 * nx * (ds * dr * (ds * dr)) → ⊥
apart nx dx nr dr ns ds h k = omega arith

-- of two nearest doubles neither is below the other: x would lie on both sides of their midpoint's square
not_below : (x r s : Float) → T (fits binary64 r) → T (fits binary64 s) → NearestRoot x r → NearestRoot x s → num r * den s < num s * den r → ⊥
not_below x r s f g p q h =
    let l = cross→lt r s p.above q.above h in
    apart (num x) (den x) (num r) (den r) (num s) (den s) (p.upward s g (positive_from_zero s q.above) l) (q.downward r f (positive_from_zero r p.above) l)

nearest_unique : (x r s : Float) → T (fits binary64 r) → T (fits binary64 s) → NearestRoot x r → NearestRoot x s → r ≡ s
nearest_unique x r s f g p q = go (dec_le (num r * den s) (num s * den r))
  where
    go : Dec (num r * den s ≤ num s * den r) → r ≡ s
    go (no l) = absurd (not_below x s r g f q p (lt_of_not-le l))
    go (yes l) = elim (eq-or-lt_of_le l) [ inl e ↦ same_size r s f g p.above q.above e | inr b ↦ absurd (not_below x r s f g p q b) ]

unique : (x r s : Float) → CorrectRoot x r → CorrectRoot x s → r ≡ s
unique nan r s p q = p.value ∙ sym q.value
unique (inf true) r s p q = p.value ∙ sym q.value
unique (inf false) r s p q = p.value ∙ sym q.value
unique (fin t zero e) r s p q = p.value ∙ sym q.value
unique (fin true (suc m) e) r s p q = p.value ∙ sym q.value
unique (fin false (suc m) e) r s p q = nearest_unique (fin false (suc m) e) r s p.double q.double p.value q.value

-- this fixes the answer
pub root_unique : {x r s : Float} → CorrectRoot x r → CorrectRoot x s → r ≡ s
root_unique {x} {r} {s} = unique x r s

-- the law that callers cite: a correct root of a double x is `root x`
pub correct_is_root : {x r : Float} → T (fits binary64 x) → CorrectRoot x r → r ≡ root x
correct_is_root {x} h p = root_unique p (root_correct x h)

-- A double of q * 2 ^ k times 2 ^ -1074 is the one nearest to √x where q is the whole number nearest to √m and x is m * 4 ^ k times 4 ^ -1074, for an m of at least 105 binary digits.
-- A double y other than it is a multiple of 2 ^ k too, and then at least 2 ^ k away, or it lies below 2 ^ 52 * 2 ^ k; either way x lies on the right side of the midpoint's square.
-- Assumes nothing.
use Prim.Native.Nat.{ℕ, zero, suc, ◌+◌, ◌-◌, ◌*◌, ◌%◌, ◌^◌, ◌≤◌, ◌<◌, zero-le}
use mathlib.Core.Path.{◌≡◌, refl, sym, ap, subst, ◌∙◌}
use mathlib.Core.Logic.{◌⊎◌, inl, inr}
use mathlib.Core.Bool.{Bool, true, false, ◌&&◌}
use native.Mathlib.Nat.{le_of_suc-le-suc, sub-add_cancel, le_of_eq, mul-le-mul_left, le_trans, le_of_lt, lt_of_lt_of_le, lt_of_not-le, not-le_of_lt, eq-or-lt_of_le, le_dest, mul-one, zero-mul, mul_comm, mul_assoc, mul_left_comm, add-mul, mul-le-mul, mul-le-mul_right, mul-lt-mul_of_pos_right, lt_of_mul-lt-mul_right, mul-pos, pow-succ'}
use native.Mathlib.Decide.{dec_le}
use native.Mathlib.Omega.{arith}
use lib.IntN.{ℤ, pos, negsuc}
use lib.Dec.{T, eqb, leb, ltb, leb→le, ltb→lt}
use lib.Pow.{pow_pos, pow-lt, pow_mono, pow-add}
use lib.Ieee.{Float, nan, inf, fin, binary64, up, down, lt, fits}
use lib.Ieee.Fits.{and_l, and_r}
use lib.Ieee.Exact.{HasValue}
use lib.Ieee.Positive.{num, den, positive, den_pos, positive_of_value, value→cross}
use Rattle.arcs.specs.Root.{from_zero, BelowMidpoint, AboveMidpoint, NearestRoot}
use Rattle.arcs.specs.RootSteps.{WholeRoot}

-- ---- whole numbers: q * p stands for the root, y for the other double, p for 2 ^ k, b for 2 ^ 52

-- y is a multiple of p, or below b * p
abbrev Grid : ℕ → ℕ → ℕ → Type 0
Grid b p y = ((c : ℕ) × (y ≡ c * p)) ⊎ (y < b * p)

over : (m q s : ℕ) → WholeRoot m q → q + q < s → 4 * m < s * s
over m q s w h = omega (arith, mul-le-mul h h)

under : (m q s : ℕ) → WholeRoot m q → s < q + q → s * s < 4 * m
under m zero s w h = omega arith
under m (suc p) s w h =
    let t : s ≤ 2 * p + 1 = omega arith in
    omega (arith, mul-le-mul t t)

pub at_least : (m q b : ℕ) → WholeRoot m q → b * b ≤ m → b ≤ q
at_least m q b w h = go (dec_le b q)
  where
    not_less : suc q ≤ b → ⊥
    not_less l = omega (arith, mul-le-mul l l)

    go : Dec (b ≤ q) → b ≤ q
    go (yes l) = l
    go (no f) = absurd (not_less (lt_of_not-le f))

pub at_most : (m q b : ℕ) → WholeRoot m q → m < b * b → q ≤ b
at_most m zero b w h = zero-le
at_most m (suc p) b w h = go (dec_le (suc p) b)
  where
    not_more : b ≤ p → ⊥
    not_more l = omega (arith, mul-le-mul l l, w.low)

    go : Dec (suc p ≤ b) → suc p ≤ b
    go (yes l) = l
    go (no f) = absurd (not_more (le_of_suc-le-suc (lt_of_not-le f)))

scale : (a b p : ℕ) → a < b → 0 < p → a * (p * p) < b * (p * p)
scale a b p h k = mul-lt-mul_of_pos_right h (mul-pos k k)

-- above the root: x lies below the midpoint's square
upward : (m q b p y : ℕ) → WholeRoot m q → b * b ≤ m → 0 < p → Grid b p y → q * p < y → 4 * (m * (p * p)) < (q * p + y) * (q * p + y)
upward m q b p y w l k (inl (c, e)) h =
    let less : q < c = lt_of_mul-lt-mul_right p (subst (λ (z : ℕ). q * p < z) e h) in
    rw e (omega (arith, scale (4 * m) ((q + c) * (q + c)) p (over m q (q + c) w (omega arith)) k))
upward m q b p y w l k (inr g) h = absurd (not-le_of_lt h (le_of_lt (lt_of_lt_of_le g (mul-le-mul_right p (at_least m q b w l)))))

-- below the root: x lies above the midpoint's square
sum_below : (m q b : ℕ) → WholeRoot m q → b * b ≤ m → (q + b) * (q + b) ≤ 4 * m
sum_below m q b w l = go (eq-or-lt_of_le (at_least m q b w l))
  where
    go : (b ≡ q) ⊎ (b < q) → (q + b) * (q + b) ≤ 4 * m
    go (inl e) = subst (λ (z : ℕ). (z + b) * (z + b) ≤ 4 * m) e (omega arith)
    go (inr h) = le_of_lt (under m q (q + b) w (omega arith))

downward : (m q b p y : ℕ) → WholeRoot m q → b * b ≤ m → 0 < p → Grid b p y → y < q * p → (q * p + y) * (q * p + y) < 4 * (m * (p * p))
downward m q b p y w l k (inl (c, e)) h =
    let less : c < q = lt_of_mul-lt-mul_right p (subst (λ (z : ℕ). z < q * p) e h) in
    rw e (omega (arith, scale ((q + c) * (q + c)) (4 * m) p (under m q (q + c) w (omega arith)) k))
downward m q b p y w l k (inr g) h =
    let less : suc (q * p + y) ≤ (q + b) * p = omega arith in
    omega (arith, mul-le-mul less less, mul-le-mul_right (p * p) (sum_below m q b w l))

-- n * 2 ^ j for an n of at most b + 1 digits
on_grid : (b k n j : ℕ) → n < 2 ^ suc b → Grid (2 ^ b) (2 ^ k) (n * 2 ^ j)
on_grid b k n j h = go (dec_le k j)
  where
    go : Dec (k ≤ j) → Grid (2 ^ b) (2 ^ k) (n * 2 ^ j)
    go (yes l) =
        let d = le_dest l in
        inl (n * 2 ^ d.0, ap (λ (z : ℕ). n * z) (ap (λ (z : ℕ). 2 ^ z) (sym d.1) ∙ pow-add 2 k d.0) ∙ simp (mul_comm, mul_left_comm))
    go (no f) =
        let carried : 2 ^ suc b * 2 ^ j ≡ 2 ^ b * 2 ^ suc j = simp (pow-succ', mul_comm, mul_left_comm) in
        inr (lt_of_lt_of_le (mul-lt-mul_of_pos_right h (pow_pos j)) (le_trans (le_of_eq carried) (mul-le-mul_left (2 ^ b) (pow_mono (lt_of_not-le f)))))

-- ---- fractions: x is nx / dx and so on, and each is a whole number over l or l * l

pub swap : (a b c : ℕ) → a * b * c ≡ a * c * b
swap a b c = simp (mul_comm, mul_left_comm)

four_out : (a d l : ℕ) → 4 * a * d * l ≡ 4 * (a * l) * d
four_out a d l = simp (mul_comm, mul_left_comm)

square_out : (a d l : ℕ) → a * a * d * (l * l) ≡ a * l * (a * l) * d
square_out a d l = simp (mul_comm, mul_left_comm)

square_in : (a d e : ℕ) → a * d * (a * d) * e ≡ a * a * (d * d * e)
square_in a d e = simp (mul_comm, mul_left_comm)

module _ (l nx dx nr dr ny dy m r y : ℕ) (L : 0 < l) (DX : 0 < dx) (DR : 0 < dr) (DY : 0 < dy) (ex : nx * (l * l) ≡ m * dx) (er : nr * l ≡ r * dr) (ey : ny * l ≡ y * dy) where
  left : nr * dy * l ≡ r * (dr * dy)
  left = swap nr dy l ∙ ap (λ (z : ℕ). z * dy) er ∙ mul_assoc r dr dy

  right : ny * dr * l ≡ y * (dr * dy)
  right = swap ny dr l ∙ ap (λ (z : ℕ). z * dr) ey ∙ mul_assoc y dy dr ∙ ap (λ (z : ℕ). y * z) (mul_comm dy dr)

  -- the order of two doubles is that of the whole numbers
  less : nr * dy < ny * dr → r < y
  less h = lt_of_mul-lt-mul_right (dr * dy) (subst (λ (z : ℕ). z < y * (dr * dy)) left (subst (λ (z : ℕ). nr * dy * l < z) right (mul-lt-mul_of_pos_right h L)))

  more : ny * dr < nr * dy → y < r
  more h = lt_of_mul-lt-mul_right (dr * dy) (subst (λ (z : ℕ). y * (dr * dy) < z) left (subst (λ (z : ℕ). z < nr * dy * l) right (mul-lt-mul_of_pos_right h L)))

  -- both sides of the midpoint's order, times l * l
  four : 4 * nx * (dr * dy * (dr * dy)) * (l * l) ≡ 4 * m * (dr * dy * (dr * dy) * dx)
  four = four_out nx (dr * dy * (dr * dy)) (l * l) ∙ ap (λ (z : ℕ). 4 * z * (dr * dy * (dr * dy))) ex ∙ simp (mul_comm, mul_left_comm)

  sum : (nr * dy + ny * dr) * (nr * dy + ny * dr) * dx * (l * l) ≡ (r + y) * (r + y) * (dr * dy * (dr * dy) * dx)
  sum =
      let total : (nr * dy + ny * dr) * l ≡ (r + y) * (dr * dy) = add-mul (nr * dy) (ny * dr) l ∙ ap (λ (z : ℕ). z + ny * dr * l) left ∙ ap (λ (z : ℕ). r * (dr * dy) + z) right ∙ sym (add-mul r y (dr * dy)) in
      square_out (nr * dy + ny * dr) dx l ∙ ap (λ (z : ℕ). z * z * dx) total ∙ square_in (r + y) (dr * dy) dx

  positive_den : 0 < dr * dy * (dr * dy) * dx
  positive_den = mul-pos (mul-pos (mul-pos DR DY) (mul-pos DR DY)) DX

  below_midpoint : 4 * m < (r + y) * (r + y) → 4 * nx * (dr * dy * (dr * dy)) < (nr * dy + ny * dr) * (nr * dy + ny * dr) * dx
  below_midpoint h = lt_of_mul-lt-mul_right (l * l) (rw (four, sum) (mul-lt-mul_of_pos_right h positive_den))

  above_midpoint : (r + y) * (r + y) < 4 * m → (nr * dy + ny * dr) * (nr * dy + ny * dr) * dx < 4 * nx * (dr * dy * (dr * dy))
  above_midpoint h = lt_of_mul-lt-mul_right (l * l) (rw (four, sum) (mul-lt-mul_of_pos_right h positive_den))

-- what the whole numbers m, r and y say of the fractions
record Sides (nx dx nr dr ny dy m r y : ℕ) : Type 0 where
  less : nr * dy < ny * dr → r < y
  more : ny * dr < nr * dy → y < r
  below : 4 * m < (r + y) * (r + y) → 4 * nx * (dr * dy * (dr * dy)) < (nr * dy + ny * dr) * (nr * dy + ny * dr) * dx
  above : (r + y) * (r + y) < 4 * m → (nr * dy + ny * dr) * (nr * dy + ny * dr) * dx < 4 * nx * (dr * dy * (dr * dy))

sides : (l nx dx nr dr ny dy m r y : ℕ) → 0 < l → 0 < dx → 0 < dr → 0 < dy → nx * (l * l) ≡ m * dx → nr * l ≡ r * dr → ny * l ≡ y * dy → Sides nx dx nr dr ny dy m r y
sides l nx dx nr dr ny dy m r y L DX DR DY ex er ey = record {
  less = less l nx dx nr dr ny dy m r y L DX DR DY ex er ey;
  more = more l nx dx nr dr ny dy m r y L DX DR DY ex er ey;
  below = below_midpoint l nx dx nr dr ny dy m r y L DX DR DY ex er ey;
  above = above_midpoint l nx dx nr dr ny dy m r y L DX DR DY ex er ey;
}

-- ---- doubles

exponent_le : (i j : ℕ) → 2 ^ i ≤ 2 ^ j → i ≤ j
exponent_le i j h = go (dec_le i j)
  where
    go : Dec (i ≤ j) → i ≤ j
    go (yes l) = l
    go (no f) = absurd (not-le_of_lt (pow-lt (lt_of_not-le f)) h)

-- a double is n * 2 ^ j times 2 ^ -1074, n having at most 53 digits; 0 stands for a NaN and an infinity
pub record Digits (y : Float) : Type 0 where
  pub n : ℕ
  pub j : ℕ
  pub short : n < 2 ^ 53
  pub exact : num y * 2 ^ 1074 ≡ n * 2 ^ j * den y

zero_digits : (y : Float) → num y ≡ 0 → Digits y
zero_digits y e = record { n = 0; j = 0; short = pow_pos 53; exact = ap (λ (z : ℕ). z * 2 ^ 1074) e ∙ sym (zero-mul (den y)) }

-- l is 1074
scaled_up : (l m t : ℕ) → m * 2 ^ t * 2 ^ l ≡ m * 2 ^ (t + l) * 1
scaled_up l m t = rw (pow-add 2 t l) (simp (mul-one, mul_assoc))

scaled_down : (l m t : ℕ) → t ≤ l → m * 1 * 2 ^ l ≡ m * 2 ^ (l - t) * 2 ^ t
scaled_down l m t h = rw (mul-one, mul_assoc, ← pow-add 2 (l - t) t, sub-add_cancel h)

-- what `fits` says of a number other than 0
pub record Held (m : ℕ) (e : ℤ) : Type 0 where
  pub short : m < 2 ^ 53
  pub fine : down e ≤ 2 ^ 1074
  pub bounded : m * up e < 2 ^ 1024 * down e

pub held : (s : Bool) (m : ℕ) (e : ℤ) → T (fits binary64 (fin s (suc m) e)) → Held (suc m) e
unfolding fits
held s m e h =
    let A = eqb (suc m % 2) 1 in
    let B = ltb (suc m) (2 ^ 53) in
    let C = leb (down e) (2 ^ 1074) in
    let D = ltb (suc m * up e) (2 ^ 1024 * down e) in
    record {
      short = ltb→lt (suc m) (2 ^ 53) (and_r A B (and_l (A && B) C (and_l (A && B && C) D h)));
      fine = leb→le (down e) (2 ^ 1074) (and_r (A && B) C (and_l (A && B && C) D h));
      bounded = ltb→lt (suc m * up e) (2 ^ 1024 * down e) (and_r (A && B && C) D h);
    }

of_held : (s : Bool) (m : ℕ) (e : ℤ) → Held m e → Digits (fin s m e)
of_held s m (pos t) h = record { n = m; j = t + 1074; short = h.short; exact = scaled_up 1074 m t }
of_held s m (negsuc t) h = record { n = m; j = 1074 - suc t; short = h.short; exact = scaled_down 1074 m (suc t) (exponent_le (suc t) 1074 h.fine) }

pub digits : (y : Float) → T (fits binary64 y) → Digits y
digits nan h = zero_digits nan refl
digits (inf s) h = zero_digits (inf s) refl
digits (fin s zero e) h = zero_digits (fin s zero e) (zero-mul (up e))
digits (fin s (suc m) e) h = of_held s (suc m) e (held s m e h)

-- the order of doubles from +0 up is that of their fractions
lt→cross : (x y : Float) → T (from_zero x) → T (from_zero y) → T (lt x y) → num x * den y < num y * den x
unfolding lt
lt→cross nan y p q h = absurd p
lt→cross (inf s) y p q h = absurd p
lt→cross (fin true m e) y p q h = absurd p
lt→cross (fin false m e) nan p q h = absurd q
lt→cross (fin false m e) (inf t) p q h = absurd q
lt→cross (fin false m e) (fin true n d) p q h = absurd q
lt→cross (fin false m e) (fin false n d) p q h = ltb→lt (m * up e * down d) (n * up d * down e) h

pub positive_from_zero : (x : Float) → T (positive x) → T (from_zero x)
positive_from_zero nan p = absurd p
positive_from_zero (inf s) p = absurd p
positive_from_zero (fin true m e) p = absurd p
positive_from_zero (fin false m e) p = tt

-- r is q * 2 ^ k times 2 ^ -1074, and x is m * 4 ^ k times 4 ^ -1074
module _ (x r : Float) (m q k : ℕ) (er : HasValue r false (q * 2 ^ k) (2 ^ 1074)) (ex : num x * (2 ^ 1074 * 2 ^ 1074) ≡ m * (2 ^ k * 2 ^ k) * den x) (big : 2 ^ 52 * 2 ^ 52 ≤ m) (w : WholeRoot m q) where
  above_zero : T (positive r)
  above_zero = positive_of_value r (q * 2 ^ k) (2 ^ 1074) er (mul-pos (lt_of_lt_of_le (pow_pos 52) (at_least m q (2 ^ 52) w big)) (pow_pos k))

  value : num r * 2 ^ 1074 ≡ q * 2 ^ k * den r
  value = value→cross r (q * 2 ^ k) (2 ^ 1074) er

  at : (y : Float) (d : Digits y) → Sides (num x) (den x) (num r) (den r) (num y) (den y) (m * (2 ^ k * 2 ^ k)) (q * 2 ^ k) (d.n * 2 ^ d.j)
  at y d = sides (2 ^ 1074) (num x) (den x) (num r) (den r) (num y) (den y) (m * (2 ^ k * 2 ^ k)) (q * 2 ^ k) (d.n * 2 ^ d.j) (pow_pos 1074) (den_pos x) (den_pos r) (den_pos y) ex value d.exact

  nearest_up : (y : Float) → T (fits binary64 y) → T (from_zero y) → T (lt r y) → BelowMidpoint x r y
  nearest_up y f z h =
      let d = digits y f in
      (at y d).below (upward m q (2 ^ 52) (2 ^ k) (d.n * 2 ^ d.j) w big (pow_pos k) (on_grid 52 k d.n d.j d.short) ((at y d).less (lt→cross r y (positive_from_zero r above_zero) z h)))

  nearest_down : (y : Float) → T (fits binary64 y) → T (from_zero y) → T (lt y r) → AboveMidpoint x r y
  nearest_down y f z h =
      let d = digits y f in
      (at y d).above (downward m q (2 ^ 52) (2 ^ k) (d.n * 2 ^ d.j) w big (pow_pos k) (on_grid 52 k d.n d.j d.short) ((at y d).more (lt→cross y r z (positive_from_zero r above_zero) h)))

  pub nearest : NearestRoot x r
  nearest = record { above = above_zero; upward = nearest_up; downward = nearest_down }

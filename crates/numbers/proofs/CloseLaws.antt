-- How close signed fractions are: distances add along a chain and in a sum, and a product's is bounded by the factors' distances and sizes.
-- Products are multiplied out and sorted, so that every step is linear in its monomials. Assumes nothing.
use mathlib.Core.Path.{◌≡◌, ap}
use Prim.Native.Nat.{ℕ, ◌+◌, ◌*◌, ◌≤◌, ◌<◌}
use native.Mathlib.Nat.{le_trans, le_of_eq, le_dest, mul-le-mul, mul-le-mul_right, le_of_mul-le-mul_right, mul_comm, mul_assoc, mul_left_comm, mul-add, add-mul}
use native.Mathlib.Decide.{dec_le}
use native.Mathlib.Omega.{arith}
use Rattle.numbers.specs.Close.{Signed, Under, Close, Mag}

-- multiplies products out and sorts them
pub ruleset ring = (mul_comm, mul_assoc, mul_left_comm, mul-add, add-mul)

abbrev pub add_s : Signed → Signed → Signed
add_s a b = record { p = a.p * b.d + b.p * a.d; n = a.n * b.d + b.n * a.d; d = a.d * b.d }

abbrev pub mul_s : Signed → Signed → Signed
mul_s a b = record { p = a.p * b.p + a.n * b.n; n = a.p * b.n + a.n * b.p; d = a.d * b.d }

-- ---- the chain
pub under_trans : (S p n c p' n' c' p'' n'' c'' e e' : ℕ) → 0 < c'
    → (p * c' + n' * c) * S ≤ (n * c' + p' * c) * S + e * (c * c')
    → (p' * c'' + n'' * c') * S ≤ (n' * c'' + p'' * c') * S + e' * (c' * c'')
    → (p * c'' + n'' * c) * S ≤ (n * c'' + p'' * c) * S + (e + e') * (c * c'')
under_trans S p n c p' n' c' p'' n'' c'' e e' C h k = le_of_mul-le-mul_right (simp ring (omega (arith, simp ring at (mul-le-mul_right c'' h), simp ring at (mul-le-mul_right c k)))) C

pub close_trans : (S : ℕ) (a b c : Signed) (e e' : ℕ) → 0 < b.d → Close S a b e → Close S b c e' → Close S a c (e + e')
close_trans S a b c e e' B h k = (
  under_trans S a.p a.n a.d b.p b.n b.d c.p c.n c.d e e' B h.0 k.0,
  omega (arith, under_trans S c.p c.n c.d b.p b.n b.d a.p a.n a.d e' e B k.1 h.1),
)

-- ---- the sum
under_add : (S p n c P N d e q m c' Q M d' e' : ℕ)
    → (p * d + N * c) * S ≤ (n * d + P * c) * S + e * (c * d)
    → (q * d' + M * c') * S ≤ (m * d' + Q * c') * S + e' * (c' * d')
    → ((p * c' + q * c) * (d * d') + (N * d' + M * d) * (c * c')) * S ≤ ((n * c' + m * c) * (d * d') + (P * d' + Q * d) * (c * c')) * S + (e + e') * ((c * c') * (d * d'))
under_add S p n c P N d e q m c' Q M d' e' h k = simp ring (omega (arith, simp ring at (mul-le-mul_right (c' * d') h), simp ring at (mul-le-mul_right (c * d) k)))

pub close_add : (S : ℕ) (a a' b b' : Signed) (e f : ℕ) → Close S a a' e → Close S b b' f → Close S (add_s a b) (add_s a' b') (e + f)
close_add S a a' b b' e f h k = (
  under_add S a.p a.n a.d a'.p a'.n a'.d e b.p b.n b.d b'.p b'.n b'.d f h.0 k.0,
  under_add S a'.p a'.n a'.d a.p a.n a.d e b'.p b'.n b'.d b.p b.n b.d f h.1 k.1,
)

-- ---- the product
-- a difference as one of two natural numbers
split : (a b S W : ℕ) → a * S ≤ b * S + W → b * S ≤ a * S + W → (x : ℕ) × (y : ℕ) × (a + y ≡ b + x) × ((x + y) * S ≤ W)
split a b S W h k = elim (dec_le a b) [ yes l ↦ up (le_dest l) | no l ↦ down (le_dest (le_of_not l)) ]
  where
    le_of_not : ¬ (a ≤ b) → b ≤ a
    le_of_not l = omega arith

    up : (z : ℕ) × (a + z ≡ b) → (x : ℕ) × (y : ℕ) × (a + y ≡ b + x) × ((x + y) * S ≤ W)
    up r = (0, r.0, omega (arith, r.1), omega (arith, k, ap (λ (w : ℕ). w * S) r.1))

    down : (z : ℕ) × (b + z ≡ a) → (x : ℕ) × (y : ℕ) × (a + y ≡ b + x) × ((x + y) * S ≤ W)
    down r = (r.0, 0, omega (arith, r.1), omega (arith, h, ap (λ (w : ℕ). w * S) r.1))

mul_cong : (p n p' n' q m q' m' : ℕ) → p + n' ≡ n + p' → q + m' ≡ m + q' → p * q + n * m + (p' * m' + n' * q') ≡ p * m + n * q + (p' * q' + n' * m')
mul_cong p n p' n' q m q' m' h k =
    omega (arith, ap (λ (w : ℕ). w * q) h, ap (λ (w : ℕ). w * m) h, ap (λ (w : ℕ). w * p') k, ap (λ (w : ℕ). w * n') k)

-- M and N: the sizes of the factors; w and z: how far they are off
part : (S : ℕ) → 0 < S → (c d c' d' M w e m N z e' m' k : ℕ) → M * S ≤ m * d → N * S ≤ m' * d' → w * S ≤ e * (c * d) → z * S ≤ e' * (c' * d')
    → e * m' + e' * m + e * e' ≤ k * S
    → (M * c * z + w * (N * c') + w * z) * S ≤ k * ((c * c') * (d * d'))
part S p_s c d c' d' M w e m N z e' m' k a b f g h =
    le_of_mul-le-mul_right
    (simp ring (omega (arith, simp ring at (mul-le-mul_right c (mul-le-mul a g)), simp ring at (mul-le-mul_right c' (mul-le-mul f b)), simp ring at (mul-le-mul f g), simp ring at (mul-le-mul_right ((c * c') * (d * d')) h))))
    p_s

off : (a b x y S W : ℕ) → a + y ≡ b + x → (x + y) * S ≤ W → (a * S ≤ b * S + W) × (b * S ≤ a * S + W)
off a b x y S W i j = (omega (arith, ap (λ (w : ℕ). w * S) i), omega (arith, ap (λ (w : ℕ). w * S) i))

flip : (S u v w z e c d : ℕ) → (u + v) * S ≤ (w + z) * S + e * (d * c) → (v + u) * S ≤ (z + w) * S + e * (c * d)
flip S u v w z e c d h = omega arith

abbrev pub neg_s : Signed → Signed
neg_s a = record { p = a.n; n = a.p; d = a.d }

pub close_neg : (S : ℕ) (a b : Signed) (e : ℕ) → Close S a b e → Close S (neg_s a) (neg_s b) e
close_neg S a b e h = (
  flip S (b.p * a.d) (a.n * b.d) (b.n * a.d) (a.p * b.d) e a.d b.d h.1,
  flip S (a.p * b.d) (b.n * a.d) (a.n * b.d) (b.p * a.d) e b.d a.d h.0,
)

pub close_mul : (S : ℕ) → 0 < S → (a a' b b' : Signed) (e f m m' k : ℕ) → Close S a a' e → Close S b b' f → Mag S a' m → Mag S b' m' → e * m' + f * m + e * f ≤ k * S
    → Close S (mul_s a b) (mul_s a' b') k
close_mul S p_s a a' b b' e f m m' k h g M N l =
    go a.p a.n a.d a'.p a'.n a'.d b.p b.n b.d b'.p b'.n b'.d M N
    (split (a.p * a'.d + a'.n * a.d) (a.n * a'.d + a'.p * a.d) S (e * (a.d * a'.d)) h.0 (flip S (a'.p * a.d) (a.n * a'.d) (a'.n * a.d) (a.p * a'.d) e a.d a'.d h.1))
    (split (b.p * b'.d + b'.n * b.d) (b.n * b'.d + b'.p * b.d) S (f * (b.d * b'.d)) g.0 (flip S (b'.p * b.d) (b.n * b'.d) (b'.n * b.d) (b.p * b'.d) f b.d b'.d g.1))
  where
    go : (p n c P N d q r c' Q R d' : ℕ) → (P + N) * S ≤ m * d → (Q + R) * S ≤ m' * d'
        → (x : ℕ) × (y : ℕ) × (p * d + N * c + y ≡ n * d + P * c + x) × ((x + y) * S ≤ e * (c * d))
        → (x : ℕ) × (y : ℕ) × (q * d' + R * c' + y ≡ r * d' + Q * c' + x) × ((x + y) * S ≤ f * (c' * d'))
        → Close S (mul_s (record { p = p; n = n; d = c }) (record { p = q; n = r; d = c' })) (mul_s (record { p = P; n = N; d = d }) (record { p = Q; n = R; d = d' })) k
    go p n c P N d q r c' Q R d' M M' X Y =
        let x = X.0 in
        let y = X.1 in
        let u = Y.0 in
        let v = Y.1 in
        let E = mul_cong (p * d) (n * d) (P * c + x) (N * c + y) (q * d') (r * d') (Q * c' + u) (R * c' + v) (omega (arith, X.2)) (omega (arith, Y.2)) in
        let W = part S p_s c d c' d' (P + N) (x + y) e m (Q + R) (u + v) f m' k M M' X.3 Y.3 l in
        let F = off ((p * q + n * r) * (d * d') + (P * R + N * Q) * (c * c')) ((p * r + n * q) * (d * d') + (P * Q + N * R) * (c * c'))
        (P * c * u + N * c * v + (x * (Q * c') + y * (R * c')) + (x * u + y * v)) (P * c * v + N * c * u + (x * (R * c') + y * (Q * c')) + (x * v + y * u)) S (k * ((c * c') * (d * d')))
        (simp ring (omega (arith, simp ring at E))) (le_trans (le_of_eq (ap (λ (w : ℕ). w * S) (simp ring (omega arith)))) W) in
        (F.0, flip S ((p * r + n * q) * (d * d')) ((P * Q + N * R) * (c * c')) ((p * q + n * r) * (d * d')) ((P * R + N * Q) * (c * c')) k (d * d') (c * c') F.1)

-- ---- the same value written with other parts, over the same denominator
same_under : (S p n d p' n' q m c e : ℕ) → p + n' ≡ n + p' → (q * d + n * c) * S ≤ (m * d + p * c) * S + e * (c * d) → (q * d + n' * c) * S ≤ (m * d + p' * c) * S + e * (c * d)
same_under S p n d p' n' q m c e i h = simp ring (omega (arith, simp ring at h, simp ring at (ap (λ (w : ℕ). w * c * S) i)))

same_over : (S p n d p' n' q m c e : ℕ) → p + n' ≡ n + p' → (p * c + m * d) * S ≤ (n * c + q * d) * S + e * (d * c) → (p' * c + m * d) * S ≤ (n' * c + q * d) * S + e * (d * c)
same_over S p n d p' n' q m c e i h = simp ring (omega (arith, simp ring at h, simp ring at (ap (λ (w : ℕ). w * c * S) i)))

pub close_same : (S : ℕ) (a b : Signed) (p n e : ℕ) → b.p + n ≡ b.n + p → Close S a b e → Close S a (record { p = p; n = n; d = b.d }) e
close_same S a b p n e i h = (
  same_under S b.p b.n b.d p n a.p a.n a.d e i h.0,
  same_over S b.p b.n b.d p n a.p a.n a.d e i h.1,
)

pub close_sym : (S : ℕ) (a b : Signed) (e : ℕ) → Close S a b e → Close S b a e
close_sym S a b e h = (h.1, h.0)

-- ---- sizes
pub mag_add : (S : ℕ) (a b : Signed) (m k : ℕ) → Mag S a m → Mag S b k → Mag S (add_s a b) (m + k)
mag_add S a b m k h l = go a.p a.n a.d b.p b.n b.d h l
  where
    go : (p n d q r c : ℕ) → (p + n) * S ≤ m * d → (q + r) * S ≤ k * c → (p * c + q * d + (n * c + r * d)) * S ≤ (m + k) * (d * c)
    go p n d q r c h l = simp ring (omega (arith, simp ring at (mul-le-mul_right c h), simp ring at (mul-le-mul_right d l)))

pub mag_mul : (S : ℕ) → 0 < S → (a b : Signed) (m m' k : ℕ) → Mag S a m → Mag S b m' → m * m' ≤ k * S → Mag S (mul_s a b) k
mag_mul S p_s a b m m' k h l u = go a.p a.n a.d b.p b.n b.d h l
  where
    go : (p n d q r c : ℕ) → (p + n) * S ≤ m * d → (q + r) * S ≤ m' * c → (p * q + n * r + (p * r + n * q)) * S ≤ k * (d * c)
    go p n d q r c h l = le_of_mul-le-mul_right (simp ring (omega (arith, simp ring at (mul-le-mul h l), simp ring at (mul-le-mul_right (d * c) u)))) p_s

pub close_self : (S : ℕ) (a : Signed) → Close S a a 0
close_self S a = go a.p a.n a.d
  where
    go : (p n d : ℕ) → Close S (record { p = p; n = n; d = d }) (record { p = p; n = n; d = d }) 0
    go p n d = (omega arith, omega arith)

-- ---- one side alone
pub under_chain : (S : ℕ) (a b c : Signed) (e e' : ℕ) → 0 < b.d → Under S a b e → Under S b c e' → Under S a c (e + e')
under_chain S a b c e e' B h k = under_trans S a.p a.n a.d b.p b.n b.d c.p c.n c.d e e' B h k

pub under_more : (S : ℕ) (a b : Signed) (e e' : ℕ) → e ≤ e' → Under S a b e → Under S a b e'
under_more S a b e e' l h = omega (arith, h, mul-le-mul_right (a.d * b.d) l)

-- a ≤ b
abbrev pub AtMost : Signed → Signed → Type 0
AtMost a b = a.p * b.d + b.n * a.d ≤ a.n * b.d + b.p * a.d

pub under_of : (S : ℕ) (a b : Signed) → AtMost a b → Under S a b 0
under_of S a b h = omega (arith, mul-le-mul_right S h)

-- from units of 1 / S to units of 1 / R
pub coarser : (S R : ℕ) (a b : Signed) (e k : ℕ) → 0 < S → e * R ≤ k * S → Close S a b e → Close R a b k
coarser S R a b e k p_s l h = (go a.p a.n a.d b.p b.n b.d h.0, go b.p b.n b.d a.p a.n a.d h.1)
  where
    go : (p n d q m c : ℕ) → (p * c + m * d) * S ≤ (n * c + q * d) * S + e * (d * c) → (p * c + m * d) * R ≤ (n * c + q * d) * R + k * (d * c)
    go p n d q m c h = le_of_mul-le-mul_right (simp ring (omega (arith, simp ring at (mul-le-mul_right R h), simp ring at (mul-le-mul_right (d * c) l)))) p_s

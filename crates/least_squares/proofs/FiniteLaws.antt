-- Slopes and inverse weights are finite, whatever they are made of: a quotient that is not finite counts as a slope of 0, and a weight is at least 1e-12. So are lists of them, and
-- the parts of memory that hold such lists. Assumes nothing.
use mathlib.Core.Path.{◌≡◌, refl, sym, ap, subst, ◌∙◌}
use mathlib.Core.Bool.{Bool, true, false, not, ◌&&◌, cond, false≢true}
use mathlib.Core.List.{List, [], ◌∷◌, ◌++◌, map}
use Prim.Native.Nat.{ℕ, zero, suc, ◌+◌, ◌*◌, ◌^◌, ◌≤◌, ◌<◌}
use native.Mathlib.Omega.{arith}
use native.Mathlib.Nat.{not-suc-le-zero, le_of_suc-le-suc, mul-one, mul-pos, zero-mul, zero-lt-suc}
use lib.IntN.{ℤ}
use lib.Dec.{T, ltb, eqb, nltb→le, lit<, eqb-suc-zero}
use lib.ListN.{length, get_or}
use lib.Ieee.{Float, nan, inf, fin, Format, binary64, up, down, prec, emax, low, units, odd, round, sub, mul, div, lt, le, eq, is_nan, of_bits}
use lib.Ieee.Fits.{up_pos, down_pos, round_is}
use lib.Ieee.Order.{round_mono}
use Rattle.numbers.specs.Double.{zero64, one64, fmax, is_finite}
use Rattle.least_squares.specs.Filled.{FiniteAt}
use Rattle.least_squares.specs.Lm.{list_of, table_of, slope_of, slope, jacobian, all_finite, inverse_weight}
use Rattle.least_squares.specs.Memory.{part}
use Rattle.least_squares.proofs.MemoryLaws.{part_at, part_length}

-- ---- slopes
pub slope_finite : (plus minus h : Float) → is_finite (slope_of plus minus h) ≡ true
slope_finite plus minus h = pick (div binary64 (sub binary64 plus minus) (mul binary64 (of_bits binary64 0x4000_0000_0000_0000) h))
  where
    go : (b : Bool) (d : Float) → is_finite d ≡ b → is_finite (cond b d zero64) ≡ true
    go true d e = e
    go false d e = unfold is_finite of_bits in refl

    pick : (d : Float) → is_finite (cond (is_finite d) d zero64) ≡ true
    pick d = go (is_finite d) d refl

-- 1e-12
abbrev least : Float
least = of_bits binary64 0x3D71_9799_812D_EA11

-- ---- what is at most a finite number, and no minus infinity, is finite
abbrev Up : Float → Type 0
Up nan = T true
Up (inf s) = T (not s)
Up (fin s m e) = T true

odd_up : (d : ℕ) (s : Bool) (q k l : ℕ) → Up (odd d s q k l)
unfolding odd
odd_up d s zero k l = tt
odd_up d s (suc q) k l = tt

cond_up : (b : Bool) (x y : Float) → Up x → Up y → Up (cond b x y)
cond_up true x y h k = h
cond_up false x y h k = k

units_up : (f : Format) (q k : ℕ) → Up (units f false q k)
unfolding units
units_up f q k = cond_up (ltb (q * 2 ^ k) (2 ^ (low f + suc (emax f)))) (odd (suc (prec f)) false q k (low f)) (inf false) (odd_up (suc (prec f)) false q k (low f)) tt

round_up : (f : Format) (num den : ℕ) → Up (round f false num den)
round_up f num den = subst Up (sym (round_is f false num den)) (units_up f _ _)

under_finite : (x y : Float) → Up x → T (le x y) → is_finite y ≡ true → is_finite x ≡ true
unfolding le is_finite
under_finite nan y u h e = absurd h
under_finite (inf true) y u h e = absurd u
under_finite (inf false) nan u h e = absurd h
under_finite (inf false) (inf t) u h e = absurd (false≢true e)
under_finite (inf false) (fin t n d) u h e = absurd h
under_finite (fin s m k) y u h e = refl

-- ---- 1 over a number that is at least `least`, which is 4951760157141521 / 2 ^ 92
least_finite : is_finite (div binary64 one64 least) ≡ true
unfolding is_finite div of_bits
least_finite = refl

positive_size : (m : ℕ) (e : ℤ) → 4951760157141521 * down e ≤ m * up e * 2 ^ 92 → 0 < m
positive_size zero e h = let p = down_pos e in let z = zero-mul (up e) in absurd (omega arith)
positive_size (suc m) e h = zero-lt-suc m

inverse_at_lem : (m : ℕ) (e : ℤ) → 4951760157141521 * down e ≤ m * up e * 2 ^ 92 → is_finite (round binary64 false (1 * 1 * down e) (m * up e * 1)) ≡ true
inverse_at_lem m e h =
    under_finite (round binary64 false (1 * 1 * down e) (m * up e * 1)) (round binary64 false (1 * 1 * 2 ^ 92) (4951760157141521 * 1 * 1)) (round_up binary64 (1 * 1 * down e) (m * up e * 1))
    (round_mono binary64 (1 * 1 * down e) (m * up e * 1) (1 * 1 * 2 ^ 92) (4951760157141521 * 1 * 1) (rw (mul-one (m * up e)) (mul-pos (positive_size m e h) (up_pos e))) (lit< tt) (omega arith))
    (unfold is_finite round in refl)

not_zero : (m : ℕ) → 0 < m → eqb m 0 ≡ false
not_zero zero h = absurd (omega arith)
not_zero (suc m) h = eqb-suc-zero m

inverse_of : (m : ℕ) (e : ℤ) → 4951760157141521 * down e ≤ m * up e * 2 ^ 92 → is_finite (div binary64 one64 (fin false m e)) ≡ true
unfolding div of_bits
inverse_of m e h =
    ap (λ (b : Bool). is_finite (cond b (cond false nan (inf false)) (round binary64 false (1 * 1 * down e) (m * up e * 1)))) (not_zero m (positive_size m e h)) ∙ inverse_at_lem m e h

-- the larger of a number and `least`
and-false : (a : Bool) → (a && false) ≡ false
and-false true = refl
and-false false = refl

fmax_is : (x : Float) → is_nan x ≡ false → fmax x least ≡ cond (lt x least) least x
unfolding fmax
fmax_is x h =
    let p : is_nan least ≡ false = unfold is_nan of_bits in refl in
    let q : eq least zero64 ≡ false = unfold eq of_bits in refl in
    let r : (eq x zero64 && eq least zero64) ≡ false = ap (λ (b : Bool). eq x zero64 && b) q ∙ and-false (eq x zero64) in
    λ j. cond (h j) least (cond (p j) x (cond (r j) zero64 (cond (lt x least) least x)))

by_test : (b : Bool) (x : Float) → (b ≡ false → is_finite (div binary64 one64 x) ≡ true) → is_finite (div binary64 one64 (cond b least x)) ≡ true
by_test true x h = least_finite
by_test false x h = h refl

over_least : (x : Float) → is_nan x ≡ false → (lt x least ≡ false → is_finite (div binary64 one64 x) ≡ true) → is_finite (inverse_weight x) ≡ true
over_least x h k = ap (λ (d : Float). is_finite (div binary64 one64 d)) (fmax_is x h) ∙ by_test (lt x least) x k

infinite_inverse : is_finite (div binary64 one64 (inf false)) ≡ true
unfolding is_finite div of_bits
infinite_inverse = refl

pub inverse_finite : (w : Float) → is_finite (inverse_weight w) ≡ true
unfolding is_nan lt of_bits
inverse_finite nan = unfold fmax in least_finite
inverse_finite (inf true) = over_least (inf true) refl (λ e. absurd (false≢true (sym e)))
inverse_finite (inf false) = over_least (inf false) refl (λ e. infinite_inverse)
inverse_finite (fin true m e) = over_least (fin true m e) refl
    (λ z. let h = nltb→le 0 (m * up e * 2 ^ 92 + 4951760157141521 * 1 * down e) (subst (λ (b : Bool). T (not b)) (sym z) tt) in let p = down_pos e in absurd (omega arith))
inverse_finite (fin false m e) = over_least (fin false m e) refl
    (λ z. let h = nltb→le (m * up e * 2 ^ 92) (4951760157141521 * 1 * down e) (subst (λ (b : Bool). T (not b)) (sym z) tt) in inverse_of m e (omega arith))

-- ---- lists
and-true : (a b : Bool) → a ≡ true → b ≡ true → (a && b) ≡ true
and-true a b e f = (λ j. e j && f j)

both_left : (a b : Bool) → (a && b) ≡ true → a ≡ true
both_left true b e = refl
both_left false b e = e

both_right : (a b : Bool) → (a && b) ≡ true → b ≡ true
both_right true b e = e
both_right false b e = absurd (false≢true e)

finite_append : (l r : List Float) → all_finite l ≡ true → all_finite r ≡ true → all_finite (l ++ r) ≡ true
unfolding all_finite
finite_append [] r a b = b
finite_append (x ∷ l) r a b = and-true (is_finite x) (all_finite (l ++ r)) (both_left (is_finite x) (all_finite l) a) (finite_append l r (both_right (is_finite x) (all_finite l) a) b)

finite_list : (f : ℕ → Float) (n : ℕ) → ((i : ℕ) → is_finite (f i) ≡ true) → all_finite (list_of f n) ≡ true
unfolding all_finite list_of
finite_list f zero h = refl
finite_list f (suc n) h = finite_append (list_of f n) (f n ∷ []) (finite_list f n h) (and-true (is_finite (f n)) true (h n) refl)

finite_table : (f : ℕ → ℕ → Float) (cols rows : ℕ) → ((i j : ℕ) → is_finite (f i j) ≡ true) → all_finite (table_of f cols rows) ≡ true
unfolding all_finite table_of
finite_table f cols zero h = refl
finite_table f cols (suc rows) h = finite_append (table_of f cols rows) (list_of (f rows) cols) (finite_table f cols rows h) (finite_list (f rows) cols (h rows))

pub jacobian_finite : (f : List Float → List Float) (x : List Float) (rows : ℕ) → all_finite (jacobian f x rows) ≡ true
unfolding jacobian slope
jacobian_finite f x rows = finite_table (slope f x) (length x) rows (λ i j. slope_finite _ _ _)

pub inverses_finite : (l : List Float) → all_finite (map inverse_weight l) ≡ true
unfolding all_finite
inverses_finite [] = refl
inverses_finite (w ∷ l) = and-true (is_finite (inverse_weight w)) (all_finite (map inverse_weight l)) (inverse_finite w) (inverses_finite l)

finite_entry : (l : List Float) (i : ℕ) → all_finite l ≡ true → i < length l → is_finite (get_or l i nan) ≡ true
unfolding all_finite
finite_entry [] i a h = absurd (not-suc-le-zero h)
finite_entry (x ∷ l) zero a h = both_left (is_finite x) (all_finite l) a
finite_entry (x ∷ l) (suc i) a h = finite_entry l i (both_right (is_finite x) (all_finite l) a) (le_of_suc-le-suc h)

-- the doubles of a part of memory that holds such a list
pub finite_part : (s : List Float) (o k : ℕ) → o + k ≤ length s → all_finite (part s o k) ≡ true → FiniteAt s o k
finite_part s o k l a c h = subst (λ (x : Float). is_finite x ≡ true) (part_at s o k c nan h) (finite_entry (part s o k) c a (rw (part_length s o k l) h))

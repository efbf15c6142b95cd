-- `before`, the order of `total_cmp`, is an order by levels. Each double has a place on a scale of fractions, and one stands before another where its place is lower:
-- -infinity 0, a negative number 1 + 1 / (1 + |x|), a positive one 3 + x / (1 + x), +infinity 5, NaN 6. Assumes nothing.
use Prim.Native.Nat.{ℕ, ◌+◌, ◌*◌, ◌≤◌, ◌<◌}
use mathlib.Core.Path.{◌≡◌, refl}
use mathlib.Core.Bool.{Bool, true, false, ◌&&◌, ◌||◌, and-false}
use native.Mathlib.Omega.{arith}
use native.Mathlib.Nat.{le_of_lt, not-le_of_lt, mul-le-mul_right, le_of_mul-le-mul_right, mul-pos}
use borrow.Author.Tests.{eq-eqb, ltb-true, ltb-false}
use lib.Dec.{ltb, eqb}
use lib.Ieee.{Float, nan, inf, fin, lt, eq, is_nan, up, down}
use lib.Ieee.Fits.{down_pos}
use Rattle.numbers.specs.Double.{before, negative}
use Rattle.eigen.specs.Sort.{Order}

num : Float → ℕ
num nan = 6
num (inf true) = 0
num (inf false) = 5
num (fin true m e) = m * up e + 2 * down e
num (fin false m e) = 4 * (m * up e) + 3 * down e

den : Float → ℕ
den nan = 1
den (inf s) = 1
den (fin s m e) = m * up e + down e

den_pos : (x : Float) → 0 < den x
unfolding den
den_pos nan = omega arith
den_pos (inf s) = omega arith
den_pos (fin s m e) = omega (arith, down_pos e)

-- a test that says whether a is below b
abbrev Says : Bool → ℕ → ℕ → Type 0
Says true a b = a < b
Says false a b = b ≤ a

-- numbers of one sign: a / b and c / d
negatives : (a b c d : ℕ) (e : Bool) → Says (ltb (c * b) (a * d) || (e && false)) ((a + 2 * b) * (c + d)) ((c + 2 * d) * (a + b))
negatives a b c d e = go (ltb (c * b) (a * d)) refl
  where
    go : (t : Bool) → ltb (c * b) (a * d) ≡ t → Says (t || (e && false)) ((a + 2 * b) * (c + d)) ((c + 2 * d) * (a + b))
    go true h = omega (arith, ltb-true (c * b) (a * d) h)
    go false h = rw and-false (omega (arith, ltb-false (c * b) (a * d) h))

positives : (a b c d : ℕ) (e : Bool) → Says (ltb (a * d) (c * b) || (e && false)) ((4 * a + 3 * b) * (c + d)) ((4 * c + 3 * d) * (a + b))
positives a b c d e = go (ltb (a * d) (c * b)) refl
  where
    go : (t : Bool) → ltb (a * d) (c * b) ≡ t → Says (t || (e && false)) ((4 * a + 3 * b) * (c + d)) ((4 * c + 3 * d) * (a + b))
    go true h = omega (arith, ltb-true (a * d) (c * b) h)
    go false h = rw and-false (omega (arith, ltb-false (a * d) (c * b) h))

-- a negative number stands before a positive one, also where both are zero
mixed : (x y p q : ℕ) → p < q → Says (ltb 0 (x + y) || (eqb x y && (false || eqb x 0) && true)) p q
mixed x y p q h = go (ltb 0 (x + y)) refl
  where
    go : (t : Bool) → ltb 0 (x + y) ≡ t → Says (t || (eqb x y && (false || eqb x 0) && true)) p q
    go true e = h
    go false e =
        let z : x ≡ 0 = omega (arith, ltb-false 0 (x + y) e) in
        let w : x ≡ y = omega (arith, ltb-false 0 (x + y) e) in
        rw (eq-eqb x y w, eq-eqb x 0 z) h

crossed : (a b c d : ℕ) → 0 < b * d → (a + 2 * b) * (c + d) < (4 * c + 3 * d) * (a + b)
crossed a b c d h = omega arith

lower : (x y : Float) → Says (before x y) (num x * den y) (num y * den x)
unfolding before negative is_nan lt eq num den
lower nan nan = omega arith
lower nan (inf true) = omega arith
lower nan (inf false) = omega arith
lower nan (fin true n d) = omega arith
lower nan (fin false n d) = omega arith
lower (inf true) nan = omega arith
lower (inf true) (inf true) = omega arith
lower (inf true) (inf false) = omega arith
lower (inf true) (fin true n d) = omega (arith, down_pos d)
lower (inf true) (fin false n d) = omega (arith, down_pos d)
lower (inf false) nan = omega arith
lower (inf false) (inf true) = omega arith
lower (inf false) (inf false) = omega arith
lower (inf false) (fin true n d) = omega arith
lower (inf false) (fin false n d) = omega arith
lower (fin true m e) nan = omega (arith, down_pos e)
lower (fin true m e) (inf true) = omega arith
lower (fin true m e) (inf false) = omega (arith, down_pos e)
lower (fin true m e) (fin true n d) = negatives (m * up e) (down e) (n * up d) (down d) (eq (fin true m e) (fin true n d))
lower (fin true m e) (fin false n d) =
    mixed (m * up e * down d) (n * up d * down e) _ _ (crossed (m * up e) (down e) (n * up d) (down d) (mul-pos (down_pos e) (down_pos d)))
lower (fin false m e) nan = omega (arith, down_pos e)
lower (fin false m e) (inf true) = omega arith
lower (fin false m e) (inf false) = omega (arith, down_pos e)
lower (fin false m e) (fin true n d) = rw (and-false (eq (fin false m e) (fin true n d))) (omega arith)
lower (fin false m e) (fin false n d) = positives (m * up e) (down e) (n * up d) (down d) (eq (fin false m e) (fin false n d))

below : (x y : Float) → before x y ≡ true → num x * den y < num y * den x
below x y e = rw e at (lower x y)

not_below : (x y : Float) → before x y ≡ false → num y * den x ≤ num x * den y
not_below x y e = rw e at (lower x y)

-- fractions over positive numbers
chain : (a b c d p q : ℕ) → 0 < d → c * b ≤ a * d → p * d ≤ c * q → p * b ≤ a * q
chain a b c d p q h f g = le_of_mul-le-mul_right (omega (arith, mul-le-mul_right q f, mul-le-mul_right b g)) h

is_false : (t : Bool) → (t ≡ true → ⊥) → t ≡ false
is_false true h = absurd (h refl)
is_false false h = refl

pub before_order : Order before
before_order =
    record {
      asymmetric = λ x y e. is_false (before y x) (λ t. not-le_of_lt (below x y e) (le_of_lt (below y x t)));
      carries = λ x y z e h. is_false (before x z) (λ t. not-le_of_lt (below x z t) (chain (num x) (den x) (num y) (den y) (num z) (den z) (den_pos y) (not_below x y e) (not_below y z h)));
    }

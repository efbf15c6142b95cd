-- Rounding moves a fraction by at most half a unit of the last place that its size allows (`round_moves`): the rounded quotient is within a half of the quotient,
-- and the places that are dropped are those by which the size exceeds the format's precision. Assumes nothing.
use mathlib.Core.Path.{◌≡◌, sym, ap, subst}
use Prim.Native.Nat.{ℕ, suc, ◌+◌, ◌-◌, ◌*◌, ◌/◌, ◌%◌, ◌^◌, ◌≤◌, ◌<◌, compare, Ordering}
use native.Mathlib.Nat.{le_trans, le_of_eq, lt_of_lt_of_le, lt_of_mul-lt-mul_right, mul-le-mul_left, mul-le-mul_right, mul-pos, div-add-mod', div-lt_iff_lt-mul, mod-lt, two-pow-succ}
use native.Mathlib.Omega.{arith}
use mathlib.Core.Bool.{Bool, not}
use lib.Dec.{T, is_le, compare_is_eq, eqb, leb→le, nleb→lt, eqb→eq, eqb_refl}
use lib.Arith.{lt_of_le-ne}
use lib.Pow.{pow_pos, pow_mono}
use lib.Ieee.{Float, Format, prec, emax, low, size, nearest, round}
use lib.Ieee.Digits.{size-le}
use lib.Ieee.Fits.{round_is}
use lib.Ieee.Exact.{HasValue, units_val}
use lib.Ieee.Nearest.{closest}
use lib.Ieee.Order.{drop}

-- what `compare` says
abbrev Cmp : Ordering → ℕ → ℕ → Type 0
Cmp Ordering.lt a b = a < b
Cmp Ordering.eq a b = a ≡ b
Cmp Ordering.gt a b = b < a

cmp : (a b : ℕ) → Cmp (compare a b) a b
cmp a b = go (compare a b) (leb→le a b) (nleb→lt a b) (eqb→eq a b) (λ (e : a ≡ b). subst (λ (x : ℕ). T (eqb a x)) e (eqb_refl a))
  where
    go : (o : Ordering) → (T (is_le o) → a ≤ b) → (T (not (is_le o)) → b < a) → (T (compare_is_eq o) → a ≡ b) → (a ≡ b → T (compare_is_eq o)) → Cmp o a b
    go Ordering.lt h k e n = lt_of_le-ne (h tt) n
    go Ordering.eq h k e n = e tt
    go Ordering.gt h k e n = k tt

-- g is n / u but for a half
abbrev Half : ℕ → ℕ → ℕ → Type 0
Half g u n = (g * u * 2 ≤ n * 2 + u) × (n * 2 ≤ g * u * 2 + u)

half_of : (o : Ordering) (q u r n : ℕ) → q * u + r ≡ n → r < u → Cmp o (r * 2) u → Half (nearest q o) u n
half_of Ordering.lt q u r n e l c = omega arith
half_of Ordering.eq q u r n e l c = tie (q % 2) (omega arith)
  where
    tie : (t : ℕ) → t ≤ 1 → Half (q + t) u n
    tie t h = omega (arith, mul-le-mul_right u h)
half_of Ordering.gt q u r n e l c = omega arith

closest_half : (n u : ℕ) → 0 < u → Half (closest n u) u n
closest_half n u U = half_of (compare (n % u * 2) u) (n / u) u (n % u) n (div-add-mod' n u) (mod-lt n U) (cmp (n % u * 2) u)

-- d * 2 ^ k ≤ d * 2 ^ j * 2
unit_le : (d k j : ℕ) → k ≤ suc j → d * 2 ^ k ≤ d * 2 ^ j * 2
unit_le d k j h = omega (arith, mul-le-mul_left d (pow_mono h), ap (λ (x : ℕ). d * x) (two-pow-succ j))

from_half : (g k d n j : ℕ) → k ≤ suc j → Half g (d * 2 ^ k) n → (g * 2 ^ k * d ≤ n + d * 2 ^ j) × (n ≤ g * 2 ^ k * d + d * 2 ^ j)
from_half g k d n j h p = omega (arith, unit_le d k j h)

spare : (z p j : ℕ) → z ≤ suc (p + j) → z - p ≤ suc j
spare z p j h = omega arith

under : (g d n a b : ℕ) → g * d ≤ n + d * b → n < a * d → b ≤ a → g * d < a * 2 * d
under g d n a b h l m = omega (arith, mul-le-mul_right d m)

-- a fraction below 2 ^ (prec + 1 + j) units of the format's smallest value, and below overflow, moves by at most 2 ^ j units
pub round_moves : (f : Format) (s : Bool) (num den j : ℕ) → 0 < den → num * 2 ^ low f < 2 ^ suc (prec f + j) * den
    → suc (suc (prec f + j)) ≤ low f + suc (emax f)
    → (g : ℕ) × HasValue (round f s num den) s g (2 ^ low f) × (g * den ≤ num * 2 ^ low f + den * 2 ^ j) × (num * 2 ^ low f ≤ g * den + den * 2 ^ j)
round_moves f s num den j D below fine =
    let n = num * 2 ^ low f in
    let k = drop (prec f) n den in
    let K : k ≤ suc j = spare (size (n / den)) (prec f) j (size-le (n / den) (suc (prec f + j)) ((div-lt_iff_lt-mul D).1 below)) in
    let q = closest n (den * 2 ^ k) in
    let H = from_half q k den n j K (closest_half n (den * 2 ^ k) (mul-pos D (pow_pos k))) in
    let J : 2 ^ j ≤ 2 ^ suc (prec f + j) = pow_mono (omega arith) in
    let O : q * 2 ^ k < 2 ^ (low f + suc (emax f)) =
    lt_of_lt_of_le (lt_of_mul-lt-mul_right den (under (q * 2 ^ k) den n (2 ^ suc (prec f + j)) (2 ^ j) H.0 below J))
    (le_trans (le_of_eq (omega (arith, two-pow-succ (suc (prec f + j))))) (pow_mono fine)) in
    (q * 2 ^ k, subst (λ (x : Float). HasValue x s (q * 2 ^ k) (2 ^ low f)) (sym (round_is f s num den)) (units_val f s q k O), H.0, H.1)

-- How far each polynomial, worked on doubles, lies from the same polynomial worked exactly, on fractions: same coefficients, same argument. At most 2 ^ -52, at every argument that
-- sine, cosine and arctangent put into it: for t without the sign bit by Range.antt, and for t = -0, which is not below 0, by evaluation. The law for any length is `horner_const` of numbers; what the kernel computes here is its bound for the three lists. Assumes nothing.
use Prim.Native.Nat.{ℕ, ◌*◌, ◌^◌, ◌≤◌}
use mathlib.Core.Path.{◌≡◌, refl}
use mathlib.Core.Bool.{Bool, true, false, ◌&&◌}
use mathlib.Core.List.{List, map}
use lib.Dec.{T, leb, leb→le}
use lib.IntN.{ℤ, negsuc}
use native.Mathlib.Omega.{arith}
use lib.Ieee.{Float, nan, inf, fin, rem, of_int, sub, mul, neg, lt, le, up, down, of_bits}
use lib.Ieee.Fits.{and_l, and_r, down_pos}
use lib.Ieee.Order.{le_of_values}
use Rattle.numbers.specs.Double.{zero64, abs, is_finite, negative}
use Rattle.numbers.specs.Horner.{horner}
use Rattle.numbers.proofs.HornerNear.{horner_const}
use Rattle.numbers.specs.Near.{S, exactly, add_bound, mul_bound}
use Rattle.numbers.specs.Bound.{bounds, const_bound}
use Rattle.numbers.proofs.BoundLaws.{small_of_le}
use Rattle.numbers.proofs.DiffersLaws.{near_differs}
use Rattle.arcs.specs.Arcs.{reduced, from_turn, ratio}
use Rattle.arcs.specs.Figures.{Within52, square_of, SeriesNear}
use Rattle.arcs.proofs.Magnitudes.{AtMostOf}
use Rattle.arcs.proofs.Range.{turn_square, ratio_small}
use Rattle.arcs.specs.Coefs.{sine_coefs, cosine_coefs, arctangent_coefs}

-- the bound at an argument of at most m / S, computed
unfoldable pub within52 : List Float → ℕ → Bool
unfolding horner S add_bound mul_bound const_bound
within52 cs m = let b = horner bounds (map const_bound cs) (exactly m) in b.ok && leb (b.off * 2 ^ 52) S

at_most_le : (n : ℕ) (d : ℤ) (z : Float) → AtMostOf (n * up d) (down d) z → T (le (abs z) (fin false n d))
unfolding abs
at_most_le n d nan h = absurd h
at_most_le n d (inf s) h = absurd h
at_most_le n d (fin s m e) h = le_of_values (fin false m e) (fin false n d) (m * up e) (down e) (n * up d) (down d) (down_pos e) (down_pos d) (refl, refl) (refl, refl) h

pub figure : (cs : List Float) (n : ℕ) (d : ℤ) (m : ℕ) → T (leb (n * up d * S) (m * down d)) → T (within52 cs m) → (z : Float) → AtMostOf (n * up d) (down d) z → Within52 cs z
unfolding within52
figure cs n d m l t z h =
    let b = horner bounds (map const_bound cs) (exactly m) in
    near_differs (2 ^ 52) _ _ b (leb→le _ _ (and_r b.ok _ t)) (horner_const cs z m (small_of_le z n d m (at_most_le n d z h) (leb→le _ _ l)) (and_l b.ok _ t))

-- ---- at the arguments in use

pub sine_near : (t : Float) → is_finite t ≡ true → negative t ≡ false → Within52 sine_coefs (square_of t)
unfolding within52 S of_bits
sine_near t f s = figure sine_coefs 5 (negsuc 2) (5 * 2 ^ 77) tt tt (square_of t) (turn_square t f s)

pub cosine_near : (t : Float) → is_finite t ≡ true → negative t ≡ false → Within52 cosine_coefs (square_of t)
unfolding within52 S of_bits
cosine_near t f s = figure cosine_coefs 5 (negsuc 2) (5 * 2 ^ 77) tt tt (square_of t) (turn_square t f s)

-- t = -0
pub minus_zero_square : square_of (neg zero64) ≡ zero64
unfolding of_bits reduced from_turn mul sub rem of_int lt
minus_zero_square = refl

pub sine_near_minus_zero : Within52 sine_coefs (square_of (neg zero64))
unfolding within52 S of_bits
sine_near_minus_zero = figure sine_coefs 5 (negsuc 2) (5 * 2 ^ 77) tt tt (square_of (neg zero64)) (rw minus_zero_square (omega arith))

pub cosine_near_minus_zero : Within52 cosine_coefs (square_of (neg zero64))
unfolding within52 S of_bits
cosine_near_minus_zero = figure cosine_coefs 5 (negsuc 2) (5 * 2 ^ 77) tt tt (square_of (neg zero64)) (rw minus_zero_square (omega arith))

pub arctangent_near : (m n : ℕ) (e d : ℤ) → m * up e * down d ≤ n * up d * down e → SeriesNear (ratio (fin false m e) (fin false n d))
unfolding within52 S of_bits
arctangent_near m n e d l =
    let h = ratio_small m n e d l in
    record {
      up_to = λ t. figure arctangent_coefs 3 (negsuc 3) (3 * 2 ^ 76) tt tt _ (h.up_to t);
      beyond = λ t. figure arctangent_coefs 3 (negsuc 3) (3 * 2 ^ 76) tt tt _ (h.beyond t);
    }

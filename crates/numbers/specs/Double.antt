-- The methods of Rust's f64 that the port uses and the language lacks. Document 01, "The train of files", last paragraph. Definitions only.
use Rattle.std.specs.Prelude.{ℕ, Bool, true, false, not, ◌&&◌, ◌||◌, cond, pos, Float}
use Rattle.std.specs.Float.{nan, inf, fin, binary64}
use Rattle.std.specs.Float.Ieee.{add, rem, lt, eq, of_int, of_bits, is_nan}

-- 0.0 and 1.0
abbrev pub zero64 : Float
zero64 = of_bits binary64 0

abbrev pub one64 : Float
one64 = of_bits binary64 0x3FF0_0000_0000_0000

-- a whole number as a double, as the Rust's `as f64` makes it: rounded once
unfoldable pub of_whole : ℕ → Float
of_whole n = of_int binary64 (pos n)

-- the sign bit; the one NaN of the definitions counts as positive
unfoldable pub negative : Float → Bool
negative nan = false
negative (inf s) = s
negative (fin s m e) = s

unfoldable pub is_finite : Float → Bool
is_finite nan = false
is_finite (inf s) = false
is_finite (fin s m e) = true

unfoldable pub abs : Float → Float
abs nan = nan
abs (inf s) = inf false
abs (fin s m e) = fin false m e

-- of a NaN and a number the number; of two zeros, whatever their signs, +0
unfoldable pub fmax : Float → Float → Float
fmax x y = cond (is_nan x) y (cond (is_nan y) x (cond (eq x zero64 && eq y zero64) zero64 (cond (lt x y) y x)))

-- into [-1, 1]; a NaN stays
unfoldable pub clamp : Float → Float
clamp x = cond (lt x (of_bits binary64 0xBFF0_0000_0000_0000)) (of_bits binary64 0xBFF0_0000_0000_0000) (cond (lt one64 x) one64 x)

-- 1 with the sign of x, of a zero too
unfoldable pub signum : Float → Float
unfolding negative
signum x = cond (is_nan x) nan (cond (negative x) (of_bits binary64 0xBFF0_0000_0000_0000) one64)

-- a stands before b in the order of `total_cmp`: -0 before +0, and a NaN last
unfoldable pub before : Float → Float → Bool
unfolding negative
before a b = not (is_nan a) && (is_nan b || (lt a b || (eq a b && (negative a && not (negative b)))))

-- for a positive b: % and, if negative, one addition
unfoldable pub rem_euclid : Float → Float → Float
rem_euclid a b = let r = rem binary64 a b in cond (lt r zero64) (add binary64 r b) r

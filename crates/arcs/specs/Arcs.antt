-- Sine and cosine of t ≥ 0 and the arctangent of (y, x), operation by operation, each rounded once. Document 01, "The train of files", item 1, whose letters
-- T, P, H, E, a, q, b, z, s, c, u, v these are, and for t over 64 and up to 2 ^ 20 document 02, 3/14, whose letters T1, T2, k these are. The root stands in Root.antt.
-- Definitions only.
use Rattle.std.specs.Prelude.{ℕ, zero, suc, ◌+◌, ◌*◌, ◌/◌, Bool, not, ◌&&◌, cond, pos, Float}
use Rattle.std.specs.Float.{nan, binary64}
use Rattle.std.specs.Float.Ieee.{add, sub, mul, div, rem, neg, lt, le, eq, of_int, of_bits}
use Rattle.std.specs.Float.Ieee.Positive.{num, den}
use Rattle.numbers.specs.Double.{zero64, one64, negative, is_finite, abs}
use Rattle.numbers.specs.Ops.{doubles}
use Rattle.numbers.specs.Horner.{horner}
use Rattle.arcs.specs.Coefs.{sine_coefs, cosine_coefs, arctangent_coefs}
use Rattle.arcs.specs.declared.arc.SineCosine.{SineCosine}

-- T, P, H, E: 2π, π, π/2, π/4
abbrev pub tau : Float
tau = of_bits binary64 0x4019_21FB_5444_2D18

abbrev pub pi : Float
pi = of_bits binary64 0x4009_21FB_5444_2D18

abbrev pub half_pi : Float
half_pi = of_bits binary64 0x3FF9_21FB_5444_2D18

abbrev pub quarter_pi : Float
quarter_pi = of_bits binary64 0x3FE9_21FB_5444_2D18

-- 3E, 5E, 7E
abbrev pub three : Float
three = mul binary64 (of_bits binary64 0x4008_0000_0000_0000) quarter_pi

abbrev pub five : Float
five = mul binary64 (of_bits binary64 0x4014_0000_0000_0000) quarter_pi

abbrev pub seven : Float
seven = mul binary64 (of_bits binary64 0x401C_0000_0000_0000) quarter_pi

-- T1 and T2: 2π cut to its first 33 binary digits, and the double nearest the rest
abbrev pub tau1 : Float
tau1 = of_bits binary64 0x4019_21FB_5440_0000

abbrev pub tau2 : Float
tau2 = of_bits binary64 0x3DF0_B461_1A62_6331

-- the double nearest √2 - 1
abbrev pub root_two_less : Float
root_two_less = of_bits binary64 0x3FDA_8279_99FC_EF32

-- T1 + T2, exactly: the fraction turn_num / turn_den
abbrev pub turn_num : ℕ
turn_num = num tau1 * den tau2 + num tau2 * den tau1

abbrev pub turn_den : ℕ
turn_den = den tau1 * den tau2

-- k: how many times T1 + T2 goes into t, in fractions. `Greatest` of Turns.antt says it as document 02 does.
unfoldable pub turns : Float → ℕ
turns t = num t * turn_den / (turn_num * den t)

-- over 64 and up to 2 ^ 20
unfoldable pub far : Float → Bool
far t = lt (of_bits binary64 0x4050_0000_0000_0000) t && le t (of_bits binary64 0x4130_0000_0000_0000)

-- t less k turns
unfoldable pub less_turns : Float → ℕ → Float
less_turns t k =
    let n = of_int binary64 (pos k) in
    sub binary64 (sub binary64 t (mul binary64 n tau1)) (mul binary64 n tau2)

-- a
unfoldable pub reduced : Float → Float
unfolding less_turns turns far
reduced t = cond (far t) (less_turns t (turns t)) (rem binary64 t tau)

-- 1 where the edge lies below a, else 0
unfoldable pub passed : Float → Float → ℕ
passed edge a = cond (lt edge a) 1 0

-- q: how many of E, 3E, 5E, 7E lie below a
unfoldable pub quarters : Float → ℕ
unfolding passed
quarters a = passed quarter_pi a + passed three a + passed five a + passed seven a

abbrev pub both : Float → Float → SineCosine
both s c = record { sine = s; cosine = c }

-- the pair by q
unfoldable pub turned : ℕ → Float → Float → SineCosine
turned zero s c = both s c
turned (suc zero) s c = both c (neg s)
turned (suc (suc zero)) s c = both (neg s) (neg c)
turned (suc (suc (suc zero))) s c = both (neg c) s
turned (suc (suc (suc (suc q)))) s c = both s c

-- b
unfoldable pub from_turn : Float → Float
unfolding quarters
from_turn a = sub binary64 a (mul binary64 (of_int binary64 (pos (quarters a))) half_pi)

-- the pair of a finite t ≥ 0
unfoldable pub sine_cosine_of : Float → SineCosine
unfolding from_turn reduced
sine_cosine_of t =
    let a = reduced t in
    let b = from_turn a in
    let z = mul binary64 b b in
    turned (quarters a) (mul binary64 b (horner doubles sine_coefs z)) (horner doubles cosine_coefs z)

unfoldable pub sine_cosine : Float → SineCosine
sine_cosine t = cond (is_finite t && not (lt t zero64)) (sine_cosine_of t) (both nan nan)

abbrev pub sine : Float → Float
sine t = (sine_cosine t).sine

abbrev pub cosine : Float → Float
cosine t = (sine_cosine t).cosine

-- the series of v, through (v * v)^19
unfoldable pub series : Float → Float
series v = mul binary64 v (horner doubles arctangent_coefs (mul binary64 v v))

-- the arctangent of a ratio u from 0 to 1
unfoldable pub of_ratio : Float → Float
unfolding series
of_ratio u =
    cond (lt root_two_less u) (add binary64 quarter_pi (series (div binary64 (sub binary64 u one64) (add binary64 u one64)))) (series u)

-- u: the smaller magnitude over the larger, 0 if both are 0
unfoldable pub ratio : Float → Float → Float
ratio small large = cond (eq large zero64) zero64 (div binary64 small large)

-- of two magnitudes, y's and x's
unfoldable pub of_magnitudes : Float → Float → Float
unfolding of_ratio ratio
of_magnitudes y x = cond (lt x y) (sub binary64 half_pi (of_ratio (ratio x y))) (of_ratio (ratio y x))

-- of two finite doubles
unfoldable pub arctangent_of : Float → Float → Float
unfolding of_magnitudes
arctangent_of y x =
    let w = of_magnitudes (abs y) (abs x) in
    let p = cond (negative x) (sub binary64 pi w) w in
    cond (negative y) (neg p) p

unfoldable pub arctangent : Float → Float → Float
unfolding arctangent_of
arctangent y x = cond (is_finite y && is_finite x) (arctangent_of y x) nan

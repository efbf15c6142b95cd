-- What it says that a polynomial, worked on doubles, lies within 2 ^ -52 of the same polynomial worked exactly, on fractions: same coefficients, same argument. With the arguments
-- that sine, cosine and arctangent put into it. Document 01, "Language forms and where they go", "with stated distance to exact fractions". proofs/FigureLaws.antt has the proofs,
-- `sine_near`, `cosine_near`, `arctangent_near`. Definitions and statements.
use Rattle.std.specs.Prelude.{◌^◌, ◌≡◌, true, false, List, map, Float}
use Rattle.std.specs.Float.{binary64}
use Rattle.std.specs.Float.Ieee.{add, sub, mul, div, lt}
use Rattle.numbers.specs.Frac.{frac_of}
use Rattle.numbers.specs.Double.{one64}
use Rattle.numbers.specs.Ops.{doubles, fractions}
use Rattle.numbers.specs.Horner.{horner}
use Rattle.numbers.specs.Differs.{DiffersByAtMost}
use Rattle.arcs.specs.Coefs.{arctangent_coefs}
use Rattle.arcs.specs.Arcs.{root_two_less, reduced, from_turn}

-- the polynomial on doubles lies within 2 ^ -52 of the polynomial on fractions
abbrev pub Within52 : List Float → Float → Type 0
Within52 cs z = DiffersByAtMost (2 ^ 52) (horner doubles cs z) (horner fractions (map frac_of cs) (frac_of z))

-- z of a finite t without the sign bit
abbrev pub square_of : Float → Float
square_of t = let b = from_turn (reduced t) in mul binary64 b b

-- the arctangent's v: u itself up to √2 - 1, and (u - 1) / (u + 1) above
abbrev pub folded : Float → Float
folded u = div binary64 (sub binary64 u one64) (add binary64 u one64)

-- v * v of the ratio of two magnitudes, the smaller over the larger
pub record SeriesNear (u : Float) : Type 0 where
  pub up_to : lt root_two_less u ≡ false → Within52 arctangent_coefs (mul binary64 u u)
  pub beyond : lt root_two_less u ≡ true → Within52 arctangent_coefs (mul binary64 (folded u) (folded u))

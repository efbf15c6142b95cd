-- The 29 doubles that `dof` fills for a body: how many slides and turns, three slides, three turns (axis, point), what is unused +0. Document 01, "The sheet". Definitions
-- only.
use Rattle.std.specs.Prelude.{ℕ, zero, suc, ◌-◌, List, [], ◌∷◌, ◌++◌, length, replicate, Float}
use Rattle.std.specs.Float.{binary64}
use Rattle.std.specs.Float.Ieee.{of_bits}
use Rattle.numbers.specs.Double.{zero64, one64}
use Rattle.vectors.specs.Vec.{Vec}
use Rattle.scene.specs.Scene.{vec_doubles}
use Rattle.body_freedom.specs.Dof.{Turn, Freedom}

-- a count as a double; there are at most three of either kind
unfoldable pub count_double : ℕ → Float
count_double zero = zero64
count_double (suc zero) = one64
count_double (suc (suc zero)) = of_bits binary64 0x4000_0000_0000_0000
count_double (suc (suc (suc n))) = of_bits binary64 0x4008_0000_0000_0000

unfoldable pub slides_doubles : List (Vec Float) → List Float
slides_doubles [] = []
slides_doubles (v ∷ slides) = vec_doubles v ++ slides_doubles slides

unfoldable pub turns_doubles : List Turn → List Float
turns_doubles [] = []
turns_doubles (t ∷ turns) = vec_doubles t.axis ++ (vec_doubles t.point ++ turns_doubles turns)

-- with +0 behind, up to k doubles
abbrev pub padded : ℕ → List Float → List Float
padded k l = l ++ replicate (k - length l) zero64

abbrev pub freedom_doubles : Freedom → List Float
freedom_doubles f =
    count_double (length f.slides) ∷ count_double (length f.turns) ∷ padded 9 (slides_doubles f.slides) ++ padded 18 (turns_doubles f.turns)

unfoldable pub freedoms_doubles : List Freedom → List Float
freedoms_doubles [] = []
freedoms_doubles (f ∷ freedoms) = freedom_doubles f ++ freedoms_doubles freedoms

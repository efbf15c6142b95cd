-- `span_basis` of math.rs. Document 01, "The train of files", item 3. Definitions only.
use Rattle.std.specs.Prelude.{Bool, ◌&&◌, cond, List, [], ◌∷◌, ◌++◌, length, ltb, Float}
use Rattle.std.specs.Float.{binary64}
use Rattle.std.specs.Float.Ieee.{mul, lt, le}
use Rattle.numbers.specs.Ops.{doubles}
use Rattle.numbers.specs.Double.{zero64, fmax, before}
use Rattle.vectors.specs.Vec.{Vec, sub_v, scale_v, dot, len, normalized}
use Rattle.eigen.specs.Sort.{sort}

unfoldable pub longest : List (Vec Float) → Float → Float
longest [] m = m
longest (v ∷ vs) m = longest vs (fmax m (len v))

-- u with its part along each of bs taken off in turn
unfoldable pub without : Vec Float → List (Vec Float) → Vec Float
without u [] = u
without u (b ∷ bs) = without (sub_v doubles u (scale_v doubles b (dot doubles u b))) bs

abbrev pub longer : Vec Float → Vec Float → Bool
longer a b = before (len b) (len a)

-- a vector whose rest is longer than `least` joins the basis, up to three
unfoldable pub join : Float → List (Vec Float) → Vec Float → List (Vec Float)
unfolding without
join least out v = let u = without v out in cond (lt least (len u) && ltb (length out) 3) (out ++ (normalized u ∷ [])) out

unfoldable pub joined : Float → List (Vec Float) → List (Vec Float) → List (Vec Float)
unfolding join
joined least out [] = out
joined least out (v ∷ vs) = joined least (join least out v) vs

-- an orthonormal basis of the span, longest first; `rel` is the part of the longest that still counts
unfoldable pub span_basis : List (Vec Float) → Float → List (Vec Float)
unfolding longest joined
span_basis vs rel =
    let most = longest vs zero64 in
    cond (le most zero64) [] (joined (mul binary64 rel most) [] (sort longer vs))

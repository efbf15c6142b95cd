-- What `span_basis` takes and returns: vectors in an array of six, and a basis of at most three, with the unused ones zero. Definitions only.
use Rattle.std.specs.Prelude.{ℕ, ◌-◌, Bool, List, ◌++◌, map, length, take, replicate, Float}
use Rattle.std.specs.Float.{nan}
use Rattle.numbers.specs.Double.{before}
use Rattle.vectors.specs.declared.vec.Vec3.{Vec3}
use Rattle.spans.specs.declared.span.Basis.{Basis}
use Rattle.vectors.specs.Vec.{Vec, vec, zero_v, len}

-- the first k vectors
abbrev pub first : ℕ → List Vec3 → List (Vec Float)
first k vs = map vec (take k vs)

abbrev pub vec3 : Vec Float → Vec3
vec3 v = record { x = v.x; y = v.y; z = v.z }

-- the vectors of a basis
abbrev pub basis : Basis → List (Vec Float)
basis b = first b.count b.vectors

-- the basis of some vectors, at most three
abbrev pub basis_of : List (Vec Float) → Basis
basis_of l = record { count = length l; vectors = map vec3 l ++ replicate (3 - length l) (vec3 zero_v) }

abbrev pub longer3 : Vec3 → Vec3 → Bool
longer3 a b = before (len (vec b)) (len (vec a))

-- what stands past the end of an array; never read
abbrev pub past3 : Vec3
past3 = record { x = nan; y = nan; z = nan }

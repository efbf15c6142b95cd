-- `body_dof` of solve.rs from its six-by-six matrix on, and the arrays that the code holds its lists in: the first so many entries count, unused ones are zero.
-- Document 01, "The train of files", item 6. Definitions only.
use Rattle.std.specs.Prelude.{ℕ, ◌-◌, Bool, ◌&&◌, List, [], ◌∷◌, ◌++◌, map, length, take, get_or, replicate, Float}
use Rattle.std.specs.Float.{binary64}
use Rattle.std.specs.Float.Ieee.{lt, of_bits}
use Rattle.vectors.specs.declared.vec.Vec3.{Vec3}
use Rattle.spans.specs.declared.eigen6.Eigen6.{Eigen6}
use Rattle.vectors.specs.Vec.{Vec, vec, zero_v, len}
use Rattle.eigen.specs.Eigen.{Eigen, sym_eigen}
use Rattle.spans.specs.Span.{span_basis}
use Rattle.spans.specs.Basis.{vec3, basis_of, past3}
use Rattle.scene.specs.Scene.{vec_doubles}
use Rattle.body_freedom.specs.Dof.{Turn, Freedom, top, free_of, slide_part, turn_part, turn_about, apart, fill_slides, corner, SPAN}
use Rattle.body_freedom.specs.Layout.{count_double}
use Rattle.body_freedom.specs.declared.body.Freedom.{Freedom as FreedomStruct}

-- `body_dof` from the square of the slopes on
unfoldable pub from_square : List Float → Vec Float → Float → Freedom
from_square a center l =
    let pairs = sym_eigen 6 a in
    let most = top pairs in
    let free = free_of most pairs in
    let axes = span_basis (map turn_part free) SPAN in
    let slides = span_basis (map slide_part (free_of most (sym_eigen 3 (corner a)))) SPAN in
    record { slides = fill_slides free (length axes) 3 slides; turns = map (turn_about center l free) axes }

-- ---- motions

abbrev pub eigen_of : Eigen6 → Eigen
eigen_of e = record { value = e.value; vector = e.vector }

-- the first n pairs of an array
abbrev pub eigens_of : ℕ → List Eigen6 → List Eigen
eigens_of n e = map eigen_of (take n e)

abbrev pub motion_of : Eigen6 → List Float
motion_of e = e.vector

-- the point of the turn about an axis
abbrev pub point_about : Vec Float → Float → List (List Float) → Vec Float → Vec Float
point_about center l free axis = (turn_about center l free axis).point

-- a slide of its own beside others: apart from them, and longer than 1e-9
abbrev pub is_extra : List (Vec Float) → Vec Float → Bool
is_extra slides v = apart v slides && lt (of_bits binary64 0x3E11_2E0B_E826_D695) (len v)

-- ---- freedoms

abbrev pub axis_of : Turn → Vec Float
axis_of t = t.axis

abbrev pub point_of : Turn → Vec Float
point_of t = t.point

-- at most three vectors in an array
abbrev pub three_of : List (Vec Float) → List Vec3
three_of l = map vec3 l ++ replicate (3 - length l) (vec3 zero_v)

-- slides and turns, at most three of each, with what is unused zero
abbrev pub freedom_struct : Freedom → FreedomStruct
freedom_struct f = record { slides = basis_of f.slides; axes = basis_of (map axis_of f.turns); points = three_of (map point_of f.turns) }

-- ---- doubles

-- the doubles of the vector at i
abbrev pub vec_at : List Vec3 → ℕ → List Float
vec_at vs i = vec_doubles (vec (get_or vs i past3))

abbrev pub three_doubles : List Vec3 → List Float
three_doubles vs = vec_at vs 0 ++ (vec_at vs 1 ++ vec_at vs 2)

-- axis and point in turn
abbrev pub turn_doubles : List Vec3 → List Vec3 → List Float
turn_doubles axes points = (vec_at axes 0 ++ vec_at points 0) ++ ((vec_at axes 1 ++ vec_at points 1) ++ (vec_at axes 2 ++ vec_at points 2))

-- counts, slides and turns as the arrays hold them; of at most three slides and turns these are the 29 doubles of the layout
abbrev pub struct_doubles : FreedomStruct → List Float
struct_doubles f =
    (count_double f.slides.count ∷ count_double f.axes.count ∷ []) ++ (three_doubles f.slides.vectors ++ turn_doubles f.axes.vectors f.points)

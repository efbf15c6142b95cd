-- `dof` of solve.rs: what freedom each body has with the others held still, and the whole assembly. Document 01, "The train of files", item 6, and "The sheet" for the
-- 29 doubles of a body. Definitions only.
use Rattle.std.specs.Prelude.{ℕ, zero, suc, ◌+◌, ◌-◌, ◌*◌, min, Bool, true, false, not, ◌&&◌, ◌||◌, cond, List, [], ◌∷◌, ◌++◌, map, length, get_or, set, eqb, ltb, Float}
use Rattle.std.proofs.Math.Option.{Option, none, some}
use Rattle.std.specs.Float.{nan, binary64}
use Rattle.std.specs.Float.Ieee.{mul, div, neg, lt, le, of_bits}
use Rattle.numbers.specs.Ops.{doubles}
use Rattle.numbers.specs.Sum.{sum_from}
use Rattle.numbers.specs.Double.{zero64, one64, abs, fmax, before}
use Rattle.arcs.specs.Root.{root}
use Rattle.vectors.specs.Tol.{DOF_REL}
use Rattle.vectors.specs.Vec.{Vec, add_v, scale_v, dot, cross, len, normalized}
use Rattle.eigen.specs.Eigen.{Eigen, sym_eigen}
use Rattle.spans.specs.Span.{span_basis}
use Rattle.relations.specs.Geometry.{Pose}
use Rattle.relations.specs.Model.{Body, Rel, pose_of_frame}
use Rattle.least_squares.specs.Lm.{list_of, table_of, jacobian}
use Rattle.scene.specs.Solve.{Scene, names, moves, layout, unknowns, three, moved_pose, poses_at, all_rows, half_size}

-- a turn about a line: its direction and a point of it
pub record Turn : Type 0 where
  pub axis : Vec Float
  pub point : Vec Float

-- the directions a body may slide in, and the lines it may turn about
pub record Freedom : Type 0 where
  pub slides : List (Vec Float)
  pub turns : List Turn

-- ---- eigenvalues of JᵀJ

-- column i times column j of the slopes, summed from -0
unfoldable pub columns_times : List Float → ℕ → ℕ → ℕ → ℕ → Float
columns_times jac rows cols i j = sum_from doubles (neg zero64) (λ r. mul binary64 (get_or jac (r * cols + i) nan) (get_or jac (r * cols + j) nan)) rows

abbrev pub square_of : List Float → ℕ → ℕ → List Float
square_of jac rows cols = table_of (columns_times jac rows cols) cols cols

-- the root of the largest eigenvalue, from 0 up
unfoldable pub largest_value : Float → List Eigen → Float
largest_value m [] = m
largest_value m (e ∷ l) = largest_value (fmax m e.value) l

abbrev pub top : List Eigen → Float
top l = root (largest_value zero64 l)

-- a motion is free where it is resisted by at most DOF_REL of the stiffest
unfoldable pub is_free : Float → Float → Bool
is_free most v = le most zero64 || le (root (fmax v zero64)) (mul binary64 DOF_REL most)

unfoldable pub free_of : Float → List Eigen → List (List Float)
free_of most [] = []
free_of most (e ∷ l) = cond (is_free most e.value) (e.vector ∷ free_of most l) (free_of most l)

-- ---- one body

-- the sliding and the turning part of a motion
abbrev pub slide_part : List Float → Vec Float
slide_part e = three e 0

abbrev pub turn_part : List Float → Vec Float
turn_part e = three e 3

-- how much a motion turns about the axis
abbrev pub about_axis : Vec Float → List Float → Float
about_axis axis e = abs (dot doubles (turn_part e) axis)

-- the motion that turns most about the axis, the last of equals
unfoldable pub most_about : Vec Float → List Float → List (List Float) → List Float
most_about axis best [] = best
most_about axis best (e ∷ l) = most_about axis (cond (before (about_axis axis e) (about_axis axis best)) best e) l

-- the point of the line that a motion turns about; the centre where it does not turn
unfoldable pub turn_point : Vec Float → Float → List Float → Vec Float
turn_point center l e =
    let w = scale_v doubles (turn_part e) (div binary64 one64 l) in
    let w2 = dot doubles w w in
    cond (lt zero64 w2) (add_v doubles center (scale_v doubles (cross doubles w (slide_part e)) (div binary64 one64 w2))) center

unfoldable pub turn_about : Vec Float → Float → List (List Float) → Vec Float → Turn
turn_about center l [] axis = record { axis = axis; point = center }
turn_about center l (e ∷ free) axis = record { axis = axis; point = turn_point center l (most_about axis e free) }

-- the sliding part is no direction of the list: below 0.99 along each
unfoldable pub apart : Vec Float → List (Vec Float) → Bool
apart v [] = true
apart v (u ∷ us) = lt (abs (dot doubles (normalized v) u)) (of_bits binary64 0x3FEF_AE14_7AE1_47AE) && apart v us

-- the first motion whose sliding part is apart from `slides` and longer than 1e-9
unfoldable pub extra_slide : List (Vec Float) → List (List Float) → Option (Vec Float)
extra_slide slides [] = none
extra_slide slides (e ∷ l) =
    cond (apart (slide_part e) slides && lt (of_bits binary64 0x3E11_2E0B_E826_D695) (len (slide_part e))) (some (slide_part e)) (extra_slide slides l)

unfoldable pub join_slide : List (Vec Float) → Option (Vec Float) → List (Vec Float)
join_slide slides none = slides
join_slide slides (some v) = slides ++ (normalized v ∷ [])

-- Motions that neither slide purely nor turn count as sliding: at most k more, up to three slides.
unfoldable pub fill_slides : List (List Float) → ℕ → ℕ → List (Vec Float) → List (Vec Float)
fill_slides free turns zero slides = slides
fill_slides free turns (suc k) slides =
    elim (ltb (length slides + turns) (length free) && ltb (length slides) 3) [
      | true ↦ fill_slides free turns k (join_slide slides (extra_slide slides free))
      | false ↦ slides
    ]

-- 1e-6: the part of the longest that still counts in a span
abbrev pub SPAN : Float
SPAN = of_bits binary64 0x3EB0_C6F7_A0B5_ED8D

-- the upper left three by three
abbrev pub corner : List Float → List Float
corner a = table_of (λ i j. get_or a (i * 6 + j) nan) 3 3

-- `body_dof`, from the slopes along its six unknowns, the turning ones scaled by l
unfoldable pub body_dof : List Float → ℕ → Vec Float → Float → Freedom
body_dof jac rows center l =
    let a = square_of jac rows 6 in
    let pairs = sym_eigen 6 a in
    let most = top pairs in
    let free = free_of most pairs in
    let axes = span_basis (map turn_part free) SPAN in
    let slides = span_basis (map slide_part (free_of most (sym_eigen 3 (corner a)))) SPAN in
    record { slides = fill_slides free (length axes) 3 slides; turns = map (turn_about center l free) axes }

-- the relations that name body i
unfoldable pub rels_of : List Rel → ℕ → List Rel
rels_of [] i = []
rels_of (rel ∷ rels) i = cond (names rel i) (rel ∷ rels_of rels i) (rels_of rels i)

-- the poses with body i moved by its six unknowns x, the turning ones over l
unfoldable pub with_body : List (Pose Float) → ℕ → Body → Float → List Float → List (Pose Float)
with_body poses i b l x =
    let w = three x 3 in
    set poses i (moved_pose b (three x 0) (record { x = div binary64 w.x l; y = div binary64 w.y l; z = div binary64 w.z l }))

abbrev pub zeros : ℕ → List Float
zeros n = list_of (λ i. zero64) n

-- the rows of the relations that name body i, as a function of its six unknowns; the other bodies keep still
abbrev pub body_rows : Scene → ℕ → Body → List Float → List Float
body_rows s i b x = all_rows (with_body (map (λ c. pose_of_frame c.frame) s.bodies) i b (half_size b.size) x) (rels_of s.rels i)

unfoldable pub freedom_of : Scene → ℕ → Body → Freedom
freedom_of s i b =
    let rows = length (body_rows s i b (zeros 6)) in
    cond b.fixed (record { slides = []; turns = [] }) (body_dof (jacobian (body_rows s i b) (zeros 6) rows) rows b.center (half_size b.size))

unfoldable pub freedoms_from : Scene → ℕ → List Body → List Freedom
freedoms_from s i [] = []
freedoms_from s i (b ∷ bodies) = freedom_of s i b ∷ freedoms_from s (suc i) bodies

-- ---- the whole assembly

-- the turning unknowns of each moving body over half its size
abbrev pub scale_three : List Float → ℕ → Float → List Float
scale_three x k l =
    set (set (set x k (div binary64 (get_or x k nan) l)) (k + 1) (div binary64 (get_or x (k + 1) nan) l)) (k + 2) (div binary64 (get_or x (k + 2) nan) l)

unfoldable pub scaled_from : List Float → List Body → List (Option ℕ) → List Float
scaled_from x [] l = x
scaled_from x (b ∷ bodies) [] = x
scaled_from x (b ∷ bodies) (none ∷ l) = scaled_from x bodies l
scaled_from x (b ∷ bodies) (some k ∷ l) = scaled_from (scale_three x (k + 3) (half_size b.size)) bodies l

abbrev pub scaled_rows : Scene → List Float → List Float
scaled_rows s x = all_rows (poses_at s (scaled_from x s.bodies (layout s))) s.rels

unfoldable pub stiff_count : Float → List Eigen → ℕ
stiff_count most [] = 0
stiff_count most (e ∷ l) = cond (lt (mul binary64 DOF_REL most) (root (fmax e.value zero64))) 1 0 + stiff_count most l

-- `rank_rel`
unfoldable pub rank_rel : List Float → ℕ → ℕ → ℕ
rank_rel jac rows cols =
    elim (eqb rows 0 || eqb cols 0) [
      | true ↦ 0
      | false ↦
          let pairs = sym_eigen cols (square_of jac rows cols) in
          cond (le (top pairs) zero64) 0 (stiff_count (top pairs) pairs)
    ]

-- six for each free body that no relation names
unfoldable pub unnamed_from : List Rel → ℕ → List Body → ℕ
unnamed_from rels i [] = 0
unnamed_from rels i (b ∷ bodies) = cond (not b.fixed && not (moves rels i b)) 6 0 + unnamed_from rels (suc i) bodies

unfoldable pub total_freedom : Scene → ℕ
total_freedom s =
    let n = unknowns s in
    let rows = length (scaled_rows s (zeros n)) in
    n - min (rank_rel (jacobian (scaled_rows s) (zeros n) rows) rows n) n + unnamed_from s.rels 0 s.bodies

pub record Freedoms : Type 0 where
  pub bodies : List Freedom
  pub total : ℕ

unfoldable pub dof : Scene → Freedoms
dof s = record { bodies = freedoms_from s 0 s.bodies; total = total_freedom s }

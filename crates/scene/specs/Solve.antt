-- `solve` of solve.rs: unknowns, weights, poses, the retry, errors; document 02's parameters. Document 01, "The train of files", item 6, and "The words of demand 3".
-- Definitions only.
use Rattle.std.specs.Prelude.{ℕ, suc, ◌+◌, ◌%◌, Bool, true, false, not, ◌&&◌, ◌||◌, cond, List, [], ◌∷◌, ◌++◌, map, get_or, eqb, leb, Float}
use Rattle.std.proofs.Math.Option.{Option, none, some}
use Rattle.std.specs.Float.{nan, binary64}
use Rattle.std.specs.Float.Ieee.{mul, lt, le, of_bits}
use Rattle.numbers.specs.Ops.{doubles}
use Rattle.numbers.specs.Double.{zero64, one64, fmax}
use Rattle.numbers.specs.MaxAbs.{max_abs}
use Rattle.vectors.specs.Tol.{ASSEMBLY}
use Rattle.vectors.specs.Vec.{Vec, add_v, sub_v}
use Rattle.vectors.specs.Space.{Frame}
use Rattle.vectors.specs.Math.{apply, mul_m, exp, frame_of}
use Rattle.relations.specs.Geometry.{Pose, frame_or}
use Rattle.relations.specs.Model.{Body, Law, mate, flush, angle, insert, tangent, symmetry, joint, gear, Rel, pose_of_frame}
use Rattle.relations.specs.Rows.{residual, ground_pose}
use Rattle.least_squares.specs.Lm.{list_of, inverse_weight, Outcome, run}

pub record Scene : Type 0 where
  pub bodies : List Body
  pub rels : List Rel

-- ---- which bodies move

abbrev pub is_body : Option ℕ → ℕ → Bool
is_body none i = false
is_body (some k) i = eqb k i

-- the body of the third end: symmetry's plane, or a gear's carrier
unfoldable pub third_body : Law → Option ℕ
third_body (mate off) = none
third_body (flush off) = none
third_body (angle want reference) = none
third_body (insert off aligned) = none
third_body (tangent off inside) = none
third_body (symmetry p) = p.body
third_body (joint kind flip off want) = none
third_body (gear teeth_a teeth_b want carrier) = carrier.body

-- an end that the relation uses carries the number i
unfoldable pub names : Rel → ℕ → Bool
names rel i = is_body rel.a.body i || (is_body rel.b.body i || is_body (third_body rel.law) i)

-- A body is named when an end that some relation uses carries its number (document 01's term).
unfoldable pub named : List Rel → ℕ → Bool
named [] i = false
named (rel ∷ rels) i = names rel i || named rels i

-- a body has unknowns where it is not fixed and is named
unfoldable pub moves : List Rel → ℕ → Body → Bool
moves rels i b = not b.fixed && named rels i

-- `layout`: each body's first unknown, six to a body that moves, in the bodies' order; i is the first body's number and `next` the first free unknown
unfoldable pub layout_from : List Rel → ℕ → ℕ → List Body → List (Option ℕ)
layout_from rels i next [] = []
layout_from rels i next (b ∷ bodies) =
    elim (moves rels i b) [
      | true ↦ some next ∷ layout_from rels (suc i) (next + 6) bodies
      | false ↦ none ∷ layout_from rels (suc i) next bodies
    ]

abbrev pub layout : Scene → List (Option ℕ)
layout s = layout_from s.rels 0 0 s.bodies

-- n: six times the bodies that move
unfoldable pub unknowns_in : List (Option ℕ) → ℕ
unknowns_in [] = 0
unknowns_in (none ∷ l) = unknowns_in l
unknowns_in (some k ∷ l) = 6 + unknowns_in l

abbrev pub unknowns : Scene → ℕ
unknowns s = unknowns_in (layout s)

-- ---- poses and rows

-- the three unknowns from k on
abbrev pub three : List Float → ℕ → Vec Float
three x k = record { x = get_or x k nan; y = get_or x (k + 1) nan; z = get_or x (k + 2) nan }

-- turned by w about the body's centre, then moved by t
unfoldable pub moved_pose : Body → Vec Float → Vec Float → Pose Float
moved_pose b t w =
    let base = pose_of_frame b.frame in
    let rw = exp w in
    record { r = mul_m rw base.r; t = add_v doubles (add_v doubles b.center (apply doubles rw (sub_v doubles base.t b.center))) t }

unfoldable pub pose_at : List Float → Body → Option ℕ → Pose Float
pose_at x b none = pose_of_frame b.frame
pose_at x b (some k) = moved_pose b (three x k) (three x (k + 3))

unfoldable pub poses_from : List Float → List Body → List (Option ℕ) → List (Pose Float)
poses_from x [] l = []
poses_from x (b ∷ bodies) [] = []
poses_from x (b ∷ bodies) (k ∷ l) = pose_at x b k ∷ poses_from x bodies l

-- `poses_at`
abbrev pub poses_at : Scene → List Float → List (Pose Float)
poses_at s x = poses_from x s.bodies (layout s)

-- the pose of an end's body; the ground's for an end that names none
abbrev pub end_pose : List (Pose Float) → Option ℕ → Pose Float
end_pose poses none = ground_pose
end_pose poses (some i) = get_or poses i ground_pose

-- the rows of a relation at these poses
abbrev pub rows_at : List (Pose Float) → Rel → List Float
rows_at poses rel =
    residual rel.law rel.a rel.b (end_pose poses rel.a.body) (end_pose poses rel.b.body) (end_pose poses (third_body rel.law))

-- `residuals`: the rows of all relations, in order
unfoldable pub all_rows : List (Pose Float) → List Rel → List Float
all_rows poses [] = []
all_rows poses (rel ∷ rels) = rows_at poses rel ++ all_rows poses rels

-- the rows as a function of the unknowns
abbrev pub rows_of : Scene → List Float → List Float
rows_of s x = all_rows (poses_at s x) s.rels

-- ---- what a call chooses (document 02, 5/14)

-- how far off a row may be; the most rounds of one run; the most rows that are iterated; what the dragged body's weights are multiplied by
pub record Parameters : Type 0 where
  pub tolerance : Float
  pub rounds : ℕ
  pub row_limit : ℕ
  pub drag_weight : Float

-- a call that chooses nothing: 1e-9, 60, 800, 10000 (document 02, 8/14)
abbrev pub plain : Parameters
plain = record { tolerance = ASSEMBLY; rounds = 60; row_limit = 800; drag_weight = of_bits binary64 0x40C3_8800_0000_0000 }

-- from lo to hi, both included; a NaN is not
abbrev pub from_to : Float → Float → Float → Bool
from_to lo hi x = le lo x && le x hi

-- the finest tolerance is 1e-12, the coarsest 1e-3
abbrev pub FINEST : Float
FINEST = of_bits binary64 0x3D71_9799_812D_EA11

abbrev pub COARSEST : Float
COARSEST = of_bits binary64 0x3F50_624D_D2F1_A9FC

-- rounds 1 to 1000, row limit 1 to 800, drag weight 1 to 1e8
unfoldable pub in_range : Parameters → Bool
in_range p =
    from_to FINEST COARSEST p.tolerance && ((leb 1 p.rounds && leb p.rounds 1000)
    && ((leb 1 p.row_limit && leb p.row_limit 800) && from_to one64 (of_bits binary64 0x4197_D784_0000_0000) p.drag_weight))

-- ---- weights

-- half the size, at least 1
unfoldable pub half_size : Float → Float
half_size size = fmax (mul binary64 size (of_bits binary64 0x3FE0_0000_0000_0000)) one64

-- the drag weight for the dragged body
unfoldable pub drag_factor : Float → Option ℕ → ℕ → Float
drag_factor weight none i = one64
drag_factor weight (some d) i = cond (eqb d i) weight one64

-- the six weights of a body: sliding, then turning by the square of half its size
abbrev pub body_weights : Float → Float → List Float
body_weights scale half =
    let w = mul binary64 scale one64 in
    let v = mul binary64 scale (mul binary64 half half) in
    w ∷ w ∷ w ∷ v ∷ v ∷ v ∷ []

unfoldable pub weights_from : Float → Option ℕ → ℕ → List Body → List (Option ℕ) → List Float
weights_from weight drag i [] l = []
weights_from weight drag i (b ∷ bodies) [] = []
weights_from weight drag i (b ∷ bodies) (none ∷ l) = weights_from weight drag (suc i) bodies l
weights_from weight drag i (b ∷ bodies) (some k ∷ l) = body_weights (drag_factor weight drag i) (half_size b.size) ++ weights_from weight drag (suc i) bodies l

abbrev pub weights : Scene → Float → Option ℕ → List Float
weights s weight drag = weights_from weight drag 0 s.bodies (layout s)

-- ---- `solve`

-- the unknowns at first; and those of the retry, a slight turn: 0.05, -0.03, 0.07
abbrev pub start_at : ℕ → Float
start_at i = zero64

unfoldable pub slight_turn : ℕ → Float
slight_turn i =
    cond (leb 3 (i % 6))
    (cond (eqb (i % 3) 0) (of_bits binary64 0x3FA9_9999_9999_999A) (cond (eqb (i % 3) 1) (of_bits binary64 0xBF9E_B851_EB85_1EB8) (of_bits binary64 0x3FB1_EB85_1EB8_51EC)))
    zero64

abbrev pub run_from : Scene → Parameters → Option ℕ → List Float → Outcome
run_from s p drag x = run (rows_of s) (map inverse_weight (weights s p.drag_weight drag)) p.tolerance p.rounds p.row_limit x

-- the first run, and the retry, which is kept where it converged or its largest row is strictly smaller
unfoldable pub better : Scene → Outcome → Outcome → Outcome
better s first retry =
    cond (retry.converged || lt (max_abs (rows_of s retry.x)) (max_abs (rows_of s first.x))) retry first

unfoldable pub solved : Scene → Parameters → Option ℕ → Outcome
solved s p drag =
    let first = run_from s p drag (list_of start_at (unknowns s)) in
    elim (first.converged || eqb (unknowns s) 0) [
      | true ↦ first
      | false ↦ better s first (run_from s p drag (list_of slight_turn (unknowns s)))
    ]

-- the frame of a pose, squared anew; the body's own where none can be built
abbrev pub frame_at : Pose Float → Body → Frame
frame_at p b = frame_or (frame_of p.r p.t) b.frame

unfoldable pub frames_from : List (Pose Float) → List Body → List Frame
frames_from [] l = []
frames_from (p ∷ poses) [] = []
frames_from (p ∷ poses) (b ∷ bodies) = frame_at p b ∷ frames_from poses bodies

-- P is the poses that `solve` fills in. A relation's reported error is the largest magnitude among its rows at P (document 01's terms).
pub record Solution : Type 0 where
  pub poses : List (Pose Float)
  pub frames : List Frame
  pub errors : List Float
  pub converged : Bool

unfoldable pub solve_with : Scene → Parameters → Option ℕ → Solution
solve_with s p drag =
    let o = solved s p drag in
    let poses = poses_at s o.x in
    record { poses = poses; frames = frames_from poses s.bodies; errors = map (λ rel. max_abs (rows_at poses rel)) s.rels; converged = o.converged }

abbrev pub solve : Scene → Option ℕ → Solution
solve s drag = solve_with s plain drag

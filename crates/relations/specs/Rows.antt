-- The rows of every law and pair: `residual` of solve.rs, with `tangent_gap`, `perp`, `wrap`, `turn`, `mate_prim` and `joint_frame`. Document 01, "The train of
-- files", item 6, and "The words of demand 3"; document 02, 1/14, for the gear's row, which the Rust has not. What rows of mate, flush, insert, symmetry and a tangent
-- with a plane are made of is written once over the record of operations, for doubles and for fractions. Definitions only.
use Rattle.std.specs.Prelude.{ℕ, Bool, true, false, ◌||◌, cond, length, take, get_or, Float}
use mathlib.Core.List.{List, [], ◌∷◌}
use Rattle.std.proofs.Math.Option.{Option, none, some}
use Rattle.std.specs.Float.{binary64}
use Rattle.std.specs.Float.Ieee.{add, sub, mul, neg, le, of_bits}
use Rattle.numbers.specs.Ops.{Ops, doubles}
use Rattle.numbers.specs.Double.{zero64, one64, of_whole, abs, rem_euclid}
use Rattle.arcs.specs.Arcs.{arctangent}
use Rattle.vectors.specs.Vec.{Vec, vec, zero_v, add_v, sub_v, scale_v, dot, cross, len}
use Rattle.vectors.specs.Math.{apply, identity, PI}
use Rattle.relations.specs.Geometry.{Geo, plane, line, point, circle, Pose, pose_of, place, placed, direction_of, joint_frame}
use Rattle.relations.specs.Model.{End, Law, mate, flush, angle, insert, tangent, symmetry, joint, gear}
use Rattle.relations.specs.declared.rows.Rows.{Rows}
use Rattle.relations.specs.declared.rows.Pair.{Pair as PairEnum}
use Rattle.relations.specs.declared.rows.Pair.TheVariants.{Planes, Lines, Points, PlanePoint, LinePoint, PlaneLine, Other}
use Rattle.relations.specs.declared.rows.JointAt.{JointAt as JointStruct}
use Rattle.relations.specs.declared.rows.CarrierAt.{CarrierAt as CarrierStruct}
use Rattle.relations.specs.declared.model.JointKind.{JointKind}
use Rattle.relations.specs.declared.model.JointKind.TheVariants.{Rigid, Revolute, Slider, Cylindrical, Planar, Ball}

-- ---- rows as the code hands them on

-- the first n of seven
unfoldable pub rows_of : Rows → List Float
rows_of r = take r.n r.values

-- at most seven rows, +0 after them
unfoldable pub pack : List Float → Rows
pack l = record { n = length l; values = get_or l 0 zero64 ∷ get_or l 1 zero64 ∷ get_or l 2 zero64 ∷ get_or l 3 zero64 ∷ get_or l 4 zero64 ∷ get_or l 5 zero64 ∷ get_or l 6 zero64 ∷ [] }

-- ---- what rows are made of

-- 2.0
abbrev pub two64 : Float
two64 = of_bits binary64 0x4000_0000_0000_0000

-- a circle's axis is what a mate works with
unfoldable pub mate_prim : {C : Type 0} → Geo C → Geo C
mate_prim (plane p n) = plane p n
mate_prim (line p d) = line p d
mate_prim (point p) = point p
mate_prim (circle c n r) = line c n

-- Two primitives, as the Rust's `match (pa, pb)` tells them apart: two of a kind, a's before b's; two kinds, in one order whichever of the two is a's, as
-- its `(Plane, Point) | (Point, Plane)` takes them; and its `_`. A law that tells several pairs apart has a table over these, as `mate_of`, and `mate_rows`
-- is that table at two primitives.
pub data Pair (C : Type 0) : Type 0 where
  planes : Vec C → Vec C → Vec C → Vec C → Pair C
  lines : Vec C → Vec C → Vec C → Vec C → Pair C
  points : Vec C → Vec C → Pair C
  plane_point : Vec C → Vec C → Vec C → Pair C
  line_point : Vec C → Vec C → Vec C → Pair C
  plane_line : Vec C → Vec C → Vec C → Vec C → Pair C
  other : Pair C

abbrev pub pair : {C : Type 0} → Geo C → Geo C → Pair C
pair (plane a na) (plane b nb) = planes a na b nb
pair (plane p n) (line q d) = plane_line p n q d
pair (plane p n) (point q) = plane_point p n q
pair (plane p n) (circle c m r) = other
pair (line q d) (plane p n) = plane_line p n q d
pair (line a da) (line b db) = lines a da b db
pair (line p d) (point q) = line_point p d q
pair (line p d) (circle c m r) = other
pair (point q) (plane p n) = plane_point p n q
pair (point q) (line p d) = line_point p d q
pair (point a) (point b) = points a b
pair (point q) (circle c m r) = other
pair (circle c m r) b = other

-- the numbers of a `Pair`
abbrev pub pair_of : PairEnum → Pair Float
pair_of (Planes a na b nb) = planes (vec a) (vec na) (vec b) (vec nb)
pair_of (Lines a da b db) = lines (vec a) (vec da) (vec b) (vec db)
pair_of (Points a b) = points (vec a) (vec b)
pair_of (PlanePoint p n q) = plane_point (vec p) (vec n) (vec q)
pair_of (LinePoint p d q) = line_point (vec p) (vec d) (vec q)
pair_of (PlaneLine p n q d) = plane_line (vec p) (vec n) (vec q) (vec d)
pair_of Other = other

abbrev pub push3 : {C : Type 0} → Vec C → List C → List C
push3 v l = v.x ∷ v.y ∷ v.z ∷ l

module _ {C : Type 0} (o : Ops C) where
  -- the part of v that is perpendicular to d
  abbrev pub perp : Vec C → Vec C → Vec C
  perp v d = sub_v o v (scale_v o d (dot o v d))

  -- how far q stands from the plane through p with the normal n, less what is wanted
  abbrev pub gap : Vec C → Vec C → Vec C → C → C
  gap q p n want = o.sub (dot o (sub_v o q p) n) want

  abbrev pub mate_of : C → Pair C → List C
  mate_of off (planes a na b nb) = push3 (add_v o na nb) (gap b a na off ∷ [])
  mate_of off (lines a da b db) = push3 (cross o da db) (push3 (perp (sub_v o b a) da) [])
  mate_of off (points a b) = push3 (sub_v o b a) []
  mate_of off (plane_point p n q) = gap q p n off ∷ []
  mate_of off (line_point p d q) = push3 (perp (sub_v o q p) d) []
  mate_of off (plane_line p n q d) = dot o d n ∷ gap q p n off ∷ []
  mate_of off other = []

  unfoldable pub mate_rows : C → Geo C → Geo C → List C
  mate_rows off a b = mate_of off (pair a b)

  unfoldable pub flush_rows : C → Geo C → Geo C → List C
  flush_rows off (plane a na) (plane b nb) = push3 (sub_v o na nb) (gap b a na off ∷ [])
  flush_rows off (plane a na) (line q d) = []
  flush_rows off (plane a na) (point q) = []
  flush_rows off (plane a na) (circle c n r) = []
  flush_rows off (line q d) b = []
  flush_rows off (point q) b = []
  flush_rows off (circle c n r) b = []

  unfoldable pub insert_rows : C → Bool → Geo C → Geo C → List C
  insert_rows off aligned (circle ca na r) (circle cb nb s) =
      push3 (cond aligned (sub_v o na nb) (add_v o na nb)) (push3 (sub_v o (sub_v o cb ca) (scale_v o na off)) [])
  insert_rows off aligned (circle ca na r) (plane p n) = []
  insert_rows off aligned (circle ca na r) (line p n) = []
  insert_rows off aligned (circle ca na r) (point p) = []
  insert_rows off aligned (plane p n) b = []
  insert_rows off aligned (line p n) b = []
  insert_rows off aligned (point p) b = []

  -- `tangent_gap` where an end is a plane: the larger radius, behind the plane when inside
  unfoldable pub plane_gap : C → C → C → Bool → C
  plane_gap ra rb off inside = o.add (cond inside (o.neg (o.max ra rb)) (o.max ra rb)) off

  abbrev pub plane_tangent_of : C → Pair C → List C
  plane_tangent_of want (planes a na b nb) = []
  plane_tangent_of want (lines a da b db) = []
  plane_tangent_of want (points a b) = []
  plane_tangent_of want (plane_point p n c) = gap c p n want ∷ []
  plane_tangent_of want (line_point p d q) = []
  plane_tangent_of want (plane_line p n q d) = dot o d n ∷ gap q p n want ∷ []
  plane_tangent_of want other = []

  unfoldable pub plane_tangent_rows : C → Geo C → Geo C → List C
  plane_tangent_rows want a b = plane_tangent_of want (pair a b)

  -- a direction, and a point, mirrored in the plane through s0 with the normal ns
  abbrev pub mirror_turn : Vec C → Vec C → Vec C
  mirror_turn ns v = sub_v o v (scale_v o ns (o.mul (o.of two64) (dot o v ns)))

  abbrev pub mirror_place : Vec C → Vec C → Vec C → Vec C
  mirror_place s0 ns p = sub_v o p (scale_v o ns (o.mul (o.of two64) (dot o (sub_v o p s0) ns)))

  abbrev pub mirror_of : Vec C → Vec C → Pair C → List C
  mirror_of s0 ns (planes a na b nb) = push3 (sub_v o nb (mirror_turn ns na)) (dot o (sub_v o b (mirror_place s0 ns a)) nb ∷ [])
  mirror_of s0 ns (lines a da b db) = push3 (cross o db (mirror_turn ns da)) (push3 (perp (sub_v o b (mirror_place s0 ns a)) db) [])
  mirror_of s0 ns (points a b) = push3 (sub_v o b (mirror_place s0 ns a)) []
  mirror_of s0 ns (plane_point p n q) = []
  mirror_of s0 ns (line_point p d q) = []
  mirror_of s0 ns (plane_line p n q d) = []
  mirror_of s0 ns other = []

  unfoldable pub mirror_rows : Vec C → Vec C → Geo C → Geo C → List C
  mirror_rows s0 ns a b = mirror_of s0 ns (pair a b)

  unfoldable pub symmetry_rows : Geo C → Geo C → Geo C → List C
  unfolding mirror_rows
  symmetry_rows (plane s0 ns) a b = mirror_rows s0 ns a b
  symmetry_rows (line p d) a b = []
  symmetry_rows (point p) a b = []
  symmetry_rows (circle c n r) a b = []

  -- The rows of mate, flush, insert, symmetry and a tangent with a plane, ends a and b at the poses qa and qb, symmetry's plane at qs. The other laws have none
  -- here.
  unfoldable pub formula_rows : Law → End → End → Pose Float → Pose Float → Pose Float → List C
  unfolding placed mate_prim mate_rows flush_rows insert_rows plane_gap plane_tangent_rows symmetry_rows
  formula_rows (mate off) a b qa qb qs =
      mate_rows (o.of off) (mate_prim (placed o (pose_of o qa) a.prim)) (mate_prim (placed o (pose_of o qb) b.prim))
  formula_rows (flush off) a b qa qb qs = flush_rows (o.of off) (placed o (pose_of o qa) a.prim) (placed o (pose_of o qb) b.prim)
  formula_rows (angle want reference) a b qa qb qs = []
  formula_rows (insert off aligned) a b qa qb qs =
      insert_rows (o.of off) aligned (placed o (pose_of o qa) a.prim) (placed o (pose_of o qb) b.prim)
  formula_rows (tangent off inside) a b qa qb qs =
      plane_tangent_rows (plane_gap (o.of a.radius) (o.of b.radius) (o.of off) inside) (placed o (pose_of o qa) a.prim) (placed o (pose_of o qb) b.prim)
  formula_rows (symmetry p) a b qa qb qs =
      symmetry_rows (placed o (pose_of o qs) p.prim) (mate_prim (placed o (pose_of o qa) a.prim)) (mate_prim (placed o (pose_of o qb) b.prim))
  formula_rows (joint kind flip off want) a b qa qb qs = []
  formula_rows (gear teeth_a teeth_b want carrier) a b qa qb qs = []

-- ---- the rows that doubles alone have

-- a wrapped into (-pi, pi]
unfoldable pub wrap : Float → Float
wrap a =
    let tau = mul binary64 two64 PI in
    let w = sub binary64 (rem_euclid (add binary64 a PI) tau) PI in
    cond (le w (neg PI)) (add binary64 w tau) w

-- the angle from xa to xb, turning about the axis
unfoldable pub turn : Vec Float → Vec Float → Vec Float → Float
turn xa xb axis = arctangent (dot doubles (cross doubles xa xb) axis) (dot doubles xa xb)

-- `tangent_gap` between two round ends
unfoldable pub round_gap : Float → Float → Float → Bool → Float
round_gap ra rb off inside = add binary64 (cond inside (abs (sub binary64 ra rb)) (add binary64 ra rb)) off

-- `tangent_gap`: how far apart a tangent wants its ends
unfoldable pub tangent_gap : Float → Float → Float → Bool → Bool → Float
unfolding plane_gap round_gap
tangent_gap ra rb off inside is_plane = cond is_plane (plane_gap doubles ra rb off inside) (round_gap ra rb off inside)

abbrev pub round_tangent_of : Float → Pair Float → List Float
round_tangent_of want (planes a na b nb) = []
round_tangent_of want (lines a da b db) =
    push3 (cross doubles da db) (sub binary64 (len (perp doubles (sub_v doubles b a) da)) want ∷ [])
round_tangent_of want (points a b) = sub binary64 (len (sub_v doubles b a)) want ∷ []
round_tangent_of want (plane_point p n q) = []
round_tangent_of want (line_point p d c) = sub binary64 (len (perp doubles (sub_v doubles c p) d)) want ∷ []
round_tangent_of want (plane_line p n q d) = []
round_tangent_of want other = []

unfoldable pub round_tangent_rows : Float → Geo Float → Geo Float → List Float
round_tangent_rows want a b = round_tangent_of want (pair a b)

unfoldable pub is_plane : {C : Type 0} → Geo C → Bool
is_plane (plane p n) = true
is_plane (line p d) = false
is_plane (point p) = false
is_plane (circle c n r) = false

-- a joint's frame in the assembly: origin, X, Z
pub record JointAt : Type 0 where
  pub o : Vec Float
  pub x : Vec Float
  pub z : Vec Float

abbrev pub joint_of : JointStruct → JointAt
joint_of j = record { o = vec j.o; x = vec j.x; z = vec j.z }

unfoldable pub joint_at : End → Pose Float → JointAt
joint_at e q =
    let f = joint_frame e.prim e.mirrored in
    record { o = place doubles q f.origin; x = apply doubles q.r f.x; z = apply doubles q.r f.z }

-- 1 or, not flipped, -1
abbrev pub facing : Bool → Float
facing flip = cond flip one64 (of_bits binary64 0xBFF0_0000_0000_0000)

abbrev pub axes_apart : Bool → JointAt → JointAt → Vec Float
axes_apart flip a b = sub_v doubles b.z (scale_v doubles a.z (facing flip))

-- ob - oa - za * offset
abbrev pub origins_apart : Float → JointAt → JointAt → Vec Float
origins_apart off a b = sub_v doubles (sub_v doubles b.o a.o) (scale_v doubles a.z off)

abbrev pub off_axis : JointAt → JointAt → Vec Float
off_axis a b = perp doubles (sub_v doubles b.o a.o) a.z

unfoldable pub turned_by : Float → JointAt → JointAt → Float
turned_by want a b = wrap (sub binary64 (turn a.x b.x a.z) want)

unfoldable pub joint_rows : JointKind → Bool → Float → Float → JointAt → JointAt → List Float
unfolding turned_by
joint_rows Rigid flip off want a b = push3 (axes_apart flip a b) (push3 (origins_apart off a b) (turned_by want a b ∷ []))
joint_rows Revolute flip off want a b = push3 (axes_apart flip a b) (push3 (origins_apart off a b) [])
joint_rows Slider flip off want a b = push3 (axes_apart flip a b) (push3 (off_axis a b) (turned_by want a b ∷ []))
joint_rows Cylindrical flip off want a b = push3 (axes_apart flip a b) (push3 (off_axis a b) [])
joint_rows Planar flip off want a b = push3 (axes_apart flip a b) (gap doubles b.o a.o a.z off ∷ [])
joint_rows Ball flip off want a b = push3 (sub_v doubles b.o a.o) []

-- ---- meshing wheels

-- a gear's carrier in the assembly: X and Y of its joint frame
pub record CarrierAt : Type 0 where
  pub x : Vec Float
  pub y : Vec Float

abbrev pub carrier_of : CarrierStruct → CarrierAt
carrier_of c = record { x = vec c.x; y = vec c.y }

unfoldable pub carrier_at : End → Pose Float → CarrierAt
carrier_at e q =
    let f = joint_frame e.prim e.mirrored in
    record { x = apply doubles q.r f.x; y = apply doubles q.r f.y }

-- θ of a wheel, how far it is turned in its carrier: the angle from the carrier's X to the wheel's joint X, towards the carrier's Y
unfoldable pub wheel_turn : JointAt → CarrierAt → Float
wheel_turn w c = arctangent (dot doubles w.x c.y) (dot doubles w.x c.x)

-- teeth a · θa + teeth b · θb, less the angle; the whole difference is wrapped
unfoldable pub gear_row : ℕ → ℕ → Float → Float → Float → Float
gear_row teeth_a teeth_b want θa θb =
    wrap (sub binary64 (add binary64 (mul binary64 (of_whole teeth_a) θa) (mul binary64 (of_whole teeth_b) θb)) want)

unfoldable pub gear_rows : ℕ → ℕ → Float → JointAt → JointAt → CarrierAt → List Float
gear_rows teeth_a teeth_b want a b c = gear_row teeth_a teeth_b want (wheel_turn a c) (wheel_turn b c) ∷ []

-- about the axis r; a point has no direction, and no row
unfoldable pub angle_rows : Float → Vec Float → Option (Vec Float) → Option (Vec Float) → List Float
angle_rows want r (some ua) (some ub) = wrap (sub binary64 (turn ua ub r) want) ∷ []
angle_rows want r (some ua) none = []
angle_rows want r none b = []

-- between placed ends: with a plane, or both round
unfoldable pub tangent_rows : Float → Float → Float → Bool → Geo Float → Geo Float → List Float
tangent_rows ra rb off inside pa pb =
    cond (is_plane pa || is_plane pb) (plane_tangent_rows doubles (plane_gap doubles ra rb off inside) pa pb) (round_tangent_rows (round_gap ra rb off inside) pa pb)

-- `residual`: the rows of a relation, ends a and b at the poses qa and qb, the third end, symmetry's plane or a gear's carrier, at qs
unfoldable pub residual : Law → End → End → Pose Float → Pose Float → Pose Float → List Float
residual (mate off) a b qa qb qs = formula_rows doubles (mate off) a b qa qb qs
residual (flush off) a b qa qb qs = formula_rows doubles (flush off) a b qa qb qs
residual (angle want reference) a b qa qb qs =
    angle_rows want (apply doubles qa.r reference) (direction_of (placed doubles qa a.prim)) (direction_of (placed doubles qb b.prim))
residual (insert off aligned) a b qa qb qs = formula_rows doubles (insert off aligned) a b qa qb qs
residual (tangent off inside) a b qa qb qs =
    tangent_rows a.radius b.radius off inside (placed doubles qa a.prim) (placed doubles qb b.prim)
residual (symmetry p) a b qa qb qs = formula_rows doubles (symmetry p) a b qa qb qs
residual (joint kind flip off want) a b qa qb qs = joint_rows kind flip off want (joint_at a qa) (joint_at b qb)
residual (gear teeth_a teeth_b want carrier) a b qa qb qs = gear_rows teeth_a teeth_b want (joint_at a qa) (joint_at b qb) (carrier_at carrier qs)

-- the ground's pose
abbrev pub ground_pose : Pose Float
ground_pose = record { r = identity; t = zero_v }

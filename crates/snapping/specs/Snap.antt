-- `Motion` and `snap` of solve.rs: the motion of b's body that makes one relation hold by itself. Document 01, "The train of files", item 6;
-- document 02, 1/14, for the gear, whose snapping leaves the wheel where it stands. Definitions only.
use Rattle.std.specs.Prelude.{Bool, true, false, cond, Float}
use Rattle.std.proofs.Math.Option.{Option, none, some}
use Rattle.std.specs.Float.{binary64}
use Rattle.std.specs.Float.Ieee.{sub, le}
use Rattle.numbers.specs.Ops.{doubles}
use Rattle.numbers.specs.Double.{zero64}
use Rattle.vectors.specs.Vec.{Vec, vec, zero_v, add_v, sub_v, scale_v, neg_v, dot}
use Rattle.vectors.specs.Space.{Frame}
use Rattle.vectors.specs.Math.{Mat, mat, identity, apply, mul_m, transpose, exp, rotation_between, of_frame, frame_of}
use Rattle.relations.specs.Geometry.{Geo, plane, line, point, circle, Pose, place, placed, direction_of, frame_or}
use Rattle.relations.specs.Model.{Law, mate, flush, angle, insert, tangent, symmetry, joint, gear, Rel}
use Rattle.relations.specs.Rows.{Pair, planes, lines, points, plane_point, line_point, plane_line, other, pair, mate_prim, perp, turn, plane_gap, JointAt, joint_at}
use Rattle.snapping.specs.declared.snap.Motion.{Motion as MotionStruct}
use Rattle.relations.specs.declared.model.JointKind.{JointKind}
use Rattle.relations.specs.declared.model.JointKind.TheVariants.{Rigid, Revolute, Slider, Cylindrical, Planar, Ball}

-- ---- x -> r x + t

abbrev pub Motion : Type 0
Motion = Pose Float

-- the numbers of a `Motion`
abbrev pub motion : MotionStruct → Motion
motion m = record { r = mat m.r; t = vec m.t }

-- Motion::IDENTITY
abbrev pub still : Motion
still = record { r = identity; t = zero_v }

-- the frame moved and squared; itself where none can be built
unfoldable pub apply_frame : Motion → Frame → Frame
apply_frame m f = frame_or (frame_of (mul_m m.r (of_frame f)) (place doubles m f.origin)) f

unfoldable pub inverse : Motion → Motion
inverse m = record { r = transpose m.r; t = neg_v doubles (apply doubles (transpose m.r) m.t) }

-- turning by r about the centre, then moving by t
unfoldable pub about : Mat Float → Vec Float → Vec Float → Motion
about r center t = record { r = r; t = add_v doubles (sub_v doubles center (apply doubles r center)) t }

-- ---- turning

-- da, turned round where it points against db
abbrev pub same_side : Vec Float → Vec Float → Vec Float
same_side da db = cond (le zero64 (dot doubles da db)) da (neg_v doubles da)

-- v or its opposite
abbrev pub along : Bool → Vec Float → Vec Float
along same v = cond same v (neg_v doubles v)

-- where a mate turns b's direction
unfoldable pub mate_target : Pair Float → Vec Float → Vec Float → Option (Vec Float)
mate_target (planes p n q m) da db = some (neg_v doubles da)
mate_target (lines p d q e) da db = some (same_side da db)
mate_target (points a b) da db = none
mate_target (plane_point p n q) da db = none
mate_target (line_point p d q) da db = none
mate_target (plane_line p n q d) da db = none
mate_target other da db = none

unfoldable pub joint_target : JointKind → Bool → Vec Float → Option (Vec Float)
joint_target Rigid flip da = some (along flip da)
joint_target Revolute flip da = some (along flip da)
joint_target Slider flip da = some (along flip da)
joint_target Cylindrical flip da = some (along flip da)
joint_target Planar flip da = some (along flip da)
joint_target Ball flip da = none

-- the direction that b's is turned to, from a's direction da and b's db, ends placed
unfoldable pub target_dir : Law → Geo Float → Geo Float → Vec Float → Vec Float → Option (Vec Float)
target_dir (mate off) pa pb da db = mate_target (pair (mate_prim pa) (mate_prim pb)) da db
target_dir (flush off) pa pb da db = some da
target_dir (angle want reference) pa pb da db = none
target_dir (insert off aligned) pa pb da db = some (along aligned da)
target_dir (tangent off inside) pa pb da db = none
target_dir (symmetry p) pa pb da db = none
target_dir (joint kind flip off want) pa pb da db = joint_target kind flip da
target_dir (gear teeth_a teeth_b want carrier) pa pb da db = none

-- the directions that are turned onto each other: a joint's are its frames' Z
unfoldable pub snap_dir : Law → Geo Float → JointAt → Option (Vec Float)
snap_dir (mate off) p j = direction_of p
snap_dir (flush off) p j = direction_of p
snap_dir (angle want reference) p j = direction_of p
snap_dir (insert off aligned) p j = direction_of p
snap_dir (tangent off inside) p j = direction_of p
snap_dir (symmetry s) p j = direction_of p
snap_dir (joint kind flip off want) p j = some j.z
snap_dir (gear teeth_a teeth_b want carrier) p j = none

unfoldable pub turn_to : Vec Float → Option (Vec Float) → Mat Float
turn_to db (some to) = rotation_between db to
turn_to db none = identity

unfoldable pub turn_onto : Law → Geo Float → Geo Float → Option (Vec Float) → Option (Vec Float) → Mat Float
turn_onto law pa pb (some da) (some db) = turn_to db (target_dir law pa pb da db)
turn_onto law pa pb (some da) none = identity
turn_onto law pa pb none db = identity

-- then about the joint's axis, to its angle
unfoldable pub turn_to_angle : Float → JointAt → JointAt → Mat Float → Mat Float
turn_to_angle want ja jb r =
    mul_m (exp (scale_v doubles ja.z (sub binary64 want (turn ja.x (apply doubles r jb.x) ja.z)))) r

unfoldable pub joint_turn : JointKind → Float → JointAt → JointAt → Mat Float → Mat Float
joint_turn Rigid want ja jb r = turn_to_angle want ja jb r
joint_turn Revolute want ja jb r = r
joint_turn Slider want ja jb r = turn_to_angle want ja jb r
joint_turn Cylindrical want ja jb r = r
joint_turn Planar want ja jb r = r
joint_turn Ball want ja jb r = r

unfoldable pub snap_turn : Law → JointAt → JointAt → Mat Float → Mat Float
snap_turn (mate off) ja jb r = r
snap_turn (flush off) ja jb r = r
snap_turn (angle want reference) ja jb r = r
snap_turn (insert off aligned) ja jb r = r
snap_turn (tangent off inside) ja jb r = r
snap_turn (symmetry s) ja jb r = r
snap_turn (joint kind flip off want) ja jb r = joint_turn kind want ja jb r
snap_turn (gear teeth_a teeth_b want carrier) ja jb r = r

-- ---- sliding

-- along n by `want` less how far q stands from the plane through p; and the other way
abbrev pub slide_to : Float → Vec Float → Vec Float → Vec Float → Vec Float
slide_to want q p n = scale_v doubles n (sub binary64 want (dot doubles (sub_v doubles q p) n))

abbrev pub slide_from : Float → Vec Float → Vec Float → Vec Float → Vec Float
slide_from want q p n = scale_v doubles n (sub binary64 (dot doubles (sub_v doubles q p) n) want)

unfoldable pub mate_slide : Float → Geo Float → Geo Float → Vec Float
mate_slide off (plane a na) (plane b nb) = slide_to off b a na
mate_slide off (plane p n) (line q d) = slide_to off q p n
mate_slide off (plane p n) (point q) = slide_to off q p n
mate_slide off (plane p n) (circle c m r) = zero_v
mate_slide off (line q d) (plane p n) = slide_from off q p n
mate_slide off (line a d) (line b e) = perp doubles (sub_v doubles a b) d
mate_slide off (line p d) (point q) = neg_v doubles (perp doubles (sub_v doubles q p) d)
mate_slide off (line p d) (circle c m r) = zero_v
mate_slide off (point q) (plane p n) = slide_from off q p n
mate_slide off (point q) (line p d) = perp doubles (sub_v doubles q p) d
mate_slide off (point a) (point b) = sub_v doubles a b
mate_slide off (point q) (circle c m r) = zero_v
mate_slide off (circle c n r) b = zero_v

unfoldable pub flush_slide : Float → Geo Float → Geo Float → Vec Float
flush_slide off (plane a na) (plane b nb) = slide_to off b a na
flush_slide off (plane a na) (line q d) = zero_v
flush_slide off (plane a na) (point q) = zero_v
flush_slide off (plane a na) (circle c n r) = zero_v
flush_slide off (line q d) b = zero_v
flush_slide off (point q) b = zero_v
flush_slide off (circle c n r) b = zero_v

-- ca + na * offset - cb
unfoldable pub insert_slide : Float → Geo Float → Geo Float → Vec Float
insert_slide off (circle ca na r) (circle cb nb s) = sub_v doubles (add_v doubles ca (scale_v doubles na off)) cb
insert_slide off (circle ca na r) (plane p n) = zero_v
insert_slide off (circle ca na r) (line p d) = zero_v
insert_slide off (circle ca na r) (point p) = zero_v
insert_slide off (plane p n) b = zero_v
insert_slide off (line p d) b = zero_v
insert_slide off (point p) b = zero_v

-- toward a plane, as far as the tangent wants; two round ends stay
unfoldable pub tangent_slide : Float → Geo Float → Geo Float → Vec Float
tangent_slide want (plane p n) (line q d) = slide_to want q p n
tangent_slide want (plane p n) (point q) = slide_to want q p n
tangent_slide want (plane p n) (plane q m) = zero_v
tangent_slide want (plane p n) (circle c m r) = zero_v
tangent_slide want (line q d) (plane p n) = slide_from want q p n
tangent_slide want (line q d) (line p e) = zero_v
tangent_slide want (line q d) (point p) = zero_v
tangent_slide want (line q d) (circle c m r) = zero_v
tangent_slide want (point q) (plane p n) = slide_from want q p n
tangent_slide want (point q) (line p e) = zero_v
tangent_slide want (point q) (point p) = zero_v
tangent_slide want (point q) (circle c m r) = zero_v
tangent_slide want (circle c n r) b = zero_v

-- oa + za * offset - ob
abbrev pub to_origin : Float → Vec Float → Vec Float → Vec Float → Vec Float
to_origin off oa za ob = sub_v doubles (add_v doubles oa (scale_v doubles za off)) ob

-- ob is b's joint origin after the turning
unfoldable pub joint_slide : JointKind → Float → Vec Float → Vec Float → Vec Float → Vec Float
joint_slide Rigid off oa za ob = to_origin off oa za ob
joint_slide Revolute off oa za ob = to_origin off oa za ob
joint_slide Slider off oa za ob = perp doubles (sub_v doubles oa ob) za
joint_slide Cylindrical off oa za ob = perp doubles (sub_v doubles oa ob) za
joint_slide Planar off oa za ob = slide_to off ob oa za
joint_slide Ball off oa za ob = to_origin off oa za ob

-- ends of the radii ra and rb, placed, b's after the turning; ob is b's joint origin then
unfoldable pub slide : Law → Float → Float → Geo Float → Geo Float → JointAt → Vec Float → Vec Float
slide (mate off) ra rb pa pb ja ob = mate_slide off (mate_prim pa) (mate_prim pb)
slide (flush off) ra rb pa pb ja ob = flush_slide off pa pb
slide (angle want reference) ra rb pa pb ja ob = zero_v
slide (insert off aligned) ra rb pa pb ja ob = insert_slide off pa pb
slide (tangent off inside) ra rb pa pb ja ob = tangent_slide (plane_gap doubles ra rb off inside) pa pb
slide (symmetry s) ra rb pa pb ja ob = zero_v
slide (joint kind flip off want) ra rb pa pb ja ob = joint_slide kind off ja.o ja.z ob
slide (gear teeth_a teeth_b want carrier) ra rb pa pb ja ob = zero_v

-- b's direction turned onto a's, then about the joint's axis
unfoldable pub turning : Law → Geo Float → Geo Float → JointAt → JointAt → Mat Float
turning law pa pb ja jb = snap_turn law ja jb (turn_onto law pa pb (snap_dir law pa ja) (snap_dir law pb jb))

-- ends a and b at the poses qa and qb, b's body turned about its centre
unfoldable pub turned : Rel → Pose Float → Pose Float → Vec Float → Motion
turned rel qa qb center =
    about
    (turning rel.law (placed doubles qa rel.a.prim) (placed doubles qb rel.b.prim) (joint_at rel.a qa) (joint_at rel.b qb))
    center
    zero_v

-- a pose after a motion
unfoldable pub moved : Motion → Pose Float → Pose Float
moved m q = record { r = mul_m m.r q.r; t = place doubles m q.t }

-- how far b slides after the turning m
unfoldable pub sliding : Rel → Pose Float → Pose Float → Motion → Vec Float
sliding rel qa qb m =
    slide
    rel.law
    rel.a.radius
    rel.b.radius
    (placed doubles qa rel.a.prim)
    (placed doubles (moved m qb) rel.b.prim)
    (joint_at rel.a qa)
    (place doubles m (joint_at rel.b qb).o)

-- a motion, then moving by v
unfoldable pub slid : Motion → Vec Float → Motion
slid m v = record { r = m.r; t = add_v doubles m.t v }

unfoldable pub is_gear : Law → Bool
is_gear (mate off) = false
is_gear (flush off) = false
is_gear (angle want reference) = false
is_gear (insert off aligned) = false
is_gear (tangent off inside) = false
is_gear (symmetry p) = false
is_gear (joint kind flip off want) = false
is_gear (gear teeth_a teeth_b want carrier) = true

-- `snap`: turned, then slid. A gear moves nothing, and its cases above are not asked for.
unfoldable pub snap : Rel → Pose Float → Pose Float → Vec Float → Motion
snap rel qa qb center =
    cond (is_gear rel.law) still (slid (turned rel qa qb center) (sliding rel qa qb (turned rel qa qb center)))

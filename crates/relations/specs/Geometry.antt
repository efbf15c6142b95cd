-- `Prim` of geometry.rs: the plane, line, point or circle that a relation works with. Document 01, "The train of files", item 4. Definitions only; what
-- looks geometry up in a part is left out.
use Rattle.std.specs.Prelude.{Bool, cond, Float, Some, None}
use Rattle.std.specs.Prelude.{Option as MaybeOf}
use Rattle.std.proofs.Math.Option.{Option, none, some}
use Rattle.numbers.specs.Ops.{Ops, doubles}
use Rattle.vectors.specs.Vec.{Vec, vec, z_v, neg_v, add_v}
use Rattle.vectors.specs.Space.{Frame, world, from_normal}
use Rattle.vectors.specs.Math.{Mat, apply}
use Rattle.relations.specs.declared.geometry.Primitive.{Primitive}
use Rattle.relations.specs.declared.geometry.Primitive.TheVariants.{Plane, Line, Point, Circle}
use Rattle.vectors.specs.declared.vec.Vec3.{Vec3}

-- a point and a normal; a point and a direction; a point; a centre, an axis and a radius
pub data Geo (C : Type 0) : Type 0 where
  plane : Vec C → Vec C → Geo C
  line : Vec C → Vec C → Geo C
  point : Vec C → Geo C
  circle : Vec C → Vec C → C → Geo C

-- the numbers of a `Primitive`
abbrev pub prim : Primitive → Geo Float
prim (Plane p n) = plane (vec p) (vec n)
prim (Line p d) = line (vec p) (vec d)
prim (Point p) = point (vec p)
prim (Circle c n r) = circle (vec c) (vec n) r

-- a turning and a position
pub record Pose (C : Type 0) : Type 0 where
  pub r : Mat C
  pub t : Vec C

module _ {C : Type 0} (o : Ops C) where
  -- the numbers that doubles stand for
  abbrev pub vec_of : Vec Float → Vec C
  vec_of v = record { x = o.of v.x; y = o.of v.y; z = o.of v.z }

  abbrev pub pose_of : Pose Float → Pose C
  pose_of q = record { r = record { r0 = vec_of q.r.r0; r1 = vec_of q.r.r1; r2 = vec_of q.r.r2 }; t = vec_of q.t }

  abbrev pub place : Pose C → Vec C → Vec C
  place q p = add_v o (apply o q.r p) q.t

  -- the geometry moved by a pose
  unfoldable pub placed : Pose C → Geo Float → Geo C
  placed q (plane p n) = plane (place q (vec_of p)) (apply o q.r (vec_of n))
  placed q (line p d) = line (place q (vec_of p)) (apply o q.r (vec_of d))
  placed q (point p) = point (place q (vec_of p))
  placed q (circle c n r) = circle (place q (vec_of c)) (apply o q.r (vec_of n)) (o.of r)

-- a point of the geometry
unfoldable pub point_of : Geo Float → Vec Float
point_of (plane p n) = p
point_of (line p d) = p
point_of (point p) = p
point_of (circle c n r) = c

-- what `direction` answers: a direction or none
abbrev pub direction : MaybeOf Vec3 → Option (Vec Float)
direction (Some d) = some (vec d)
direction None = none

-- the normal, direction or axis; a point has none
unfoldable pub direction_of : Geo Float → Option (Vec Float)
direction_of (plane p n) = some n
direction_of (line p d) = some d
direction_of (point p) = none
direction_of (circle c n r) = some n

-- the z of a joint's frame: the direction, and for a point Z, or -Z on a mirrored part
unfoldable pub joint_axis : Option (Vec Float) → Bool → Vec Float
joint_axis (some d) mirrored = d
joint_axis none mirrored = cond mirrored (neg_v doubles z_v) z_v

abbrev pub frame_or : Option Frame → Frame → Frame
frame_or (some f) other = f
frame_or none other = other

-- the frame that a joint takes: Frame::WORLD where none can be built
unfoldable pub joint_frame : Geo Float → Bool → Frame
unfolding point_of direction_of joint_axis
joint_frame g mirrored = frame_or (from_normal (point_of g) (joint_axis (direction_of g) mirrored)) world

-- `check`, `check_tangent` and `joint_reading` of solve.rs. Document 01, "What a call says", numbers 11 and 12; document 02, 1/14, for the gear, which any two ends suit.
-- Definitions only.
use Rattle.std.specs.Prelude.{ℕ, Bool, true, false, not, ◌&&◌, ◌||◌, cond, Float}
use Rattle.std.specs.Float.Ieee.{lt}
use Rattle.numbers.specs.Ops.{doubles}
use Rattle.numbers.specs.Double.{zero64}
use Rattle.vectors.specs.Vec.{sub_v, dot}
use Rattle.relations.specs.Geometry.{Geo, plane, line, point, circle, Pose}
use Rattle.relations.specs.Model.{End, Law, mate, flush, angle, insert, tangent, symmetry, joint, gear, Rel}
use Rattle.relations.specs.Rows.{Pair, planes, lines, points, plane_point, line_point, plane_line, other, pair, mate_prim, is_plane, joint_at, turn}
use Rattle.judging.specs.declared.judge.Reading.{Reading as ReadingStruct}

-- ---- which pairs suit a law

unfoldable pub is_circle : Geo Float → Bool
is_circle (plane p n) = false
is_circle (line p d) = false
is_circle (point p) = false
is_circle (circle c n r) = true

unfoldable pub has_direction : Geo Float → Bool
has_direction (plane p n) = true
has_direction (line p d) = true
has_direction (point p) = false
has_direction (circle c n r) = true

-- two planes, two lines or two points
unfoldable pub two_of_a_kind : Pair Float → Bool
two_of_a_kind (planes a na b nb) = true
two_of_a_kind (lines a da b db) = true
two_of_a_kind (points a b) = true
two_of_a_kind (plane_point p n q) = false
two_of_a_kind (line_point p d q) = false
two_of_a_kind (plane_line p n q d) = false
two_of_a_kind other = false

-- not two planes, and no circle
unfoldable pub suits_tangent : Geo Float → Geo Float → Bool
suits_tangent a b = not (is_circle a || (is_circle b || (is_plane a && is_plane b)))

unfoldable pub suits : Law → Geo Float → Geo Float → Bool
suits (mate off) a b = true
suits (flush off) a b = is_plane a && is_plane b
suits (angle want reference) a b = has_direction a && has_direction b
suits (insert off aligned) a b = is_circle a && is_circle b
suits (tangent off inside) a b = suits_tangent a b
suits (symmetry p) a b = is_plane p.prim && two_of_a_kind (pair (mate_prim a) (mate_prim b))
suits (joint kind flip off want) a b = true
suits (gear teeth_a teeth_b want carrier) a b = true

-- `check`: 0 where the pair suits the law, else 11
unfoldable pub check : Law → Geo Float → Geo Float → ℕ
check law a b = cond (suits law a b) 0 11

unfoldable pub line_or_point : Geo Float → Bool
line_or_point (plane p n) = false
line_or_point (line p d) = true
line_or_point (point p) = true
line_or_point (circle c n r) = false

-- a line or a point with a radius above 0
unfoldable pub is_round : End → Bool
is_round e = lt zero64 e.radius && line_or_point e.prim

-- `check_tangent`: 0 for a round end with another or with a plane, else 12
unfoldable pub check_tangent : End → End → ℕ
check_tangent a b = cond ((is_round a && (is_round b || is_plane b.prim)) || (is_plane a.prim && is_round b)) 0 12

unfoldable pub is_tangent : Law → Bool
is_tangent (mate off) = false
is_tangent (flush off) = false
is_tangent (angle want reference) = false
is_tangent (insert off aligned) = false
is_tangent (tangent off inside) = true
is_tangent (symmetry p) = false
is_tangent (joint kind flip off want) = false
is_tangent (gear teeth_a teeth_b want carrier) = false

-- judging: `check`, then for a tangent `check_tangent`; 0 where both pass
unfoldable pub judge : Rel → ℕ
judge rel =
    cond (suits rel.law rel.a.prim rel.b.prim) (cond (is_tangent rel.law) (check_tangent rel.a rel.b) 0) 11

-- ---- where a joint stands

pub record Reading : Type 0 where
  pub offset : Float
  pub angle : Float

abbrev pub reading : ReadingStruct → Reading
reading r = record { offset = r.offset; angle = r.angle }

-- how far b's origin is from a's along a's Z, and how far b is turned from a about it
unfoldable pub joint_reading : Rel → Pose Float → Pose Float → Reading
joint_reading rel qa qb =
    let ja = joint_at rel.a qa in
    let jb = joint_at rel.b qb in
    record { offset = dot doubles (sub_v doubles jb.o ja.o) ja.z; angle = turn ja.x jb.x ja.z }

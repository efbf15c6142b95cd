-- How many rows a relation has, which its law and the kinds of its geometry decide. Document 01, "The sheet": R is the sheet's row count. Definitions only.
use Rattle.std.specs.Prelude.{ℕ, ◌&&◌, cond, Float}
use Rattle.relations.specs.Geometry.{Geo}
use Rattle.relations.specs.Model.{Law, mate, flush, angle, insert, tangent, symmetry, joint, gear}
use Rattle.relations.specs.Rows.{Pair, planes, lines, points, plane_point, line_point, plane_line, other, pair, is_plane, mate_prim}
use Rattle.judging.specs.Judge.{is_circle, has_direction}
use Rattle.relations.specs.declared.model.JointKind.{JointKind}
use Rattle.relations.specs.declared.model.JointKind.TheVariants.{Rigid, Revolute, Slider, Cylindrical, Planar, Ball}

unfoldable pub mate_count : Pair Float → ℕ
mate_count (planes a na b nb) = 4
mate_count (lines a da b db) = 6
mate_count (points a b) = 3
mate_count (plane_point p n q) = 1
mate_count (line_point p d q) = 3
mate_count (plane_line p n q d) = 2
mate_count other = 0

unfoldable pub tangent_count : Pair Float → ℕ
tangent_count (planes a na b nb) = 0
tangent_count (lines a da b db) = 4
tangent_count (points a b) = 1
tangent_count (plane_point p n q) = 1
tangent_count (line_point p d q) = 1
tangent_count (plane_line p n q d) = 2
tangent_count other = 0

unfoldable pub mirror_count : Pair Float → ℕ
mirror_count (planes a na b nb) = 4
mirror_count (lines a da b db) = 6
mirror_count (points a b) = 3
mirror_count (plane_point p n q) = 0
mirror_count (line_point p d q) = 0
mirror_count (plane_line p n q d) = 0
mirror_count other = 0

unfoldable pub joint_count : JointKind → ℕ
joint_count Rigid = 7
joint_count Revolute = 6
joint_count Slider = 7
joint_count Cylindrical = 6
joint_count Planar = 4
joint_count Ball = 3

-- of a law between ends a and b
unfoldable pub row_count : Law → Geo Float → Geo Float → ℕ
row_count (mate off) a b = mate_count (pair (mate_prim a) (mate_prim b))
row_count (flush off) a b = cond (is_plane a && is_plane b) 4 0
row_count (angle want reference) a b = cond (has_direction a && has_direction b) 1 0
row_count (insert off aligned) a b = cond (is_circle a && is_circle b) 6 0
row_count (tangent off inside) a b = tangent_count (pair a b)
row_count (symmetry p) a b = cond (is_plane p.prim) (mirror_count (pair (mate_prim a) (mate_prim b))) 0
row_count (joint kind flip off want) a b = joint_count kind
row_count (gear teeth_a teeth_b want carrier) a b = 1

-- A relation has as many rows as `row_count` says, wherever its ends stand, and at most seven, so that `pack` keeps them whole. By cases of the law and of the kinds
-- of geometry. Assumes nothing.
use Prim.Native.Nat.{ℕ, ◌≤◌}
use native.Mathlib.Omega.{arith}
use mathlib.Core.Path.{◌≡◌, refl}
use mathlib.Core.Bool.{Bool, true, false, ◌&&◌, cond}
use mathlib.Core.List.{List, [], ◌∷◌}
use lib.ListN.{length}
use lib.Ieee.{Float}
use Rattle.numbers.specs.Ops.{doubles}
use Rattle.vectors.specs.Vec.{Vec}
use Rattle.relations.specs.Geometry.{Geo, plane, line, point, circle, Pose, placed, direction_of}
use Rattle.relations.specs.Model.{End, Law, mate, flush, angle, insert, tangent, symmetry, joint, gear}
use Rattle.relations.specs.Rows.{Pair, planes, lines, points, plane_point, line_point, plane_line, other, pair, is_plane, mate_prim, mate_rows, flush_rows, insert_rows, plane_tangent_rows, round_tangent_rows, tangent_rows, mirror_rows, symmetry_rows, formula_rows, JointAt, joint_rows, angle_rows, gear_rows, residual, rows_of, pack}
use Rattle.judging.specs.Judge.{is_circle, has_direction}
use Rattle.judging.specs.Count.{mate_count, tangent_count, mirror_count, joint_count, row_count}
use Rattle.relations.specs.declared.model.JointKind.{JointKind}
use Rattle.relations.specs.declared.model.JointKind.TheVariants.{Rigid, Revolute, Slider, Cylindrical, Planar, Ball}

module _ (qa qb : Pose Float) where
  mate_length : (off : Float) (a b : Geo Float) → length (mate_rows doubles off (mate_prim (placed doubles qa a)) (mate_prim (placed doubles qb b))) ≡ mate_count (pair (mate_prim a) (mate_prim b))
  unfolding placed mate_prim mate_rows mate_count
  mate_length off (plane p n) (plane q m) = refl
  mate_length off (plane p n) (line q e) = refl
  mate_length off (plane p n) (point q) = refl
  mate_length off (plane p n) (circle k m s) = refl
  mate_length off (line p d) (plane q m) = refl
  mate_length off (line p d) (line q e) = refl
  mate_length off (line p d) (point q) = refl
  mate_length off (line p d) (circle k m s) = refl
  mate_length off (point p) (plane q m) = refl
  mate_length off (point p) (line q e) = refl
  mate_length off (point p) (point q) = refl
  mate_length off (point p) (circle k m s) = refl
  mate_length off (circle c n r) (plane q m) = refl
  mate_length off (circle c n r) (line q e) = refl
  mate_length off (circle c n r) (point q) = refl
  mate_length off (circle c n r) (circle k m s) = refl

  flush_length : (off : Float) (a b : Geo Float) → length (flush_rows doubles off (placed doubles qa a) (placed doubles qb b)) ≡ cond (is_plane a && is_plane b) 4 0
  unfolding placed flush_rows is_plane
  flush_length off (plane p n) (plane q m) = refl
  flush_length off (plane p n) (line q e) = refl
  flush_length off (plane p n) (point q) = refl
  flush_length off (plane p n) (circle k m s) = refl
  flush_length off (line p d) b = refl
  flush_length off (point p) b = refl
  flush_length off (circle c n r) b = refl

  insert_length : (off : Float) (aligned : Bool) (a b : Geo Float) → length (insert_rows doubles off aligned (placed doubles qa a) (placed doubles qb b)) ≡ cond (is_circle a && is_circle b) 6 0
  unfolding placed insert_rows is_circle
  insert_length off aligned (plane p n) b = refl
  insert_length off aligned (line p d) b = refl
  insert_length off aligned (point p) b = refl
  insert_length off aligned (circle c n r) (plane q m) = refl
  insert_length off aligned (circle c n r) (line q e) = refl
  insert_length off aligned (circle c n r) (point q) = refl
  insert_length off aligned (circle c n r) (circle k m s) = refl

  angle_length : (want : Float) (axis : Vec Float) (a b : Geo Float) → length (angle_rows want axis (direction_of (placed doubles qa a)) (direction_of (placed doubles qb b))) ≡ cond (has_direction a && has_direction b) 1 0
  unfolding placed direction_of angle_rows has_direction
  angle_length want axis (plane p n) (plane q m) = refl
  angle_length want axis (plane p n) (line q e) = refl
  angle_length want axis (plane p n) (point q) = refl
  angle_length want axis (plane p n) (circle k m s) = refl
  angle_length want axis (line p d) (plane q m) = refl
  angle_length want axis (line p d) (line q e) = refl
  angle_length want axis (line p d) (point q) = refl
  angle_length want axis (line p d) (circle k m s) = refl
  angle_length want axis (point p) (plane q m) = refl
  angle_length want axis (point p) (line q e) = refl
  angle_length want axis (point p) (point q) = refl
  angle_length want axis (point p) (circle k m s) = refl
  angle_length want axis (circle c n r) (plane q m) = refl
  angle_length want axis (circle c n r) (line q e) = refl
  angle_length want axis (circle c n r) (point q) = refl
  angle_length want axis (circle c n r) (circle k m s) = refl

  tangent_length : (ra rb off : Float) (inside : Bool) (a b : Geo Float) → length (tangent_rows ra rb off inside (placed doubles qa a) (placed doubles qb b)) ≡ tangent_count (pair a b)
  unfolding placed is_plane tangent_rows plane_tangent_rows round_tangent_rows tangent_count
  tangent_length ra rb off inside (plane p n) (plane q m) = refl
  tangent_length ra rb off inside (plane p n) (line q e) = refl
  tangent_length ra rb off inside (plane p n) (point q) = refl
  tangent_length ra rb off inside (plane p n) (circle k m s) = refl
  tangent_length ra rb off inside (line p d) (plane q m) = refl
  tangent_length ra rb off inside (line p d) (line q e) = refl
  tangent_length ra rb off inside (line p d) (point q) = refl
  tangent_length ra rb off inside (line p d) (circle k m s) = refl
  tangent_length ra rb off inside (point p) (plane q m) = refl
  tangent_length ra rb off inside (point p) (line q e) = refl
  tangent_length ra rb off inside (point p) (point q) = refl
  tangent_length ra rb off inside (point p) (circle k m s) = refl
  tangent_length ra rb off inside (circle c n r) (plane q m) = refl
  tangent_length ra rb off inside (circle c n r) (line q e) = refl
  tangent_length ra rb off inside (circle c n r) (point q) = refl
  tangent_length ra rb off inside (circle c n r) (circle k m s) = refl

  mirror_length : (s0 ns : Vec Float) (a b : Geo Float) → length (mirror_rows doubles s0 ns (mate_prim (placed doubles qa a)) (mate_prim (placed doubles qb b))) ≡ mirror_count (pair (mate_prim a) (mate_prim b))
  unfolding placed mate_prim mirror_rows mirror_count
  mirror_length s0 ns (plane p n) (plane q m) = refl
  mirror_length s0 ns (plane p n) (line q e) = refl
  mirror_length s0 ns (plane p n) (point q) = refl
  mirror_length s0 ns (plane p n) (circle k m s) = refl
  mirror_length s0 ns (line p d) (plane q m) = refl
  mirror_length s0 ns (line p d) (line q e) = refl
  mirror_length s0 ns (line p d) (point q) = refl
  mirror_length s0 ns (line p d) (circle k m s) = refl
  mirror_length s0 ns (point p) (plane q m) = refl
  mirror_length s0 ns (point p) (line q e) = refl
  mirror_length s0 ns (point p) (point q) = refl
  mirror_length s0 ns (point p) (circle k m s) = refl
  mirror_length s0 ns (circle c n r) (plane q m) = refl
  mirror_length s0 ns (circle c n r) (line q e) = refl
  mirror_length s0 ns (circle c n r) (point q) = refl
  mirror_length s0 ns (circle c n r) (circle k m s) = refl

  symmetry_length : (qs : Pose Float) (s a b : Geo Float) → length (symmetry_rows doubles (placed doubles qs s) (mate_prim (placed doubles qa a)) (mate_prim (placed doubles qb b))) ≡ cond (is_plane s) (mirror_count (pair (mate_prim a) (mate_prim b))) 0
  unfolding placed symmetry_rows is_plane
  symmetry_length qs (plane p n) a b = mirror_length _ _ a b
  symmetry_length qs (line p d) a b = refl
  symmetry_length qs (point p) a b = refl
  symmetry_length qs (circle c n r) a b = refl

joint_length : (kind : JointKind) (flip : Bool) (off want : Float) (a b : JointAt) → length (joint_rows kind flip off want a b) ≡ joint_count kind
unfolding joint_rows joint_count
joint_length Rigid flip off want a b = refl
joint_length Revolute flip off want a b = refl
joint_length Slider flip off want a b = refl
joint_length Cylindrical flip off want a b = refl
joint_length Planar flip off want a b = refl
joint_length Ball flip off want a b = refl

-- `residual` has `row_count` rows
pub residual_length : (law : Law) (a b : End) (qa qb qs : Pose Float) → length (residual law a b qa qb qs) ≡ row_count law a.prim b.prim
unfolding residual formula_rows gear_rows row_count
residual_length (mate off) a b qa qb qs = mate_length qa qb off a.prim b.prim
residual_length (flush off) a b qa qb qs = flush_length qa qb off a.prim b.prim
residual_length (angle want reference) a b qa qb qs = angle_length qa qb want _ a.prim b.prim
residual_length (insert off aligned) a b qa qb qs = insert_length qa qb off aligned a.prim b.prim
residual_length (tangent off inside) a b qa qb qs = tangent_length qa qb a.radius b.radius off inside a.prim b.prim
residual_length (symmetry p) a b qa qb qs = symmetry_length qa qb qs p.prim a.prim b.prim
residual_length (joint kind flip off want) a b qa qb qs = joint_length kind flip off want _ _
residual_length (gear teeth_a teeth_b want carrier) a b qa qb qs = refl

-- ---- at most seven

pick_le : (t : Bool) {x y : ℕ} → x ≤ 7 → y ≤ 7 → cond t x y ≤ 7
pick_le true h k = h
pick_le false h k = k

mate_le : (p : Pair Float) → mate_count p ≤ 7
unfolding mate_count
mate_le (planes a na b nb) = omega arith
mate_le (lines a da b db) = omega arith
mate_le (points a b) = omega arith
mate_le (plane_point p n q) = omega arith
mate_le (line_point p d q) = omega arith
mate_le (plane_line p n q d) = omega arith
mate_le other = omega arith

tangent_le : (p : Pair Float) → tangent_count p ≤ 7
unfolding tangent_count
tangent_le (planes a na b nb) = omega arith
tangent_le (lines a da b db) = omega arith
tangent_le (points a b) = omega arith
tangent_le (plane_point p n q) = omega arith
tangent_le (line_point p d q) = omega arith
tangent_le (plane_line p n q d) = omega arith
tangent_le other = omega arith

mirror_le : (p : Pair Float) → mirror_count p ≤ 7
unfolding mirror_count
mirror_le (planes a na b nb) = omega arith
mirror_le (lines a da b db) = omega arith
mirror_le (points a b) = omega arith
mirror_le (plane_point p n q) = omega arith
mirror_le (line_point p d q) = omega arith
mirror_le (plane_line p n q d) = omega arith
mirror_le other = omega arith

joint_le : (kind : JointKind) → joint_count kind ≤ 7
unfolding joint_count
joint_le Rigid = omega arith
joint_le Revolute = omega arith
joint_le Slider = omega arith
joint_le Cylindrical = omega arith
joint_le Planar = omega arith
joint_le Ball = omega arith

pub row_count_le : (law : Law) (a b : Geo Float) → row_count law a b ≤ 7
unfolding row_count
row_count_le (mate off) a b = mate_le (pair (mate_prim a) (mate_prim b))
row_count_le (flush off) a b = pick_le (is_plane a && is_plane b) (omega arith) (omega arith)
row_count_le (angle want reference) a b = pick_le (has_direction a && has_direction b) (omega arith) (omega arith)
row_count_le (insert off aligned) a b = pick_le (is_circle a && is_circle b) (omega arith) (omega arith)
row_count_le (tangent off inside) a b = tangent_le (pair a b)
row_count_le (symmetry p) a b = pick_le (is_plane p.prim) (mirror_le (pair (mate_prim a) (mate_prim b))) (omega arith)
row_count_le (joint kind flip off want) a b = joint_le kind
row_count_le (gear teeth_a teeth_b want carrier) a b = omega arith

-- seven rows or fewer are packed whole
pub rows_packed : (l : List Float) → length l ≤ 7 → rows_of (pack l) ≡ l
unfolding rows_of pack
rows_packed [] h = refl
rows_packed (a ∷ []) h = refl
rows_packed (a ∷ b ∷ []) h = refl
rows_packed (a ∷ b ∷ c ∷ []) h = refl
rows_packed (a ∷ b ∷ c ∷ d ∷ []) h = refl
rows_packed (a ∷ b ∷ c ∷ d ∷ e ∷ []) h = refl
rows_packed (a ∷ b ∷ c ∷ d ∷ e ∷ f ∷ []) h = refl
rows_packed (a ∷ b ∷ c ∷ d ∷ e ∷ f ∷ g ∷ []) h = refl
rows_packed (a ∷ b ∷ c ∷ d ∷ e ∷ f ∷ g ∷ h ∷ l) k = absurd (omega arith)

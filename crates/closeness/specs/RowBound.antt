-- The row bound: how far a relation's error on doubles can stand from its unrounded rows, for which relations and at which poses. Document 01, "The words of demand 3",
-- and "The sheet" for the limits. Definitions and statements; proofs/RowBoundLaws.antt has the proofs, `row_bound` and `error_bound`.
use Rattle.std.specs.Prelude.{◌≡◌, ℕ, ◌^◌, Bool, true, false, ◌&&◌, ◌||◌, List, get_or, Float}
use Rattle.std.specs.Float.{binary64}
use Rattle.std.specs.Float.Ieee.{of_bits}
use Rattle.numbers.specs.Frac.{Frac}
use Rattle.numbers.specs.Ops.{fractions}
use Rattle.numbers.specs.MaxAbs.{max_abs, largest_q}
use Rattle.numbers.specs.Differs.{DiffersByAtMost}
use Rattle.relations.specs.Geometry.{Geo, plane, line, point, circle, Pose}
use Rattle.relations.specs.Model.{End, Law, mate, flush, angle, insert, tangent, symmetry, joint, gear, Rel}
use Rattle.relations.specs.Rows.{is_plane, formula_rows, residual, ground_pose}
use Rattle.records.specs.Limits.{UNIT_LIMIT, THOUSAND, within, within_v}
use Rattle.scene.specs.Solve.{third_body, names, end_pose, rows_at}

-- ---- the limits, beside those of a sheet's doubles

-- 4096: for the position entries of a pose; its turning entries go by 1.01
abbrev pub POSITION_LIMIT : Float
POSITION_LIMIT = of_bits binary64 0x40B0_0000_0000_0000

-- the bound, 0.0000001, is one over this
abbrev pub TEN_MILLION : ℕ
TEN_MILLION = 10 ^ 7

-- ---- poses and relations within them

-- turning entries up to 1.01 and position entries up to 4096 in magnitude
unfoldable pub small_pose : Pose Float → Bool
unfolding within_v
small_pose q = within_v UNIT_LIMIT q.r.r0 && (within_v UNIT_LIMIT q.r.r1 && (within_v UNIT_LIMIT q.r.r2 && within_v POSITION_LIMIT q.t))

-- directions up to 1.01, points and radii up to 1000
unfoldable pub small_geo : Geo Float → Bool
unfolding within_v
small_geo (plane p n) = within_v THOUSAND p && within_v UNIT_LIMIT n
small_geo (line p d) = within_v THOUSAND p && within_v UNIT_LIMIT d
small_geo (point p) = within_v THOUSAND p
small_geo (circle c n r) = within_v THOUSAND c && (within_v UNIT_LIMIT n && within THOUSAND r)

unfoldable pub small_end : End → Bool
unfolding small_geo
small_end e = small_geo e.prim && within THOUSAND e.radius

-- offset and angle up to 1000, the reference up to 1.01, symmetry's plane and a gear's carrier as any end
unfoldable pub small_law : Law → Bool
unfolding small_end
small_law (mate off) = within THOUSAND off
small_law (flush off) = within THOUSAND off
small_law (angle want reference) = within THOUSAND want && within_v UNIT_LIMIT reference
small_law (insert off aligned) = within THOUSAND off
small_law (tangent off inside) = within THOUSAND off
small_law (symmetry p) = small_end p
small_law (joint kind flip off want) = within THOUSAND off && within THOUSAND want
small_law (gear teeth_a teeth_b want carrier) = within THOUSAND want && small_end carrier

-- a relation within the sheet's limits
unfoldable pub small_rel : Rel → Bool
unfolding small_law
small_rel rel = small_law rel.law && (small_end rel.a && small_end rel.b)

-- The laws that the bound is for: mate, flush, insert, symmetry, and a tangent with a plane, which has a plane as its end a or b (document 01's term). Their rows are
-- sums, differences, products and the larger of two, so that they can be worked in fractions.
unfoldable pub exact_law : Law → End → End → Bool
unfolding is_plane
exact_law (mate off) a b = true
exact_law (flush off) a b = true
exact_law (angle want reference) a b = false
exact_law (insert off aligned) a b = true
exact_law (tangent off inside) a b = is_plane a.prim || is_plane b.prim
exact_law (symmetry p) a b = true
exact_law (joint kind flip off want) a b = false
exact_law (gear teeth_a teeth_b want carrier) a b = false

-- ---- what a relation's error is held against

-- The unrounded rows of a relation at these poses (document 01's term): `rows_at`, every double taken as the fraction that it is, every operation exact.
unfoldable pub unrounded_rows : List (Pose Float) → Rel → List Frac
unfolding formula_rows
unrounded_rows poses rel =
    formula_rows fractions rel.law rel.a rel.b (end_pose poses rel.a.body) (end_pose poses rel.b.body) (end_pose poses (third_body rel.law))

-- their largest magnitude, 0 for none
unfoldable pub unrounded_error : List (Pose Float) → Rel → Frac
unfolding unrounded_rows
unrounded_error poses rel = largest_q (unrounded_rows poses rel)

-- ---- the statements

-- For ends a and b at the poses qa and qb, symmetry's plane at qs: the largest magnitude among the rows on doubles is a number, and differs by at most 0.0000001 from the
-- largest magnitude among the same rows in fractions. An unsuited pair has no rows, and 0 on both sides.
abbrev pub RowBound : Type 0
RowBound =
    (law : Law) (a b : End) (qa qb qs : Pose Float)
    → exact_law law a b ≡ true → small_law law ≡ true → small_end a ≡ true → small_end b ≡ true → small_pose qa ≡ true → small_pose qb ≡ true → small_pose qs ≡ true
    → DiffersByAtMost TEN_MILLION (max_abs (residual law a b qa qb qs)) (largest_q (formula_rows fractions law a b qa qb qs))

-- The same of a relation whose ends' bodies, symmetry's plane's too, have their poses in a list. The ground has the pose `ground_pose`.
abbrev pub ErrorBound : Type 0
ErrorBound =
    (rel : Rel) (poses : List (Pose Float))
    → exact_law rel.law rel.a rel.b ≡ true → small_rel rel ≡ true → ((i : ℕ) → names rel i ≡ true → small_pose (get_or poses i ground_pose) ≡ true)
    → DiffersByAtMost TEN_MILLION (max_abs (rows_at poses rel)) (unrounded_error poses rel)

-- The row bound. The rows, read on numbers that carry a double, a fraction and the proof that they are near, are their own proof: one line for each law and pair, its bound
-- computed and compared. Assumes nothing.
use mathlib.Core.Path.{◌≡◌, refl, sym, subst}
use Prim.Native.Nat.{ℕ, ◌+◌, ◌*◌, ◌/◌}
use native.Mathlib.Nat.{lt-div-mul-add}
use native.Mathlib.Omega.{arith}
use mathlib.Core.Bool.{Bool, true, false, ◌||◌, cond}
use mathlib.Core.List.{List, map}
use mathlib.Core.Option.{Option, none, some}
use lib.ListN.{get_or}
use lib.Dec.{T, eqb, eqb_refl}
use lib.Ieee.{Float, nan, inf, fin, up, down, le, of_bits}
use lib.Ieee.Bits.{is_true}
use lib.Ieee.Fits.{and_l, and_r, down_pos}
use Rattle.numbers.specs.Double.{abs}
use Rattle.numbers.specs.Frac.{Frac, frac_of}
use Rattle.numbers.specs.Ops.{doubles, fractions}
use Rattle.numbers.proofs.DiffersLaws.{within_differs}
use Rattle.numbers.specs.Near.{S, add_bound, mul_bound}
use Rattle.numbers.proofs.Largest.{AllWithin, within_largest}
use Rattle.numbers.specs.Bound.{Small, const_bound}
use Rattle.numbers.proofs.BoundLaws.{Bounded, bounded, input, small_of_le, all_good, all_within_lem}
use Rattle.vectors.specs.Vec.{Vec}
use Rattle.vectors.specs.Math.{apply}
use Rattle.relations.specs.Geometry.{Geo, plane, line, point, circle, Pose, pose_of, place, placed}
use Rattle.relations.specs.Model.{End, Law, mate, flush, angle, insert, tangent, symmetry, joint, gear}
use Rattle.relations.specs.Rows.{mate_prim, mate_rows, flush_rows, insert_rows, plane_gap, plane_tangent_rows, symmetry_rows, formula_rows, is_plane, tangent_rows, residual, ground_pose}
use Rattle.scene.specs.Solve.{is_body, third_body, names, end_pose}
use Rattle.records.specs.Limits.{UNIT_LIMIT, THOUSAND, within, within_v}
use Rattle.closeness.specs.RowBound.{POSITION_LIMIT, TEN_MILLION, small_pose, small_geo, small_end, small_law, small_rel, exact_law, unrounded_rows, unrounded_error, RowBound, ErrorBound}

-- ---- from tests to sizes

holds : {b : Bool} → b ≡ true → T b
holds e = subst (λ (b : Bool). T b) (sym e) tt

abbrev positive : Float → Bool
positive nan = false
positive (inf s) = false
positive (fin s m e) = cond s false true

-- a limit in units of 1 / S
abbrev units : Float → ℕ
units limit = (const_bound limit).most

up_to : (limit : Float) → T (positive limit) → (x : Float) → T (within limit x) → Small (units limit) x
unfolding within const_bound
up_to nan p x t = absurd p
up_to (inf s) p x t = absurd p
up_to (fin true n d) p x t = absurd p
up_to (fin false n d) p x t = let h = lt-div-mul-add {a = n * up d * S} {b = down d} (down_pos d) in small_of_le x n d (n * up d * S / down d + 1) t (omega arith)

unit_positive : T (positive UNIT_LIMIT)
unfolding of_bits
unit_positive = tt

position_positive : T (positive POSITION_LIMIT)
unfolding of_bits
position_positive = tt

sheet_positive : T (positive THOUSAND)
unfolding of_bits
sheet_positive = tt

-- ---- inputs as numbers that carry their proof

vector_parts : (limit : Float) (v : Vec Float) → T (within_v limit v) → T (within limit v.x) × T (within limit v.y) × T (within limit v.z)
unfolding within_v
vector_parts limit v t =
    let r = and_r (within limit v.x) _ t in
    (and_l (within limit v.x) _ t, and_l (within limit v.y) _ r, and_r (within limit v.y) _ r)

pose_parts : (q : Pose Float) → T (small_pose q) → T (within_v UNIT_LIMIT q.r.r0) × T (within_v UNIT_LIMIT q.r.r1) × T (within_v UNIT_LIMIT q.r.r2) × T (within_v POSITION_LIMIT q.t)
unfolding small_pose
pose_parts q t =
    let r = and_r (within_v UNIT_LIMIT q.r.r0) _ t in
    let s = and_r (within_v UNIT_LIMIT q.r.r1) _ r in
    (and_l (within_v UNIT_LIMIT q.r.r0) _ t, and_l (within_v UNIT_LIMIT q.r.r1) _ r, and_l (within_v UNIT_LIMIT q.r.r2) _ s, and_r (within_v UNIT_LIMIT q.r.r2) _ s)

abbrev number : (limit : Float) → T (positive limit) → (x : Float) → T (within limit x) → Bounded
number limit p x t = input (units limit) x (up_to limit p x t)

abbrev vector : (limit : Float) → T (positive limit) → (v : Vec Float) → T (within_v limit v) → Vec Bounded
vector limit p v t =
    let h = vector_parts limit v t in
    record { x = number limit p v.x h.0; y = number limit p v.y h.1; z = number limit p v.z h.2 }

abbrev unit : (v : Vec Float) → T (within_v UNIT_LIMIT v) → Vec Bounded
unit = vector UNIT_LIMIT unit_positive

abbrev posed : (q : Pose Float) → T (small_pose q) → Pose Bounded
posed q t =
    let h = pose_parts q t in
    record { r = record { r0 = unit q.r.r0 h.0; r1 = unit q.r.r1 h.1; r2 = unit q.r.r2 h.2 }; t = vector POSITION_LIMIT position_positive q.t h.3 }

abbrev sheet : (x : Float) → T (within THOUSAND x) → Bounded
sheet = number THOUSAND sheet_positive

-- `placed`
abbrev point_at : (q : Pose Float) → T (small_pose q) → (v : Vec Float) → T (within_v THOUSAND v) → Vec Bounded
point_at q h v t = place bounded (posed q h) (vector THOUSAND sheet_positive v t)

abbrev direction_at : (q : Pose Float) → T (small_pose q) → (v : Vec Float) → T (within_v UNIT_LIMIT v) → Vec Bounded
direction_at q h v t = apply bounded (posed q h).r (unit v t)

abbrev at : (q : Pose Float) → T (small_pose q) → (g : Geo Float) → T (small_geo g) → Geo Bounded
unfolding small_geo
at q h (plane p n) t = plane (point_at q h p (and_l (within_v THOUSAND p) _ t)) (direction_at q h n (and_r (within_v THOUSAND p) _ t))
at q h (line p d) t = line (point_at q h p (and_l (within_v THOUSAND p) _ t)) (direction_at q h d (and_r (within_v THOUSAND p) _ t))
at q h (point p) t = point (point_at q h p t)
at q h (circle c n r) t =
    let s = and_r (within_v THOUSAND c) _ t in
    circle (point_at q h c (and_l (within_v THOUSAND c) _ t)) (direction_at q h n (and_l (within_v UNIT_LIMIT n) _ s)) (sheet r (and_r (within_v UNIT_LIMIT n) _ s))

-- ---- every law and pair

abbrev Close : List Float → List Frac → Type 0
Close = AllWithin TEN_MILLION 1

abbrev close : (l : List Bounded) → T (all_good TEN_MILLION l) → Close (map (λ a. a.double) l) (map (λ a. a.frac) l)
close = all_within_lem TEN_MILLION

module _ (qa qb : Pose Float) (ha : T (small_pose qa)) (hb : T (small_pose qb)) where
  abbrev mate_at : (off : Float) (p s : Geo Float) → T (within THOUSAND off) → T (small_geo p) → T (small_geo s) → List Bounded
  unfolding at mate_prim mate_rows
  mate_at off p s w h k = mate_rows bounded (sheet off w) (mate_prim (at qa ha p h)) (mate_prim (at qb hb s k))

  mates : (off : Float) (p s : Geo Float) → T (within THOUSAND off) → T (small_geo p) → T (small_geo s)
      → Close (mate_rows doubles off (mate_prim (placed doubles qa p)) (mate_prim (placed doubles qb s)))
      (mate_rows fractions (frac_of off) (mate_prim (placed fractions (pose_of fractions qa) p)) (mate_prim (placed fractions (pose_of fractions qb) s)))
  unfolding mate_at placed const_bound add_bound mul_bound of_bits
  mates off (plane p n) (plane r m) w h k = close (mate_at off (plane p n) (plane r m) w h k) tt
  mates off (plane p n) (line r m) w h k = close (mate_at off (plane p n) (line r m) w h k) tt
  mates off (plane p n) (point r) w h k = close (mate_at off (plane p n) (point r) w h k) tt
  mates off (plane p n) (circle r m z) w h k = close (mate_at off (plane p n) (circle r m z) w h k) tt
  mates off (line p n) (plane r m) w h k = close (mate_at off (line p n) (plane r m) w h k) tt
  mates off (line p n) (line r m) w h k = close (mate_at off (line p n) (line r m) w h k) tt
  mates off (line p n) (point r) w h k = close (mate_at off (line p n) (point r) w h k) tt
  mates off (line p n) (circle r m z) w h k = close (mate_at off (line p n) (circle r m z) w h k) tt
  mates off (point p) (plane r m) w h k = close (mate_at off (point p) (plane r m) w h k) tt
  mates off (point p) (line r m) w h k = close (mate_at off (point p) (line r m) w h k) tt
  mates off (point p) (point r) w h k = close (mate_at off (point p) (point r) w h k) tt
  mates off (point p) (circle r m z) w h k = close (mate_at off (point p) (circle r m z) w h k) tt
  mates off (circle p n y) (plane r m) w h k = close (mate_at off (circle p n y) (plane r m) w h k) tt
  mates off (circle p n y) (line r m) w h k = close (mate_at off (circle p n y) (line r m) w h k) tt
  mates off (circle p n y) (point r) w h k = close (mate_at off (circle p n y) (point r) w h k) tt
  mates off (circle p n y) (circle r m z) w h k = close (mate_at off (circle p n y) (circle r m z) w h k) tt

  flushes : (off : Float) (p s : Geo Float) → T (within THOUSAND off) → T (small_geo p) → T (small_geo s)
      → Close (flush_rows doubles off (placed doubles qa p) (placed doubles qb s)) (flush_rows fractions (frac_of off) (placed fractions (pose_of fractions qa) p) (placed fractions (pose_of fractions qb) s))
  unfolding at flush_rows placed const_bound add_bound mul_bound of_bits
  flushes off (plane p n) (plane r m) w h k = close (flush_rows bounded (sheet off w) (at qa ha (plane p n) h) (at qb hb (plane r m) k)) tt
  flushes off (plane p n) (line r m) w h k = tt
  flushes off (plane p n) (point r) w h k = tt
  flushes off (plane p n) (circle r m z) w h k = tt
  flushes off (line p n) s w h k = tt
  flushes off (point p) s w h k = tt
  flushes off (circle p n y) s w h k = tt

  inserts : (off : Float) (aligned : Bool) (p s : Geo Float) → T (within THOUSAND off) → T (small_geo p) → T (small_geo s)
      → Close (insert_rows doubles off aligned (placed doubles qa p) (placed doubles qb s))
      (insert_rows fractions (frac_of off) aligned (placed fractions (pose_of fractions qa) p) (placed fractions (pose_of fractions qb) s))
  unfolding at insert_rows placed const_bound add_bound mul_bound of_bits
  inserts off aligned (plane p n) s w h k = tt
  inserts off aligned (line p n) s w h k = tt
  inserts off aligned (point p) s w h k = tt
  inserts off aligned (circle p n y) (plane r m) w h k = tt
  inserts off aligned (circle p n y) (line r m) w h k = tt
  inserts off aligned (circle p n y) (point r) w h k = tt
  inserts off true (circle p n y) (circle r m z) w h k = close (insert_rows bounded (sheet off w) true (at qa ha (circle p n y) h) (at qb hb (circle r m z) k)) tt
  inserts off false (circle p n y) (circle r m z) w h k = close (insert_rows bounded (sheet off w) false (at qa ha (circle p n y) h) (at qb hb (circle r m z) k)) tt

  module _ (ra rb : Float) (ka : T (within THOUSAND ra)) (kb : T (within THOUSAND rb)) where
    abbrev tangent_at : (off : Float) (inside : Bool) (p s : Geo Float) → T (within THOUSAND off) → T (small_geo p) → T (small_geo s) → List Bounded
    unfolding at plane_tangent_rows plane_gap
    tangent_at off inside p s w h k = plane_tangent_rows bounded (plane_gap bounded (sheet ra ka) (sheet rb kb) (sheet off w) inside) (at qa ha p h) (at qb hb s k)

    tangents : (off : Float) (inside : Bool) (p s : Geo Float) → T (within THOUSAND off) → T (small_geo p) → T (small_geo s)
        → Close (plane_tangent_rows doubles (plane_gap doubles ra rb off inside) (placed doubles qa p) (placed doubles qb s))
        (plane_tangent_rows fractions (plane_gap fractions (frac_of ra) (frac_of rb) (frac_of off) inside) (placed fractions (pose_of fractions qa) p) (placed fractions (pose_of fractions qb) s))
    unfolding tangent_at placed const_bound add_bound mul_bound of_bits
    tangents off i (plane p n) (plane r m) w h k = tt
    tangents off true (plane p n) (line r m) w h k = close (tangent_at off true (plane p n) (line r m) w h k) tt
    tangents off false (plane p n) (line r m) w h k = close (tangent_at off false (plane p n) (line r m) w h k) tt
    tangents off true (plane p n) (point r) w h k = close (tangent_at off true (plane p n) (point r) w h k) tt
    tangents off false (plane p n) (point r) w h k = close (tangent_at off false (plane p n) (point r) w h k) tt
    tangents off i (plane p n) (circle r m z) w h k = tt
    tangents off true (line p n) (plane r m) w h k = close (tangent_at off true (line p n) (plane r m) w h k) tt
    tangents off false (line p n) (plane r m) w h k = close (tangent_at off false (line p n) (plane r m) w h k) tt
    tangents off i (line p n) (line r m) w h k = tt
    tangents off i (line p n) (point r) w h k = tt
    tangents off i (line p n) (circle r m z) w h k = tt
    tangents off true (point p) (plane r m) w h k = close (tangent_at off true (point p) (plane r m) w h k) tt
    tangents off false (point p) (plane r m) w h k = close (tangent_at off false (point p) (plane r m) w h k) tt
    tangents off i (point p) (line r m) w h k = tt
    tangents off i (point p) (point r) w h k = tt
    tangents off i (point p) (circle r m z) w h k = tt
    tangents off i (circle p n y) s w h k = tt

  module _ (qs : Pose Float) (hs : T (small_pose qs)) where
    abbrev mirror_at : (c p s : Geo Float) → T (small_geo c) → T (small_geo p) → T (small_geo s) → List Bounded
    unfolding at mate_prim symmetry_rows
    mirror_at c p s g h k = symmetry_rows bounded (at qs hs c g) (mate_prim (at qa ha p h)) (mate_prim (at qb hb s k))

    mirrors : (c p s : Geo Float) → T (small_geo c) → T (small_geo p) → T (small_geo s)
        → Close (symmetry_rows doubles (placed doubles qs c) (mate_prim (placed doubles qa p)) (mate_prim (placed doubles qb s)))
        (symmetry_rows fractions (placed fractions (pose_of fractions qs) c) (mate_prim (placed fractions (pose_of fractions qa) p)) (mate_prim (placed fractions (pose_of fractions qb) s)))
    unfolding mirror_at placed const_bound add_bound mul_bound of_bits
    mirrors (line u v) p s g h k = tt
    mirrors (point u) p s g h k = tt
    mirrors (circle u v x) p s g h k = tt
    mirrors (plane u v) (plane p n) (plane r m) g h k = close (mirror_at (plane u v) (plane p n) (plane r m) g h k) tt
    mirrors (plane u v) (plane p n) (line r m) g h k = tt
    mirrors (plane u v) (plane p n) (point r) g h k = tt
    mirrors (plane u v) (plane p n) (circle r m z) g h k = tt
    mirrors (plane u v) (line p n) (plane r m) g h k = tt
    mirrors (plane u v) (line p n) (line r m) g h k = close (mirror_at (plane u v) (line p n) (line r m) g h k) tt
    mirrors (plane u v) (line p n) (point r) g h k = tt
    mirrors (plane u v) (line p n) (circle r m z) g h k = close (mirror_at (plane u v) (line p n) (circle r m z) g h k) tt
    mirrors (plane u v) (point p) (plane r m) g h k = tt
    mirrors (plane u v) (point p) (line r m) g h k = tt
    mirrors (plane u v) (point p) (point r) g h k = close (mirror_at (plane u v) (point p) (point r) g h k) tt
    mirrors (plane u v) (point p) (circle r m z) g h k = tt
    mirrors (plane u v) (circle p n y) (plane r m) g h k = tt
    mirrors (plane u v) (circle p n y) (line r m) g h k = close (mirror_at (plane u v) (circle p n y) (line r m) g h k) tt
    mirrors (plane u v) (circle p n y) (point r) g h k = tt
    mirrors (plane u v) (circle p n y) (circle r m z) g h k = close (mirror_at (plane u v) (circle p n y) (circle r m z) g h k) tt

-- ---- the rows of a relation

end_parts : (e : End) → T (small_end e) → T (small_geo e.prim) × T (within THOUSAND e.radius)
unfolding small_end
end_parts e t = (and_l (small_geo e.prim) _ t, and_r (small_geo e.prim) _ t)

plane_placed : (q : Pose Float) (g : Geo Float) → is_plane (placed doubles q g) ≡ is_plane g
unfolding placed is_plane
plane_placed q (plane p n) = refl
plane_placed q (line p d) = refl
plane_placed q (point p) = refl
plane_placed q (circle c n r) = refl

module _ (a b : End) (qa qb qs : Pose Float) where
  -- on doubles, the rows are those of the formulas
  pub same_rows : (law : Law) → exact_law law a b ≡ true → residual law a b qa qb qs ≡ formula_rows doubles law a b qa qb qs
  unfolding exact_law residual formula_rows tangent_rows
  same_rows (mate off) x = refl
  same_rows (flush off) x = refl
  same_rows (angle want reference) x = absurd (holds x)
  same_rows (insert off aligned) x = refl
  same_rows (tangent off inside) x = rw (plane_placed qa a.prim, plane_placed qb b.prim, x)
  same_rows (symmetry p) x = refl
  same_rows (joint kind flip off want) x = absurd (holds x)
  same_rows (gear teeth_a teeth_b want carrier) x = absurd (holds x)

  module _ (ea : T (small_end a)) (eb : T (small_end b)) (ha : T (small_pose qa)) (hb : T (small_pose qb)) (hs : T (small_pose qs)) where
    formulas_close : (law : Law) → T (small_law law) → Close (formula_rows doubles law a b qa qb qs) (formula_rows fractions law a b qa qb qs)
    unfolding small_law formula_rows
    formulas_close (mate off) w = mates qa qb ha hb off a.prim b.prim w (end_parts a ea).0 (end_parts b eb).0
    formulas_close (flush off) w = flushes qa qb ha hb off a.prim b.prim w (end_parts a ea).0 (end_parts b eb).0
    formulas_close (angle want reference) w = tt
    formulas_close (insert off aligned) w = inserts qa qb ha hb off aligned a.prim b.prim w (end_parts a ea).0 (end_parts b eb).0
    formulas_close (tangent off inside) w =
        tangents qa qb ha hb a.radius b.radius (end_parts a ea).1 (end_parts b eb).1 off inside a.prim b.prim w (end_parts a ea).0 (end_parts b eb).0
    formulas_close (symmetry p) w = mirrors qa qb ha hb qs hs p.prim a.prim b.prim (end_parts p w).0 (end_parts a ea).0 (end_parts b eb).0
    formulas_close (joint kind flip off want) w = tt
    formulas_close (gear teeth_a teeth_b want carrier) w = tt

pub row_bound : RowBound
row_bound law a b qa qb qs x w ea eb ha hb hs =
    rw (same_rows a b qa qb qs law x)
    (within_differs TEN_MILLION _ _
    (within_largest TEN_MILLION 1 (formula_rows doubles law a b qa qb qs) (formula_rows fractions law a b qa qb qs)
    (formulas_close a b qa qb qs (holds ea) (holds eb) (holds ha) (holds hb) (holds hs) law (holds w))))

-- ---- poses by body

pub ground_small : small_pose ground_pose ≡ true
unfolding small_pose within of_bits abs le
ground_small = refl

module _ (poses : List (Pose Float)) where
  end_small : (body : Option ℕ) → ((i : ℕ) → is_body body i ≡ true → small_pose (get_or poses i ground_pose) ≡ true) → small_pose (end_pose poses body) ≡ true
  end_small none h = ground_small
  end_small (some i) h = h i (is_true (eqb i i) (eqb_refl i))

or_left : (a b : Bool) → a ≡ true → (a || b) ≡ true
or_left true b e = refl
or_left false b e = absurd (holds e)

or_right : (a b : Bool) → b ≡ true → (a || b) ≡ true
or_right true b e = refl
or_right false b e = e

pub error_bound : ErrorBound
unfolding small_rel unrounded_error unrounded_rows names
error_bound rel poses x w h =
    let s = and_r (small_law rel.law) _ (holds w) in
    row_bound rel.law rel.a rel.b (end_pose poses rel.a.body) (end_pose poses rel.b.body) (end_pose poses (third_body rel.law)) x
    (is_true (small_law rel.law) (and_l (small_law rel.law) _ (holds w))) (is_true (small_end rel.a) (and_l (small_end rel.a) _ s)) (is_true (small_end rel.b) (and_r (small_end rel.a) _ s))
    (end_small poses rel.a.body (λ i e. h i (or_left (is_body rel.a.body i) _ e)))
    (end_small poses rel.b.body (λ i e. h i (or_right (is_body rel.a.body i) _ (or_left (is_body rel.b.body i) _ e))))
    (end_small poses (third_body rel.law) (λ i e. h i (or_right (is_body rel.a.body i) _ (or_right (is_body rel.b.body i) _ e))))

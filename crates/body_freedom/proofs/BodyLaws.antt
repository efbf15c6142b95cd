-- The free motions, slides and turns of a body taken one after another from arrays, and the doubles that they are. By the library's laws on `take`, `drop` and `set`.
-- Assumes nothing.
use Prim.Native.Nat.{ℕ, zero, suc, ◌+◌, ◌*◌, ◌-◌, ◌<◌, ◌≤◌}
use mathlib.Core.Path.{◌≡◌, refl, sym, ap, subst, ◌∙◌}
use mathlib.Core.Bool.{Bool, true, false, cond, ◌&&◌}
use mathlib.Core.List.{List, [], ◌∷◌, ◌++◌, map, map-append, append-nil}
use mathlib.Core.Option.{Option, none, some}
use native.Mathlib.Omega.{arith}
use native.Mathlib.Numerals.{add-one}
use lib.ListN.{length, drop_of_length-le, get_or, set, take, drop, replicate, length-append, length-map, length-take, length-replicate}
use lib.Seq.{drop-cons, take_all, take_at, length-take-le, take-suc, take-suc-set}
use lib.Ieee.{Float, nan, binary64, div, lt, of_bits}
use lib.Dec.{ltb}
use borrow.Author.Tests.{ltb-true, lt-ltb, le-ltb}
use Rattle.std.specs.List.{fold, list_all}
use Rattle.numbers.specs.Ops.{doubles}
use Rattle.numbers.specs.Double.{zero64, one64, abs, fmax, before}
use Rattle.vectors.specs.declared.vec.Vec3.{Vec3}
use Rattle.spans.specs.declared.eigen6.Eigen6.{Eigen6}
use Rattle.spans.specs.declared.span.Basis.{Basis}
use Rattle.vectors.specs.Vec.{Vec, vec, zero_v, add_v, scale_v, dot, cross, normalized}
use Rattle.eigen.specs.Sort.{sort}
use Rattle.eigen.specs.Eigen.{Turned, turned, unit_to, sweeps, Eigen, column, pairs, lower, sym_eigen}
use Rattle.spans.specs.Eigen6.{eigen6, none6, past6, eigens6}
use Rattle.spans.specs.Flat.{flat}
use Rattle.spans.specs.Span.{span_basis}
use Rattle.spans.specs.Sorted.{unsorted}
use Rattle.spans.proofs.SortedLaws.{span_few}
use Rattle.spans.specs.Basis.{first, vec3, basis, basis_of, past3}
use Rattle.spans.proofs.Flat.{Grid, length_flat, flat_at}
use Rattle.eigen.proofs.Sorting.{fill_step, length_sort, sort_map}
use Rattle.eigen.proofs.SweepLaws.{length_pairs}
use Rattle.scene.specs.Scene.{Put}
use Rattle.least_squares.proofs.TableLaws.{table_ext}
use Rattle.body_freedom.specs.Dof.{Turn, Freedom, square_of, largest_value, top, is_free, free_of, slide_part, turn_part, about_axis, most_about, turn_point, turn_about, apart, extra_slide, join_slide, fill_slides, SPAN, corner, body_dof}
use Rattle.body_freedom.specs.declared.body.Free.{Free}
use Rattle.body_freedom.specs.declared.body.Freedom.{Freedom as FreedomStruct}
use Rattle.body_freedom.specs.Layout.{count_double, slides_doubles, turns_doubles, padded, freedom_doubles}
use Rattle.body_freedom.specs.Motions.{motions}
use Rattle.body_freedom.specs.BodyFreedom.{from_square, eigen_of, eigens_of, motion_of, point_about, is_extra, axis_of, point_of, three_of, freedom_struct, three_doubles, turn_doubles, struct_doubles}

-- a body's freedom is that of the square of its slopes
pub body_dof_is : (jac : List Float) (rows : ℕ) (center : Vec Float) (l : Float) → body_dof jac rows center l ≡ from_square (square_of jac rows 6) center l
unfolding body_dof from_square
body_dof_is jac rows center l = refl

-- ---- the first k entries of an array, one after another

module _ {A B : Type 0} (f : A → B) (k : ℕ) (xs : List A) (d : A) (fits : k ≤ length xs) where
  pub length_first : length (map f (take k xs)) ≡ k
  length_first = length-map (take k xs) f ∙ length-take-le k xs fits

first_suc : {A B : Type 0} (f : A → B) (i : ℕ) (xs : List A) (d : A) → i < length xs → map f (take (i + 1) xs) ≡ map f (take i xs) ++ (f (get_or xs i d) ∷ [])
first_suc f i xs d h = rw (add-one, take-suc xs i d h) (map-append f (take i xs) (get_or xs i d ∷ []))

pub first_set : {A B : Type 0} (f : A → B) (i : ℕ) (xs : List A) (x : A) → i < length xs → map f (take (i + 1) (set xs i x)) ≡ map f (take i xs) ++ (f x ∷ [])
first_set f i xs x h = rw (add-one, take-suc-set xs i x h) (map-append f (take i xs) (x ∷ []))

-- ---- free motions

pub largest_fold : (m : Float) (l : List Eigen6) → fold (λ n p. fmax n p.value) m l ≡ largest_value m (map eigen_of l)
unfolding largest_value
largest_fold m [] = refl
largest_fold m (p ∷ l) = largest_fold (fmax m p.value) l

free_snoc : (most : Float) (l : List Eigen) (e : Eigen)
    → free_of most (l ++ (e ∷ [])) ≡ cond (is_free most e.value) (free_of most l ++ (e.vector ∷ [])) (free_of most l)
unfolding free_of
free_snoc most [] e = refl
free_snoc most (x ∷ l) e = go (is_free most x.value) (is_free most e.value) (free_snoc most l e)
  where
    go : (a b : Bool) → free_of most (l ++ (e ∷ [])) ≡ cond b (free_of most l ++ (e.vector ∷ [])) (free_of most l)
        → cond a (x.vector ∷ free_of most (l ++ (e ∷ []))) (free_of most (l ++ (e ∷ [])))
        ≡ cond b (cond a (x.vector ∷ free_of most l) (free_of most l) ++ (e.vector ∷ [])) (cond a (x.vector ∷ free_of most l) (free_of most l))
    go true true h = ap (λ (t : List (List Float)). x.vector ∷ t) h
    go true false h = ap (λ (t : List (List Float)). x.vector ∷ t) h
    go false true h = h
    go false false h = h

pub free_step : (most : Float) (e : List Eigen6) (i : ℕ) (f g : Free) → i < length e → motions f ≡ free_of most (eigens_of i e)
    → motions g ≡ cond (is_free most (get_or e i past6).value) (motions f ++ ((get_or e i past6).vector ∷ [])) (motions f)
    → motions g ≡ free_of most (eigens_of (i + 1) e)
free_step most e i f g h p q =
    q ∙ ap (λ (l : List (List Float)). cond (is_free most (get_or e i past6).value) (l ++ ((get_or e i past6).vector ∷ [])) l) p
    ∙ sym (ap (free_of most) (first_suc eigen_of i e past6 h) ∙ free_snoc most (eigens_of i e) (eigen_of (get_or e i past6)))

pub parts_step : (part : List Float → Vec Float) (pairs : List Eigen6) (out : List Vec3) (i : ℕ) (v : Vec3) → i < length pairs → i < length out
    → vec v ≡ part (get_or pairs i past6).vector → first i out ≡ map part (map motion_of (take i pairs))
    → first (i + 1) (set out i v) ≡ map part (map motion_of (take (i + 1) pairs))
parts_step part pairs out i v h k e f =
    rw (first_set vec i out v k, f, e, first_suc motion_of i pairs past6 h) (sym (map-append part (map motion_of (take i pairs)) ((get_or pairs i past6).vector ∷ [])))

-- ---- turns

module _ (axis : Vec Float) (ps : List Eigen6) (i : ℕ) (best : List Float) where
  pub most_step : (b : List Float) → i < length ps → b ≡ cond (before (about_axis axis (get_or ps i past6).vector) (about_axis axis best)) best (get_or ps i past6).vector
      → most_about axis best (map motion_of (drop i ps)) ≡ most_about axis b (map motion_of (drop (i + 1) ps))
  unfolding most_about
  most_step b h e = rw (add-one, drop-cons ps i past6 h, e)

  pub most_end : length ps ≤ i → most_about axis best (map motion_of (drop i ps)) ≡ best
  unfolding most_about
  most_end h = rw (drop_of_length-le ps h)

-- the point of a turn, step by step
module _ (center : Vec Float) (l : Float) (e : List Float) (p w : Vec Float) (w2 : Float) (is-turn : p ≡ turn_part e) (is-w : w ≡ scale_v doubles p (div binary64 one64 l))
    (is-w2 : w2 ≡ dot doubles w w) where
  abbrev rate : Vec Float
  rate = scale_v doubles (turn_part e) (div binary64 one64 l)

  abbrev offset : Vec Float
  offset = scale_v doubles (cross doubles rate (slide_part e)) (div binary64 one64 (dot doubles rate rate))

  rate_is : w ≡ rate
  rate_is = is-w ∙ ap (λ (u : Vec Float). scale_v doubles u (div binary64 one64 l)) is-turn

  square_is : w2 ≡ dot doubles rate rate
  square_is = is-w2 ∙ ap (λ (u : Vec Float). dot doubles u u) rate_is

  pub turn_point_some : (t x y r : Vec Float) → lt zero64 w2 ≡ true → t ≡ slide_part e → x ≡ cross doubles w t → y ≡ scale_v doubles x (div binary64 one64 w2) → r ≡ add_v doubles center y
      → r ≡ turn_point center l e
  unfolding turn_point
  turn_point_some t x y r test is-t is_x is_y is-r =
      let ex : x ≡ cross doubles rate (slide_part e) = is_x ∙ ap (λ (u : Vec Float). cross doubles u t) rate_is ∙ ap (λ (u : Vec Float). cross doubles rate u) is-t in
      let ey : y ≡ offset =
      is_y ∙ ap (λ (n : Float). scale_v doubles x (div binary64 one64 n)) square_is ∙ ap (λ (u : Vec Float). scale_v doubles u (div binary64 one64 (dot doubles rate rate))) ex in
      is-r ∙ ap (λ (u : Vec Float). add_v doubles center u) ey ∙ sym (ap (λ (b : Bool). cond b (add_v doubles center offset) center) (sym (ap (lt zero64) square_is) ∙ test))

  pub turn_point_none : lt zero64 w2 ≡ false → center ≡ turn_point center l e
  unfolding turn_point
  turn_point_none test = sym (ap (λ (b : Bool). cond b (add_v doubles center offset) center) (sym (ap (lt zero64) square_is) ∙ test))

module _ (center : Vec Float) (l : Float) (axis : Vec Float) where
  pub point_none : (ps : List Eigen6) → length ps < 1 → center ≡ point_about center l (map motion_of ps) axis
  unfolding turn_about
  point_none [] h = refl
  point_none (p ∷ ps) h = absurd (omega arith)

  pub point_some : (ps : List Eigen6) (e : List Float) (r : Vec Float) → 1 ≤ length ps → e ≡ most_about axis (get_or ps 0 past6).vector (map motion_of (take (length ps - 1) (drop 1 ps)))
      → r ≡ turn_point center l e → r ≡ point_about center l (map motion_of ps) axis
  unfolding turn_about
  point_some [] e r h is_e is_r = absurd (omega arith)
  point_some (p ∷ ps) e r h is_e is_r =
      let rest = take_all (length (p ∷ ps) - 1) ps (omega arith) in
      is_r ∙ ap (turn_point center l) (rw rest at is_e)

-- the points of the turns about the first i axes
abbrev pub points_to : Vec Float → Float → List (List Float) → List Vec3 → ℕ → List Vec3
points_to center l free axes i = map vec3 (map (point_about center l free) (first i axes)) ++ replicate (3 - i) (vec3 zero_v)

module _ (center : Vec Float) (l : Float) (free : List (List Float)) (axes : List Vec3) (few : length axes ≤ 3) where
  length_points : (i : ℕ) → i ≤ length axes → length (map vec3 (map (point_about center l free) (first i axes))) ≡ i
  length_points i h =
      length-map (map (point_about center l free) (first i axes)) vec3 ∙ length-map (first i axes) (point_about center l free) ∙ length-map (take i axes) vec
      ∙ length-take-le i axes (omega arith)

  pub length_points_to : (points : List Vec3) (i : ℕ) → i ≤ length axes → points ≡ points_to center l free axes i → length points ≡ 3
  length_points_to points i h e =
      let n = length_points i h in
      ap length e ∙ length-append (map vec3 (map (point_about center l free) (first i axes))) (replicate (3 - i) (vec3 zero_v)) ∙ rw (length_points i h, length-replicate (3 - i) (vec3 zero_v)) (omega arith)

  pub points_step : (points : List Vec3) (i : ℕ) (v : Vec3) → i < length axes → vec v ≡ point_about center l free (vec (get_or axes i past3)) → points ≡ points_to center l free axes i
      → set points i v ≡ points_to center l free axes (i + 1)
  points_step points i v h e f =
      let x = point_about center l free (vec (get_or axes i past3)) in
      let g : v ≡ vec3 x = ap vec3 e in
      rw (
        f,
        g,
        fill_step 3 i (map vec3 (map (point_about center l free) (first i axes))) (vec3 zero_v) (vec3 x) (length_points i (omega arith)) (omega arith),
        add-one,
        take-suc axes i past3 (omega arith),
        map-append vec (take i axes) (get_or axes i past3 ∷ []),
        map-append (point_about center l free) (first i axes) (vec (get_or axes i past3) ∷ []),
        map-append vec3 (map (point_about center l free) (first i axes)) (x ∷ []),
      )

  pub points_end : (points : List Vec3) (i : ℕ) → i ≡ length axes → points ≡ points_to center l free axes i → points ≡ three_of (map (point_about center l free) (map vec axes))
  points_end points i e f =
      let n : length (map (point_about center l free) (map vec axes)) ≡ length axes =
      length-map (map vec axes) (point_about center l free) ∙ length-map axes vec in
      rw n (rw (e, take_all (length axes) axes (omega arith)) at f)

-- ---- slides

-- below 0.99 along u
abbrev pub lean : Vec Float → Vec Float → Bool
lean d u = lt (abs (dot doubles d u)) (of_bits binary64 0x3FEF_AE14_7AE1_47AE)

-- along each
unfoldable pub lean_all : Vec Float → List (Vec Float) → Bool
lean_all d [] = true
lean_all d (u ∷ us) = lean d u && lean_all d us

pub apart_is : (v : Vec Float) (us : List (Vec Float)) → lean_all (normalized v) us ≡ apart v us
unfolding lean_all apart
apart_is v [] = refl
apart_is v (u ∷ us) = ap (λ (b : Bool). lean (normalized v) u && b) (apart_is v us)

pub lean_list : (d : Vec Float) (us : List Vec3) → list_all (λ u. lean d (vec u)) us ≡ lean_all d (map vec us)
unfolding lean_all
lean_list d [] = refl
lean_list d (u ∷ us) = ap (λ (b : Bool). lean d (vec u) && b) (lean_list d us)

vec_vec3 : (l : List (Vec Float)) → map vec (map vec3 l) ≡ l
vec_vec3 [] = refl
vec_vec3 (v ∷ l) = ap (λ (t : List (Vec Float)). v ∷ t) (vec_vec3 l)

-- the vectors of the basis of a list are the list
pub basis_of_lem : (l : List (Vec Float)) → basis (basis_of l) ≡ l
basis_of_lem l = rw (take_at (map vec3 l) (replicate (3 - length l) (vec3 zero_v)) (length l) (length-map l vec3)) (vec_vec3 l)

pub whole_of : (b : Basis) (l : List (Vec Float)) → b ≡ basis_of l → b ≡ basis_of (basis b)
whole_of b l e = e ∙ ap basis_of (sym (ap basis e ∙ basis_of_lem l))

module _ (b : Basis) (whole : b ≡ basis_of (basis b)) where
  pub count_is : b.count ≡ length (basis b)
  count_is = ap (λ (t : Basis). t.count) whole

  pub count_within : length b.vectors ≡ 3 → b.count ≤ 3
  count_within long =
      let e = count_is in
      omega (arith, length-map (take b.count b.vectors) vec, length-take b.count b.vectors)

  grown : (l : List (Vec Float)) (x : Vec Float) → length l < 3
      → record { count = length l + 1; vectors = set (map vec3 l ++ replicate (3 - length l) (vec3 zero_v)) (length l) (vec3 x) } ≡ basis_of (l ++ (x ∷ []))
  grown l x h =
      rw (
        length-append l (x ∷ []),
        fill_step 3 (length l) (map vec3 l) (vec3 zero_v) (vec3 x) (length-map l vec3) h,
        map-append vec3 l (x ∷ []),
        ← add-one (length l),
      )

  pub push : (v : Vec3) (x : Vec Float) → b.count < 3 → vec v ≡ x → record { count = b.count + 1; vectors = set b.vectors b.count v } ≡ basis_of (basis b ++ (x ∷ []))
  push v x h e =
      let g : v ≡ vec3 x = ap vec3 e in
      let n = count_is in
      ap (λ (w : Vec3). record { count = b.count + 1; vectors = set b.vectors b.count w }) g
      ∙ ap (λ (t : Basis). record { count = t.count + 1; vectors = set t.vectors t.count (vec3 x) }) whole
      ∙ grown (basis b) x (omega arith)

module _ (ps : List Eigen6) (slides : List (Vec Float)) (i : ℕ) where
  pub extra_step : i < length ps → is_extra slides (slide_part (get_or ps i past6).vector) ≡ false
      → extra_slide slides (map motion_of (drop i ps)) ≡ extra_slide slides (map motion_of (drop (i + 1) ps))
  unfolding extra_slide
  extra_step h e = rw (add-one, drop-cons ps i past6 h, e)

  extra_found : i < length ps → is_extra slides (slide_part (get_or ps i past6).vector) ≡ true
      → extra_slide slides (map motion_of (drop i ps)) ≡ some (slide_part (get_or ps i past6).vector)
  unfolding extra_slide
  extra_found h e = rw (drop-cons ps i past6 h, e)

  extra_end : length ps ≤ i → extra_slide slides (map motion_of (drop i ps)) ≡ none
  unfolding extra_slide
  extra_end h = rw (drop_of_length-le ps h)

  pub extra_joined : (v : Vec Float) → i < length ps → v ≡ slide_part (get_or ps i past6).vector → is_extra slides (slide_part (get_or ps i past6).vector) ≡ true
      → extra_slide slides (map motion_of (drop i ps)) ≡ extra_slide slides (map motion_of ps)
      → basis_of (slides ++ (normalized v ∷ [])) ≡ basis_of (join_slide slides (extra_slide slides (map motion_of ps)))
  unfolding join_slide
  extra_joined v h e test g =
      ap (λ (u : Vec Float). basis_of (slides ++ (normalized u ∷ []))) e ∙ ap (λ (o : Option (Vec Float)). basis_of (join_slide slides o)) (sym (extra_found h test) ∙ g)

  pub extra_none : length ps ≤ i → extra_slide slides (map motion_of (drop i ps)) ≡ extra_slide slides (map motion_of ps)
      → basis_of slides ≡ basis_of (join_slide slides (extra_slide slides (map motion_of ps)))
  unfolding join_slide
  extra_none h g = ap (λ (o : Option (Vec Float)). basis_of (join_slide slides o)) (sym (extra_end h) ∙ g)

-- ---- slides filled up

module _ (free : List (List Float)) (turns : ℕ) where
  fill_stop : (k : ℕ) (slides : List (Vec Float)) → (ltb (length slides + turns) (length free) && ltb (length slides) 3) ≡ false → fill_slides free turns k slides ≡ slides
  unfolding fill_slides
  fill_stop zero slides e = refl
  fill_stop (suc k) slides e =
      ap (λ (t : Bool). elim t as (λ _. List (Vec Float)) [ true ↦ fill_slides free turns k (join_slide slides (extra_slide slides free)) | false ↦ slides ]) e

  fill_enough : (k : ℕ) (slides : List (Vec Float)) → length free ≤ length slides + turns → fill_slides free turns k slides ≡ slides
  fill_enough k slides h = fill_stop k slides (rw (le-ltb (length slides + turns) (length free) h))

  fill_full : (k : ℕ) (slides : List (Vec Float)) → length slides + turns < length free → 3 ≤ length slides → fill_slides free turns k slides ≡ slides
  fill_full k slides h j = fill_stop k slides (rw (lt-ltb (length slides + turns) (length free) h, le-ltb (length slides) 3 j))

  fill_on : (k : ℕ) (slides : List (Vec Float)) → length slides + turns < length free → length slides < 3
      → fill_slides free turns (suc k) slides ≡ fill_slides free turns k (join_slide slides (extra_slide slides free))
  unfolding fill_slides
  fill_on k slides h j =
      let e : (ltb (length slides + turns) (length free) && ltb (length slides) 3) ≡ true = rw (lt-ltb (length slides + turns) (length free) h, lt-ltb (length slides) 3 j) in
      ap (λ (t : Bool). elim t as (λ _. List (Vec Float)) [ true ↦ fill_slides free turns k (join_slide slides (extra_slide slides free)) | false ↦ slides ]) e

join_few : (slides : List (Vec Float)) (o : Option (Vec Float)) → length (join_slide slides o) ≤ length slides + 1
unfolding join_slide
join_few slides none = omega arith
join_few slides (some v) = rw (length-append slides (normalized v ∷ [])) (omega arith)

-- at most three slides stay at most three
fill_few : (free : List (List Float)) (turns k : ℕ) (slides : List (Vec Float)) → length slides ≤ 3 → length (fill_slides free turns k slides) ≤ 3
unfolding fill_slides
fill_few free turns zero slides h = h
fill_few free turns (suc k) slides h = go (ltb (length slides + turns) (length free)) (ltb (length slides) 3) refl (fill_few free turns k)
  where
    more : List (Vec Float)
    more = join_slide slides (extra_slide slides free)

    go : (a b : Bool) → ltb (length slides) 3 ≡ b → ((l : List (Vec Float)) → length l ≤ 3 → length (fill_slides free turns k l) ≤ 3)
        → length {A = Vec Float} (elim (a && b) as (λ _. List (Vec Float)) [ true ↦ fill_slides free turns k more | false ↦ slides ]) ≤ 3
    go true true e f = f more (omega (arith, join_few slides (extra_slide slides free), ltb-true (length slides) 3 e))
    go true false e f = h
    go false b e f = h

pub few_slides : (a : List Float) (center : Vec Float) (l : Float) → length (from_square a center l).slides ≤ 3
unfolding from_square
few_slides a center l = fill_few _ _ 3 _ (span_few _ SPAN)

pub few_turns : (a : List Float) (center : Vec Float) (l : Float) → length (from_square a center l).turns ≤ 3
unfolding from_square
few_turns a center l =
    let free = free_of (top (sym_eigen 6 a)) (sym_eigen 6 a) in
    let axes = span_basis (map turn_part free) SPAN in
    omega (arith, length-map axes (turn_about center l free), span_few (map turn_part free) SPAN)

module _ (f : Free) (fits : f.count ≤ length f.pairs) (turns k : ℕ) (out g : Basis) (whole : out ≡ basis_of (basis out)) where
  pub filled_enough : f.count ≤ out.count + turns → basis_of (fill_slides (motions f) turns (3 - k) (basis out)) ≡ g → out ≡ g
  filled_enough h e =
      let n = count_is out whole in
      let m = length_first motion_of f.count f.pairs past6 fits in
      whole ∙ ap basis_of (sym (fill_enough (motions f) turns (3 - k) (basis out) (omega arith))) ∙ e

  pub filled_full : out.count + turns < f.count → 3 ≤ out.count → basis_of (fill_slides (motions f) turns (3 - k) (basis out)) ≡ g → out ≡ g
  filled_full h j e =
      let n = count_is out whole in
      let m = length_first motion_of f.count f.pairs past6 fits in
      whole ∙ ap basis_of (sym (fill_full (motions f) turns (3 - k) (basis out) (omega arith) (omega arith))) ∙ e

  pub filled_end : 3 ≤ k → basis_of (fill_slides (motions f) turns (3 - k) (basis out)) ≡ g → out ≡ g
  unfolding fill_slides
  filled_end h e = let n : 3 - k ≡ 0 = omega arith in whole ∙ (rw n at e)

  module _ (b : Basis) (room : out.count < 3) (is_b : b ≡ basis_of (join_slide (basis out) (extra_slide (basis out) (motions f)))) where
    pub filled_few : b.count ≤ 3
    filled_few =
        let n = count_is out whole in
        let m : b.count ≡ length (join_slide (basis out) (extra_slide (basis out) (motions f))) = ap (λ (t : Basis). t.count) is_b in
        omega (arith, join_few (basis out) (extra_slide (basis out) (motions f)))

    pub filled_step : k < 3 → out.count + turns < f.count → basis_of (fill_slides (motions f) turns (3 - k) (basis out)) ≡ g
        → basis_of (fill_slides (motions f) turns (3 - (k + 1)) (basis b)) ≡ g
    filled_step h j e =
        let n = count_is out whole in
        let m = length_first motion_of f.count f.pairs past6 fits in
        let q : 3 - k ≡ suc (3 - (k + 1)) = omega arith in
        let l = join_slide (basis out) (extra_slide (basis out) (motions f)) in
        ap (λ (t : List (Vec Float)). basis_of (fill_slides (motions f) turns (3 - (k + 1)) t)) (ap basis is_b ∙ basis_of_lem l)
        ∙ ap basis_of (sym (fill_on (motions f) turns (3 - (k + 1)) (basis out) (omega arith) (omega arith)))
        ∙ ap (λ (i : ℕ). basis_of (fill_slides (motions f) turns i (basis out))) (sym q)
        ∙ e

-- ---- all

-- the three-by-three in the corner
pub corner_flat : (a : List (List Float)) → Grid 6 a → flat 3 a ≡ corner (flat 6 a)
corner_flat a g =
    table_ext (λ i j. get_or (flat 6 a) (i * 6 + j) nan) 3 3 (flat 3 a) (length_flat 3 6 (omega arith) a g 3 (omega arith))
    (λ i j hi hj. flat_at 3 6 (omega arith) a g 3 i j (omega arith) hi hj ∙ sym (flat_at 6 6 (omega arith) a g 6 i j (omega arith) (omega arith) (omega arith)))

length_eigen : (n : ℕ) (a : List Float) → length (sym_eigen n a) ≡ n
unfolding sym_eigen
length_eigen n a = length_sort lower (record { value = nan; vector = [] }) (unsorted n a) ∙ length_pairs n (sweeps n 100 (turned a (unit_to n n))) n

-- a pair as it comes back from its array
abbrev back : ℕ → Eigen → Eigen
back n e = eigen_of (eigen6 n e)

eigens_back : (n : ℕ) (l : List Eigen) → length l ≡ n → eigens_of n (eigens6 n l) ≡ map (back n) l
eigens_back n l e = rw (take_at (map (eigen6 n) l) (replicate (6 - n) none6) n (length-map l (eigen6 n) ∙ e)) (go l)
  where
    go : (m : List Eigen) → map eigen_of (map (eigen6 n) m) ≡ map (back n) m
    go [] = refl
    go (x ∷ m) = ap (λ (t : List Eigen). back n x ∷ t) (go m)

back_six : (l : List Eigen) → map (back 6) l ≡ l
back_six [] = refl
back_six (e ∷ l) = rw (append-nil e.vector, back_six l)

-- a vector of three
abbrev cut : Eigen → Eigen
cut e = record { value = e.value; vector = get_or e.vector 0 nan ∷ get_or e.vector 1 nan ∷ get_or e.vector 2 nan ∷ [] }

cut_pairs : (w : Turned) → map cut (pairs 3 w 3) ≡ pairs 3 w 3
unfolding pairs column
cut_pairs w = refl

cut_eigen : (a : List Float) → map cut (sym_eigen 3 a) ≡ sym_eigen 3 a
unfolding sym_eigen
cut_eigen a =
    let w = sweeps 3 100 (turned a (unit_to 3 3)) in
    sort_map lower lower cut (λ x y. refl) (pairs 3 w 3) ∙ ap (sort lower) (cut_pairs w)

back_slides : (most : Float) (l : List Eigen) → map slide_part (free_of most (map (back 3) (map cut l))) ≡ map slide_part (free_of most (map cut l))
unfolding free_of
back_slides most [] = refl
back_slides most (e ∷ l) = go (is_free most e.value) (back_slides most l)
  where
    go : (b : Bool) → map slide_part (free_of most (map (back 3) (map cut l))) ≡ map slide_part (free_of most (map cut l))
        → map slide_part (cond b ((back 3 (cut e)).vector ∷ free_of most (map (back 3) (map cut l))) (free_of most (map (back 3) (map cut l))))
        ≡ map slide_part (cond b ((cut e).vector ∷ free_of most (map cut l)) (free_of most (map cut l)))
    go true h = ap (λ (t : List (Vec Float)). slide_part (cut e).vector ∷ t) h
    go false h = h

-- slides of the three-by-three do not see the zeros behind a vector
eigen_slides : (most : Float) (a : List Float) → map slide_part (free_of most (eigens_of 3 (eigens6 3 (sym_eigen 3 a)))) ≡ map slide_part (free_of most (sym_eigen 3 a))
eigen_slides most a =
    ap (λ (l : List Eigen). map slide_part (free_of most l)) (eigens_back 3 (sym_eigen 3 a) (length_eigen 3 a) ∙ ap (map (back 3)) (sym (cut_eigen a)))
    ∙ back_slides most (sym_eigen 3 a)
    ∙ ap (λ (l : List Eigen). map slide_part (free_of most l)) (cut_eigen a)

axis_is : (center : Vec Float) (l : Float) (free : List (List Float)) (v : Vec Float) → axis_of (turn_about center l free v) ≡ v
unfolding turn_about
axis_is center l [] v = refl
axis_is center l (e ∷ free) v = refl

axes_are : (center : Vec Float) (l : Float) (free : List (List Float)) (vs : List (Vec Float)) → map axis_of (map (turn_about center l free) vs) ≡ vs
axes_are center l free [] = refl
axes_are center l free (v ∷ vs) = rw (axis_is center l free v, axes_are center l free vs)

points_are : (center : Vec Float) (l : Float) (free : List (List Float)) (vs : List (Vec Float)) → map point_of (map (turn_about center l free) vs) ≡ map (point_about center l free) vs
points_are center l free [] = refl
points_are center l free (v ∷ vs) = ap (λ (t : List (Vec Float)). point_about center l free v ∷ t) (points_are center l free vs)

pub few_of : (b : Basis) (vs : List (Vec Float)) (rel : Float) → b ≡ basis_of (span_basis vs rel) → b.count ≤ 3
few_of b vs rel e = let n : b.count ≡ length (span_basis vs rel) = ap (λ (t : Basis). t.count) e in omega (arith, span_few vs rel)

-- each step of the code, and what they come to
module _ (a : List (List Float)) (grid : Grid 6 a) (center : Vec Float) (l : Float) (pairs6 pairs3 : List Eigen6) (most : Float) (free pure : Free) (turning sliding : List Vec3)
    (axes straight slides : Basis) (points : List Vec3)
    (is-six : pairs6 ≡ eigens6 6 (sym_eigen 6 (flat 6 a)))
    (is-most : most ≡ top (eigens_of 6 pairs6))
    (motions_free : motions free ≡ free_of most (eigens_of 6 pairs6))
    (is-turning : first free.count turning ≡ map turn_part (motions free))
    (is-axes : axes ≡ basis_of (span_basis (first free.count turning) SPAN))
    (is-three : pairs3 ≡ eigens6 3 (sym_eigen 3 (flat 3 a)))
    (is-pure : motions pure ≡ free_of most (eigens_of 3 pairs3))
    (is-sliding : first pure.count sliding ≡ map slide_part (motions pure))
    (is-straight : straight ≡ basis_of (span_basis (first pure.count sliding) SPAN))
    (is-slides : slides ≡ basis_of (fill_slides (motions free) axes.count 3 (basis straight)))
    (is-points : points ≡ three_of (map (point_about center l (motions free)) (basis axes))) where
  abbrev most' : Float
  most' = top (sym_eigen 6 (flat 6 a))

  abbrev free' : List (List Float)
  free' = free_of most' (sym_eigen 6 (flat 6 a))

  abbrev axes' : List (Vec Float)
  axes' = span_basis (map turn_part free') SPAN

  abbrev straight' : List (Vec Float)
  straight' = span_basis (map slide_part (free_of most' (sym_eigen 3 (corner (flat 6 a))))) SPAN

  pairs_are : eigens_of 6 pairs6 ≡ sym_eigen 6 (flat 6 a)
  pairs_are = ap (eigens_of 6) is-six ∙ eigens_back 6 (sym_eigen 6 (flat 6 a)) (length_eigen 6 (flat 6 a)) ∙ back_six (sym_eigen 6 (flat 6 a))

  most_is : most ≡ most'
  most_is = is-most ∙ ap top pairs_are

  free_is : motions free ≡ free'
  free_is = motions_free ∙ ap (free_of most) pairs_are ∙ ap (λ (m : Float). free_of m (sym_eigen 6 (flat 6 a))) most_is

  axes_is : axes ≡ basis_of axes'
  axes_is = is-axes ∙ ap (λ (t : List (Vec Float)). basis_of (span_basis t SPAN)) (is-turning ∙ ap (map turn_part) free_is)

  pure_is : map slide_part (motions pure) ≡ map slide_part (free_of most' (sym_eigen 3 (corner (flat 6 a))))
  pure_is =
      ap (map slide_part) (is-pure ∙ ap (λ (t : List Eigen6). free_of most (eigens_of 3 t)) is-three) ∙ eigen_slides most (flat 3 a)
      ∙ ap (λ (m : Float). map slide_part (free_of m (sym_eigen 3 (flat 3 a)))) most_is
      ∙ ap (λ (t : List Float). map slide_part (free_of most' (sym_eigen 3 t))) (corner_flat a grid)

  straight_is : straight ≡ basis_of straight'
  straight_is = is-straight ∙ ap (λ (t : List (Vec Float)). basis_of (span_basis t SPAN)) (is-sliding ∙ pure_is)

  slides_is : slides ≡ basis_of (fill_slides free' (length axes') 3 straight')
  slides_is =
      is-slides ∙ ap (λ (t : List (List Float)). basis_of (fill_slides t axes.count 3 (basis straight))) free_is
      ∙ ap (λ (n : ℕ). basis_of (fill_slides free' n 3 (basis straight))) (ap (λ (b : Basis). b.count) axes_is)
      ∙ ap (λ (t : List (Vec Float)). basis_of (fill_slides free' (length axes') 3 t)) (ap basis straight_is ∙ basis_of_lem straight')

  points_is : points ≡ three_of (map (point_about center l free') axes')
  points_is =
      is-points ∙ ap (λ (t : List (List Float)). three_of (map (point_about center l t) (basis axes))) free_is
      ∙ ap (λ (t : List (Vec Float)). three_of (map (point_about center l free') t)) (ap basis axes_is ∙ basis_of_lem axes')

  pub body_is : record { slides = slides; axes = axes; points = points } ≡ freedom_struct (from_square (flat 6 a) center l)
  unfolding from_square
  body_is =
      ap (λ (b : Basis). record { slides = b; axes = axes; points = points }) slides_is
      ∙ ap (λ (b : Basis). record { slides = basis_of (fill_slides free' (length axes') 3 straight'); axes = b; points = points })
      (axes_is ∙ ap basis_of (sym (axes_are center l free' axes')))
      ∙ ap
      (λ (t : List Vec3). record { slides = basis_of (fill_slides free' (length axes') 3 straight'); axes = basis_of (map axis_of (map (turn_about center l free') axes')); points = t })
      (points_is ∙ ap three_of (sym (points_are center l free' axes')))

-- ---- doubles

pub count_many : (n : ℕ) → (n ≡ 0 → ⊥) → (n ≡ 1 → ⊥) → (n ≡ 2 → ⊥) → of_bits binary64 0x4008_0000_0000_0000 ≡ count_double n
unfolding count_double
count_many zero a b c = absurd (a refl)
count_many (suc zero) a b c = absurd (b refl)
count_many (suc (suc zero)) a b c = absurd (c refl)
count_many (suc (suc (suc n))) a b c = refl

three_doubles_lem : (l : List (Vec Float)) → length l ≤ 3 → three_doubles (three_of l) ≡ padded 9 (slides_doubles l)
unfolding slides_doubles
three_doubles_lem [] h = refl
three_doubles_lem (a ∷ []) h = refl
three_doubles_lem (a ∷ b ∷ []) h = refl
three_doubles_lem (a ∷ b ∷ c ∷ []) h = refl
three_doubles_lem (a ∷ b ∷ c ∷ d ∷ l) h = absurd (omega arith)

turn_doubles_lem : (l : List Turn) → length l ≤ 3 → turn_doubles (three_of (map axis_of l)) (three_of (map point_of l)) ≡ padded 18 (turns_doubles l)
unfolding turns_doubles
turn_doubles_lem [] h = refl
turn_doubles_lem (a ∷ []) h = refl
turn_doubles_lem (a ∷ b ∷ []) h = refl
turn_doubles_lem (a ∷ b ∷ c ∷ []) h = refl
turn_doubles_lem (a ∷ b ∷ c ∷ d ∷ l) h = absurd (omega arith)

-- the doubles of the arrays are those of the lists
pub struct_doubles_lem : (f : FreedomStruct) (d : Freedom) → f ≡ freedom_struct d → length d.slides ≤ 3 → length d.turns ≤ 3 → struct_doubles f ≡ freedom_doubles d
struct_doubles_lem f d e h k =
    let n = count_double (length d.slides) in
    let t = turn_doubles (three_of (map axis_of d.turns)) (three_of (map point_of d.turns)) in
    ap struct_doubles e
    ∙ ap (λ (m : ℕ). n ∷ count_double m ∷ (three_doubles (three_of d.slides) ++ t)) (length-map d.turns axis_of)
    ∙ ap (λ (l : List Float). n ∷ count_double (length d.turns) ∷ (l ++ t)) (three_doubles_lem d.slides h)
    ∙ ap (λ (l : List Float). n ∷ count_double (length d.turns) ∷ (padded 9 (slides_doubles d.slides) ++ l)) (turn_doubles_lem d.turns k)

pub put_struct : (s t : List Float) (o : ℕ) (f : FreedomStruct) (d : Freedom) → f ≡ freedom_struct d → length d.slides ≤ 3 → length d.turns ≤ 3 → Put s t o 29 (struct_doubles f)
    → Put s t o 29 (freedom_doubles d)
put_struct s t o f d e h k p = subst (λ (l : List Float). Put s t o 29 l) (struct_doubles_lem f d e h k) p

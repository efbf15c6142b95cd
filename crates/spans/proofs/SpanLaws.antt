-- Vectors of an array taken one after another: the greatest length, the rest after a basis, and the basis that grows. Assumes nothing.
use Prim.Native.Nat.{ℕ, ◌+◌, ◌-◌, ◌<◌, ◌≤◌}
use mathlib.Core.Path.{◌≡◌, refl, sym, ap, ◌∙◌}
use mathlib.Core.Bool.{true, false, ◌&&◌}
use mathlib.Core.List.{List, [], ◌∷◌, ◌++◌, map, map-append}
use native.Mathlib.Omega.{arith}
use native.Mathlib.Numerals.{add-one}
use lib.ListN.{length, drop_of_length-le, get_or, set, take, drop, replicate, length-append, length-map, length-take}
use lib.Seq.{drop-cons, take_at, take-suc, take_all}
use lib.Ieee.{Float, binary64, mul, lt, le}
use lib.Dec.{ltb}
use borrow.Author.Tests.{ltb-true}
use Rattle.numbers.specs.Ops.{doubles}
use Rattle.numbers.specs.Double.{zero64, fmax}
use Rattle.vectors.specs.declared.vec.Vec3.{Vec3}
use Rattle.spans.specs.declared.span.Basis.{Basis}
use Rattle.vectors.specs.Vec.{Vec, vec, zero_v, sub_v, scale_v, dot, len, normalized}
use Rattle.spans.specs.Span.{longest, without, join, joined, longer, span_basis}
use Rattle.eigen.specs.Sort.{sort}
use Rattle.spans.specs.Basis.{first, vec3, basis, basis_of, longer3, past3}
use Rattle.eigen.proofs.Sorting.{fill_step, sort_map}

-- from i on: the element at i first, then those from i + 1 on; none at the end
module _ (vs : List Vec3) (i : ℕ) where
  pub longest_step : (m : Float) → i < length vs → longest (map vec (drop i vs)) m ≡ longest (map vec (drop (i + 1) vs)) (fmax m (len (vec (get_or vs i past3))))
  unfolding longest
  longest_step m h = rw (add-one, drop-cons vs i past3 h)

  pub longest_end : (m : Float) → length vs ≤ i → longest (map vec (drop i vs)) m ≡ m
  unfolding longest
  longest_end m h = rw (drop_of_length-le vs h)

  pub without_step : (u s r : Vec Float) (t : Float) → i < length vs → t ≡ dot doubles u (vec (get_or vs i past3)) → s ≡ scale_v doubles (vec (get_or vs i past3)) t → r ≡ sub_v doubles u s
      → without u (map vec (drop i vs)) ≡ without r (map vec (drop (i + 1) vs))
  unfolding without
  without_step u s r t h e f g = rw (add-one, drop-cons vs i past3 h, g, f, e)

  pub without_end : (u : Vec Float) → length vs ≤ i → without u (map vec (drop i vs)) ≡ u
  unfolding without
  without_end u h = rw (drop_of_length-le vs h)

-- ---- the basis grows

joined_snoc : (least : Float) (out vs : List (Vec Float)) (v : Vec Float) → joined least out (vs ++ (v ∷ [])) ≡ join least (joined least out vs) v
unfolding joined
joined_snoc least out [] v = refl
joined_snoc least out (x ∷ vs) v = joined_snoc least (join least out x) vs v

vec_vec3 : (l : List (Vec Float)) → map vec (map vec3 l) ≡ l
vec_vec3 [] = refl
vec_vec3 (v ∷ l) = ap (λ (t : List (Vec Float)). v ∷ t) (vec_vec3 l)

-- the vectors of the basis of a list are the list
pub basis_of_lem : (l : List (Vec Float)) → basis (basis_of l) ≡ l
basis_of_lem l = rw (take_at (map vec3 l) (replicate (3 - length l) (vec3 zero_v)) (length l) (length-map l vec3)) (vec_vec3 l)

grown : (l : List (Vec Float)) (x : Vec Float) → length l < 3
    → basis_of (l ++ (x ∷ [])) ≡ record { count = length l + 1; vectors = set (map vec3 l ++ replicate (3 - length l) (vec3 zero_v)) (length l) (vec3 x) }
grown l x h =
    rw (
      length-append l (x ∷ []),
      fill_step 3 (length l) (map vec3 l) (vec3 zero_v) (vec3 x) (length-map l vec3) h,
      map-append vec3 l (x ∷ []),
      ← add-one (length l),
    )

takes : (least : Float) (l : List (Vec Float)) (v : Vec Float) → lt least (len (without v l)) ≡ true → ltb (length l) 3 ≡ true → join least l v ≡ l ++ (normalized (without v l) ∷ [])
unfolding join
takes least l v e f = rw (e, f)

leaves : (least : Float) (l : List (Vec Float)) (v : Vec Float) → (lt least (len (without v l)) && ltb (length l) 3) ≡ false → join least l v ≡ l
unfolding join
leaves least l v e = rw e

-- a basis that is one of a list, and the test
module _ (b : Basis) (whole : b ≡ basis_of (basis b)) (least : Float) (v : Vec Float) where
  pub count_within : length b.vectors ≡ 3 → b.count ≤ 3
  count_within long =
      let e : b.count ≡ length (basis b) = ap (λ (t : Basis). t.count) whole in
      omega (arith, e, length-map (take b.count b.vectors) vec, length-take b.count b.vectors)

  pub join_grows : lt least (len (without v (basis b))) ≡ true → ltb b.count 3 ≡ true
      → record { count = b.count + 1; vectors = set b.vectors b.count (vec3 (normalized (without v (basis b)))) } ≡ basis_of (join least (basis b) v)
  join_grows e f =
      let l = basis b in
      let n : b.count ≡ length l = ap (λ (t : Basis). t.count) whole in
      let few : ltb (length l) 3 ≡ true = sym (ap (λ (k : ℕ). ltb k 3) n) ∙ f in
      ap (λ (t : Basis). record { count = t.count + 1; vectors = set t.vectors t.count (vec3 (normalized (without v l))) }) whole
      ∙ sym (grown l (normalized (without v l)) (ltb-true (length l) 3 few))
      ∙ ap basis_of (sym (takes least l v e few))

  pub join_stays : (lt least (len (without v (basis b))) && ltb b.count 3) ≡ false → b ≡ basis_of (join least (basis b) v)
  join_stays e =
      let n : b.count ≡ length (basis b) = ap (λ (t : Basis). t.count) whole in
      whole ∙ ap basis_of (sym (leaves least (basis b) v (sym (ap (λ (k : ℕ). lt least (len (without v (basis b))) && ltb k 3) n) ∙ e)))

-- ---- all

-- a basis that is one of some list is one of its vectors
pub whole_of : (b : Basis) (l : List (Vec Float)) → b ≡ basis_of l → b ≡ basis_of (basis b)
whole_of b l e = e ∙ ap basis_of (sym (ap basis e ∙ basis_of_lem l))

first_suc : (i : ℕ) (vs : List Vec3) → i < length vs → first (i + 1) vs ≡ first i vs ++ (vec (get_or vs i past3) ∷ [])
first_suc i vs h = rw (add-one, take-suc vs i past3 h) (map-append vec (take i vs) (get_or vs i past3 ∷ []))

pub span_step : (least : Float) (rest : List Vec3) (i : ℕ) (out r : Basis) → i < length rest → out ≡ basis_of (joined least [] (first i rest))
    → r ≡ basis_of (join least (basis out) (vec (get_or rest i past3))) → r ≡ basis_of (joined least [] (first (i + 1) rest))
span_step least rest i out r h e f =
    f
    ∙ ap (λ (l : List (Vec Float)). basis_of (join least l (vec (get_or rest i past3)))) (ap basis e ∙ basis_of_lem (joined least [] (first i rest)))
    ∙ ap basis_of (sym (ap (joined least []) (first_suc i rest h) ∙ joined_snoc least [] (first i rest) (vec (get_or rest i past3))))

pub span_none : (vs : List (Vec Float)) (rel most : Float) → most ≡ longest vs zero64 → le most zero64 ≡ true → basis_of (span_basis vs rel) ≡ basis_of []
unfolding span_basis
span_none vs rel most e f = rw (rw e at f)

pub span_some : (vs rest : List Vec3) (rel most : Float) (out : Basis) (i : ℕ) → most ≡ longest (map vec vs) zero64 → le most zero64 ≡ false
    → rest ≡ sort longer3 vs → length rest ≤ i → out ≡ basis_of (joined (mul binary64 rel most) [] (first i rest)) → out ≡ basis_of (span_basis (map vec vs) rel)
unfolding span_basis
span_some vs rest rel most out i e f g h o =
    rw (rw e at f, o, take_all i rest h, g, sort_map longer3 longer vec (λ x y. refl) vs, e)

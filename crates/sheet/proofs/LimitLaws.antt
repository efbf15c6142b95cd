-- Every relation of a sheet that passes is within the limits that the row bound asks for: the tests read each double that a relation has, and more. Assumes nothing.
use mathlib.Core.Path.{◌≡◌, refl, sym, ap, subst, ◌∙◌}
use mathlib.Core.Bool.{Bool, true, false, ◌&&◌}
use mathlib.Core.List.{List}
use Prim.Native.Nat.{ℕ, ◌+◌, ◌*◌, ◌<◌}
use native.Mathlib.Omega.{arith}
use lib.ListN.{length, get_or}
use lib.Dec.{T}
use lib.Ieee.{Float}
use lib.Ieee.Bits.{is_true}
use lib.Ieee.Fits.{and_l, and_r}
use Rattle.vectors.specs.Vec.{Vec}
use Rattle.relations.specs.Model.{Rel}
use Rattle.records.specs.Numbers.{law_number, prim_number}
use Rattle.records.specs.Record.{byte_at, double_at, vec_at, prim_at, end_at, law_by, rel_at}
use Rattle.records.specs.Limits.{UNIT_LIMIT, THOUSAND, within, within_v}
use Rattle.records.proofs.NumberLaws.{each_case}
use Rattle.scene.specs.Scene.{scene_in}
use Rattle.closeness.specs.RowBound.{small_geo, small_end, small_law, small_rel}
use Rattle.least_squares.proofs.TableLaws.{length_list_of, get_d_list_of}
use Rattle.format.specs.Format.{bodies_of, relations_of, rel_start}
use Rattle.refusals.specs.SceneAt.{scene_at}
use Rattle.format.specs.Faults.{end_limits, rel_limits, sheet_fault}
use Rattle.format.proofs.RefusalLaws.{rel_tests, faultless}

-- ---- from the tests to the limits of the row bound

both : (a b : Bool) → T a → T b → T (a && b)
both true b s t = t
both false b s t = absurd s

prim_small : (n : ℕ) (p d : Vec Float) (r : Float) → T (within_v THOUSAND p) → T (within_v UNIT_LIMIT d) → T (within THOUSAND r) → T (small_geo (prim_at n p d r))
unfolding prim_at small_geo
prim_small n p d r h k l =
    let two = both (within_v THOUSAND p) (within_v UNIT_LIMIT d) h k in
    let three = both (within_v THOUSAND p) _ h (both (within_v UNIT_LIMIT d) (within THOUSAND r) k l) in
    each_case prim_number n (λ g. T (small_geo g)) _ _ ((λ q. two), ((λ q. two), ((λ q. h), three)))

end_small : (s : List ℕ) (e : ℕ) → T (end_limits s e) → T (small_end (end_at s e))
unfolding end_limits small_end end_at
end_small s e t =
    let t1 = and_r (within_v THOUSAND (vec_at s (e + 8))) _ t in
    let t2 = and_r (within_v UNIT_LIMIT (vec_at s (e + 32))) _ t1 in
    both (small_geo (end_at s e).prim) (within THOUSAND (double_at s (e + 64)))
    (prim_small (byte_at s e) (vec_at s (e + 8)) (vec_at s (e + 32)) (double_at s (e + 56)) (and_l (within_v THOUSAND (vec_at s (e + 8))) _ t)
    (and_l (within_v UNIT_LIMIT (vec_at s (e + 32))) _ t1)
    (and_l (within THOUSAND (double_at s (e + 56))) _ t2))
    (and_r (within THOUSAND (double_at s (e + 56))) _ t2)

module _ (s : List ℕ) (r : ℕ) where
  law_small : (n : ℕ) → T (within THOUSAND (double_at s (r + 8))) → T (within THOUSAND (double_at s (r + 16))) → T (within_v UNIT_LIMIT (vec_at s (r + 24))) → T (small_end (end_at s (r + 192)))
      → T (small_law (law_by n s r))
  unfolding law_by small_law
  law_small n off want reference p =
      let turned = both (within THOUSAND (double_at s (r + 16))) (within_v UNIT_LIMIT (vec_at s (r + 24))) want reference in
      let joined = both (within THOUSAND (double_at s (r + 8))) (within THOUSAND (double_at s (r + 16))) off want in
      let meshed = both (within THOUSAND (double_at s (r + 16))) (small_end (end_at s (r + 192))) want p in
      each_case law_number n (λ l. T (small_law l)) _ _ ((λ q. off), ((λ q. off), ((λ q. turned), ((λ q. off), ((λ q. off), ((λ q. p), ((λ q. joined), meshed)))))))

  pub rel_small : rel_limits s r ≡ true → small_rel (rel_at s r) ≡ true
  unfolding rel_limits small_rel rel_at
  rel_small h =
      let t : T (rel_limits s r) = subst (λ (b : Bool). T b) (sym h) tt in
      let t1 = and_r (within THOUSAND (double_at s (r + 8))) _ t in
      let t2 = and_r (within THOUSAND (double_at s (r + 16))) _ t1 in
      let t3 = and_r (within_v UNIT_LIMIT (vec_at s (r + 24))) _ t2 in
      let t4 = and_r (end_limits s (r + 48)) _ t3 in
      is_true (small_rel (rel_at s r))
      (both (small_law (law_by (byte_at s r) s r)) _
      (law_small (byte_at s r) (and_l (within THOUSAND (double_at s (r + 8))) _ t)
      (and_l (within THOUSAND (double_at s (r + 16))) _ t1)
      (and_l (within_v UNIT_LIMIT (vec_at s (r + 24))) _ t2) (end_small s (r + 192) (and_r (end_limits s (r + 120)) _ t4)))
      (both (small_end (end_at s (r + 48))) (small_end (end_at s (r + 120))) (end_small s (r + 48) (and_l (end_limits s (r + 48)) _ t3)) (end_small s (r + 120) (and_l (end_limits s (r + 120)) _ t4))))

-- ---- every relation of the sheet

pub rel_limits_lem : (s : List ℕ) → sheet_fault s ≡ 0 → (j : ℕ) → j < relations_of s → rel_limits s (rel_start (bodies_of s) j) ≡ true
rel_limits_lem s h j l = (rel_tests (bodies_of s) s (rel_start (bodies_of s) j) ((faultless s (bodies_of s) (relations_of s) refl refl h).rel j l)).1

-- relation j of the scene is the one that the tests read
pub rel_is : (s : List ℕ) (j : ℕ) (d : Rel) → j < relations_of s → get_or (scene_at s).rels j d ≡ rel_at s (rel_start (bodies_of s) j)
unfolding scene_in
rel_is s j d l =
    let e : rel_start (bodies_of s) 0 + 264 * j ≡ rel_start (bodies_of s) j = omega arith in
    get_d_list_of (λ i. rel_at s (rel_start (bodies_of s) 0 + 264 * i)) (relations_of s) j d l ∙ ap (rel_at s) e

pub all_small : (s : List ℕ) → sheet_fault s ≡ 0 → (j : ℕ) (d : Rel) → j < length (scene_at s).rels → small_rel (get_or (scene_at s).rels j d) ≡ true
unfolding scene_in
all_small s h j d l =
    let q = length_list_of (λ i. rel_at s (rel_start (bodies_of s) 0 + 264 * i)) (relations_of s) in
    let m : j < relations_of s = omega arith in
    ap small_rel (rel_is s j d m) ∙ rel_small s (rel_start (bodies_of s) j) (rel_limits_lem s h j m)

-- From parts to structs: a body or relation that a sheet holds in the parts of a struct is read as that struct. Reading goes by way of the parts: what the solver reads is a
-- function of the record's bytes, words and doubles, and that function takes a struct's parts back to the struct. Assumes nothing.
use mathlib.Core.Path.{◌≡◌, refl, sym, ap, ◌∙◌}
use mathlib.Core.Bool.{Bool, true, false, not, ◌||◌, cond}
use mathlib.Core.List.{List, [], ◌∷◌}
use mathlib.Core.Option.{Option, none, some}
use Prim.Native.Nat.{ℕ, ◌+◌, ◌≤◌}
use native.Mathlib.Nat.{add_assoc}
use native.Mathlib.Omega.{arith}
use lib.ListN.{get_or}
use borrow.Author.Tests.{ltb-true, ltb-false, ne_eqb, le-ltb}
use lib.Dec.{eqb, ltb}
use lib.Ieee.{Float}
use Rattle.relations.specs.Geometry.{Geo, plane, line, point, circle, point_of}
use Rattle.relations.specs.Model.{Body, End, Law, mate, flush, angle, insert, tangent, symmetry, joint, gear, Rel}
use Rattle.relations.specs.declared.model.JointKind.{JointKind}
use Rattle.relations.specs.declared.model.JointKind.TheVariants.{Rigid, Revolute, Slider, Cylindrical, Planar, Ball}
use Rattle.records.specs.Numbers.{GROUND, law_number, joint_number, prim_number, flag_number, body_ref_number, by_number}
use Rattle.records.specs.Record.{byte_at, u16_at, uses_third, prim_at, joint_kind_at, body_number_at, body_at, rel_at}
use Rattle.format.specs.Faults.{end_names, rel_names, rel_fault}
use Rattle.format.proofs.RefusalLaws.{and_left, and_right, rel_named}
use Rattle.writing.specs.Writing.{body_parts_at, rel_parts_at}
use Rattle.writing.specs.Structs.{body_from, end_from, law_from, rel_from}
use Rattle.writing.proofs.StructLaws.{body_from_lem, rel_from_lem}
use Rattle.saving.specs.Saving.{body_parts, rel_parts, NO_BODY, body_word, direction_field, radius_field, end_numbers, third_field, WordNames}

-- ---- each field of a struct, from its part

flag_read : (f : Bool) → eqb (flag_number f) (flag_number true) ≡ f
flag_read true = refl
flag_read false = refl

prim_read : (g : Geo Float) → prim_at (prim_number g) (point_of g) (direction_field g) (radius_field g) ≡ g
unfolding prim_at by_number point_of
prim_read (plane p n) = refl
prim_read (line p d) = refl
prim_read (point p) = refl
prim_read (circle c n r) = refl

kind_read : (k : JointKind) → joint_kind_at (joint_number k) ≡ k
unfolding joint_kind_at by_number
kind_read Rigid = refl
kind_read Revolute = refl
kind_read Slider = refl
kind_read Cylindrical = refl
kind_read Planar = refl
kind_read Ball = refl

-- ---- bodies

from_body : (b : Body) → body_from (body_parts b) ≡ b
unfolding body_from body_parts
from_body b = λ i. record { frame = b.frame; fixed = flag_read b.fixed i; center = b.center; size = b.size }

pub body_read : (s : List ℕ) (o : ℕ) (b : Body) → body_parts_at s o ≡ body_parts b → body_at s o ≡ b
body_read s o b h = body_from_lem s o ∙ ap body_from h ∙ from_body b

-- ---- relations

-- a body's number, tested before it is cut: below 65534 it is its own word, and from there on its word is one that no
-- scene of 64 bodies has
pub word_names : (m : ℕ) (b : Option ℕ) → m ≤ 64 → WordNames m b
unfolding body_number_at by_number
word_names m none h = record { passes = refl; read = λ n. refl }
word_names m (some i) h = go (ltb i NO_BODY) refl
  where
    word : Bool → ℕ
    word t = cond t i NO_BODY

    passes : (t : Bool) → ltb i NO_BODY ≡ t → eqb (word t) GROUND || ltb (word t) m ≡ ltb i m
    passes true e = rw (ne_eqb i GROUND (λ q. omega (arith, ltb-true i NO_BODY e)))
    passes false e = rw (le-ltb NO_BODY m (omega arith), le-ltb i m (omega (arith, ltb-false i NO_BODY e)))

    read : (t : Bool) → ltb i NO_BODY ≡ t → ltb i m ≡ true
        → by_number body_ref_number (word t) (none ∷ []) (some (word t)) ≡ some i
    read true e n = rw (ne_eqb i GROUND (λ q. omega (arith, ltb-true i NO_BODY e)))
    read false e n = absurd (omega (arith, ltb-false i NO_BODY e, ltb-true i m n))

    go : (t : Bool) → ltb i NO_BODY ≡ t → WordNames m (some i)
    go t e = record { passes = rw e (passes t e); read = λ n. rw e (read t e n) }

end_read : (e : End) → body_number_at (body_word e.body) ≡ e.body
    → ◌≡◌ {A = End}
    (record {
      body = body_number_at (body_word e.body);
      prim = prim_at (prim_number e.prim) (point_of e.prim) (direction_field e.prim) (radius_field e.prim);
      radius = e.radius;
      mirrored = eqb (flag_number e.mirrored) (flag_number true);
    })
    e
end_read e q = λ i. record { body = q i; prim = prim_read e.prim i; radius = e.radius; mirrored = flag_read e.mirrored i }

law_read : (l : Law) (a b : End) → (uses_third (law_number l) ≡ true → body_number_at (body_word (third_field l).body) ≡ (third_field l).body)
    → law_from (law_number l) (rel_parts (record { law = l; a = a; b = b })) ≡ l
unfolding law_from end_from rel_parts end_numbers by_number
law_read (mate off) a b t = refl
law_read (flush off) a b t = refl
law_read (angle want reference) a b t = refl
law_read (insert off aligned) a b t = λ i. insert off (flag_read aligned i)
law_read (tangent off inside) a b t = λ i. tangent off (flag_read inside i)
law_read (symmetry p) a b t = λ i. symmetry (end_read p (t refl) i)
law_read (joint kind flip off want) a b t = λ i. joint (kind_read kind i) (flag_read flip i) off want
law_read (gear teeth_a teeth_b want carrier) a b t = λ i. gear teeth_a teeth_b want (end_read carrier (t refl) i)

from_rel : (rel : Rel) → body_number_at (body_word rel.a.body) ≡ rel.a.body → body_number_at (body_word rel.b.body) ≡ rel.b.body
    → (uses_third (law_number rel.law) ≡ true → body_number_at (body_word (third_field rel.law).body) ≡ (third_field rel.law).body)
    → rel_from (rel_parts rel) ≡ rel
unfolding rel_from end_from rel_parts end_numbers
from_rel rel p q t = λ i. record { law = law_read rel.law rel.a rel.b t i; a = end_read rel.a p i; b = end_read rel.b q i }

end_named : (m : ℕ) (s : List ℕ) (e : ℕ) (b : Option ℕ) → m ≤ 64 → end_names m s e ≡ true → u16_at s (e + 2) ≡ body_word b → body_number_at (body_word b) ≡ b
unfolding end_names
end_named m s e b h n w = let word = word_names m b h in word.read (sym word.passes ∙ (rw w at n))

where_used : (used test : Bool) → not used || test ≡ true → used ≡ true → test ≡ true
where_used true test h k = h
where_used false test h k = cc

pub rel_read : (m : ℕ) (s : List ℕ) (r : ℕ) (rel : Rel) → m ≤ 64 → rel_fault m s r ≡ 0 → rel_parts_at s r ≡ rel_parts rel → rel_at s r ≡ rel
unfolding rel_names rel_parts_at rel_parts
rel_read m s r rel h f e =
    let names = rel_named m s r f in
    let word : (i : ℕ) → get_or (rel_parts_at s r).words i 0 ≡ get_or (rel_parts rel).words i 0 = (λ i j. get_or (e j).words i 0) in
    let law : byte_at s r ≡ law_number rel.law = (λ j. byte_at (e j).bytes 0) in
    rel_from_lem s r ∙ ap rel_from e ∙ from_rel rel (end_named m s (r + 48) _ h (and_left _ _ names) (rw (add_assoc r 48 2) (word 2)))
    (end_named m s (r + 120) _ h (search (and_left, and_right)) (rw (add_assoc r 120 2) (word 3)))
    (λ u. end_named m s (r + 192) _ h (where_used (uses_third (byte_at s r)) (end_names m s (r + 192)) (search (and_left, and_right)) (rw law u)) (rw (add_assoc r 192 2) (word 4)))

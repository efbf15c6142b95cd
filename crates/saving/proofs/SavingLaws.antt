-- Both round trips of a scene of structs, from those of its parts: an accepted sheet's records are read as the scene's structs exactly where they are read as its parts. A sheet that is
-- accepted has no record with a fault, so the laws of one record hold of each. Then what 6 means: a relation's bytes
-- hold the words of its ends, and each word names its body. Assumes nothing.
use mathlib.Core.Path.{◌≡◌, refl, sym, ap, ◌∙◌}
use mathlib.Core.Bool.{not, ◌||◌}
use mathlib.Core.List.{List}
use Prim.Native.Nat.{ℕ, zero, suc, ◌<◌, ◌≤◌}
use native.Mathlib.Omega.{arith}
use lib.ListN.{get_or}
use lib.Dec.{eqb, ltb}
use Rattle.relations.specs.Model.{Body, Law, mate, flush, angle, insert, tangent, symmetry, joint, gear, Rel}
use Rattle.records.specs.Numbers.{GROUND, law_number}
use Rattle.records.specs.Record.{byte_at, uses_third}
use Rattle.format.specs.Format.{body_start, rel_start}
use Rattle.format.specs.Faults.{or_else, end_names, rel_names, rel_fault}
use Rattle.format.proofs.RefusalLaws.{faultless}
use Rattle.writing.specs.Writing.{SheetOf, OneSheet, RelIs, rel_parts_at, rel_bytes, sheet_bytes, rel_parts_fault, first_fault, counts_fault, records_fault, scene_fault}
use Rattle.writing.proofs.RecordLaws.{rel_parts_back}
use Rattle.writing.proofs.SheetLaws.{counts_pass}
use Rattle.saving.specs.Saving.{body_word, third_field, body_parts, rel_parts, scene_parts, Holds, SavedOnce, third_there, bodies_there, rel_struct_fault, scene_struct_fault, Six}
use Rattle.saving.proofs.ReadingLaws.{word_names, body_read, rel_read}
use Rattle.saving.proofs.PartsLaws.{body_parts_of, rel_parts_of}

module _ (m k : ℕ) (body : ℕ → Body) (rel : ℕ → Rel) where
  -- an accepted sheet in the scene's parts holds the scene
  holds : (s : List ℕ) → m ≤ 64 → SheetOf (scene_parts m k body rel) s → Holds m k body rel s
  holds s h o =
      let f = faultless s m k o.reads.bodies o.reads.relations o.accepted in
      record {
        bytes = o.bytes;
        accepted = o.accepted;
        bodies = o.reads.bodies;
        relations = o.reads.relations;
        body_is = λ i l. body_read s (body_start i) (body i) (o.reads.body i l);
        rel_is = λ j l. rel_read m s (rel_start m j) (rel j) h (f.rel j l) (o.reads.rel j l);
      }

  -- and one that holds the scene is one in its parts
  sheet_of : (s : List ℕ) → Holds m k body rel s → SheetOf (scene_parts m k body rel) s
  sheet_of s o =
      let f = faultless s m k o.bodies o.relations o.accepted in
      record {
        bytes = o.bytes;
        accepted = o.accepted;
        reads =
            record {
              bodies = o.bodies;
              relations = o.relations;
              body = λ i l. sym (body_parts_of s (body_start i) o.bytes (f.body i l)) ∙ ap body_parts (o.body_is i l);
              rel = λ j l. sym (rel_parts_of m s (rel_start m j) o.bytes (f.rel j l)) ∙ ap rel_parts (o.rel_is j l);
            };
      }

  pub saved_once : counts_fault m k ≡ 0 → OneSheet (scene_parts m k body rel) → SavedOnce m k body rel
  saved_once h o =
      record {
        number = o.number;
        there = λ z. holds (sheet_bytes (scene_parts m k body rel)) (counts_pass m k h).0 (o.there z);
        only = λ s p. o.only s (sheet_of s p);
      }

-- ---- what 6 means: test 6 of a relation's own bytes is what the definition asks of its structs

third_names : (m : ℕ) (l : Law) → m ≤ 64
    → not (uses_third (law_number l)) || (eqb (body_word (third_field l).body) GROUND || ltb (body_word (third_field l).body) m)
    ≡ third_there m l
third_names m (mate off) h = refl
third_names m (flush off) h = refl
third_names m (angle want reference) h = refl
third_names m (insert off aligned) h = refl
third_names m (tangent off inside) h = refl
third_names m (symmetry p) h = (word_names m p.body h).passes
third_names m (joint kind flip off want) h = refl
third_names m (gear teeth_a teeth_b want carrier) h = (word_names m carrier.body h).passes

rel_names_lem : (m : ℕ) (rel : Rel) → m ≤ 64 → RelIs (rel_parts rel)
    → rel_names m (rel_bytes (rel_parts rel)) 0 ≡ bodies_there m rel
unfolding rel_names end_names rel_parts_at rel_parts
rel_names_lem m rel h is =
    let s = rel_bytes (rel_parts rel) in
    let e = rel_parts_back (rel_parts rel) is in
    let word : (i : ℕ) → get_or (rel_parts_at s 0).words i 0 ≡ get_or (rel_parts rel).words i 0 = (λ i j. get_or (e j).words i 0) in
    let law : byte_at s 0 ≡ law_number rel.law = (λ j. byte_at (e j).bytes 0) in
    let a = word_names m rel.a.body h in
    let b = word_names m rel.b.body h in
    rw (word 2, word 3, word 4, law, a.passes, b.passes, third_names m rel.law h)

rel_number : (m : ℕ) (rel : Rel) → m ≤ 64 → RelIs (rel_parts rel) → rel_parts_fault m (rel_parts rel) ≡ rel_struct_fault m rel
unfolding rel_fault rel_struct_fault
rel_number m rel h is = rw (rel_names_lem m rel h is)

first_same : (f g : ℕ → ℕ) (k : ℕ) → ((j : ℕ) → j < k → f j ≡ g j) → first_fault f k ≡ first_fault g k
unfolding first_fault
first_same f g zero h = refl
first_same f g (suc k) h = rw (first_same f g k (λ j l. h j (omega arith)), h k (omega arith))

else_same : (c x y : ℕ) → (c ≡ 0 → x ≡ y) → or_else c x ≡ or_else c y
else_same zero x y h = h refl
else_same (suc c) x y h = refl

pub six : (m k : ℕ) (body : ℕ → Body) (rel : ℕ → Rel) (room r : ℕ)
    → (counts_fault m k ≡ 0 → (j : ℕ) → j < k → RelIs (rel_parts (rel j))) → r ≡ scene_fault (scene_parts m k body rel) room
    → Six m k body rel room r
unfolding scene_fault records_fault scene_struct_fault
six m k body rel room r is e =
    record {
      word = λ c b. word_names m b (counts_pass m k c).0;
      number =
          e
          ∙ else_same (counts_fault m k) _ _
          (λ c.
          let same = first_same (λ j. rel_parts_fault m (rel_parts (rel j))) (λ j. rel_struct_fault m (rel j)) k in
          rw (same (λ j l. rel_number m (rel j) (counts_pass m k c).0 (is c j l))));
    }

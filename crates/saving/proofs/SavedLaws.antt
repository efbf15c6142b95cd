-- Saving a scene of the code: one record more, the tests one after another, and the answer. By the laws of writing and of SavingLaws. Assumes nothing.
use mathlib.Core.Path.{◌≡◌, refl, sym, ap, ◌∙◌}
use mathlib.Core.Bool.{Bool, cond}
use mathlib.Core.List.{List, ◌++◌}
use mathlib.Core.Logic.{⊎_elim}
use Prim.Native.Nat.{ℕ, ◌+◌, ◌≤◌, ◌<◌}
use native.Mathlib.Nat.{eq-or-lt_of_le, le_of_suc-le-suc}
use native.Mathlib.Numerals.{add-one}
use native.Mathlib.Omega.{arith}
use lib.ListN.{length, drop}
use borrow.Author.Tests.{ne_eqb}
use Rattle.faults.specs.declared.fault.Fault.{Fault}
use Rattle.faults.specs.Fault.{number}
use Rattle.faults.proofs.FaultLaws.{number_nonzero}
use Rattle.format.specs.Format.{rel_start}
use Rattle.format.specs.Faults.{or_else}
use Rattle.format.proofs.RefusalLaws.{none_of, or_else_fault}
use Rattle.writing.specs.Bytes.{Put}
use Rattle.writing.specs.Writing.{BodyIs, RelIs, sheet_bytes, first_fault, counts_fault, records_fault, room_fault, scene_fault}
use Rattle.writing.proofs.SheetLaws.{counts_pass}
use Rattle.writing.proofs.OneSheetLaws.{one_sheet}
use Rattle.writing.proofs.LentLaws.{first_in_row, room_enough}
use Rattle.saving.specs.Saving.{body_parts, rel_parts}
use Rattle.saving.specs.Saved.{body_in, rel_in, parts_of, BodySaved, RelSaved, BodiesSaved, RelsSaved, SceneSaved, SaveAnswer}
use Rattle.saving.specs.declared.save.Scene.{Scene}
use Rattle.saving.proofs.SavingLaws.{saved_once, six}

-- ---- one record

-- ---- one record more

below : (P : ℕ → Type 0) (n : ℕ) → ((i : ℕ) → i < n → P i) → P n → (i : ℕ) → i < n + 1 → P i
below P n h z i l = ⊎_elim (λ (e : i ≡ n). rw e z) (λ (k : i < n). h i k) (eq-or-lt_of_le (le_of_suc-le-suc (rw (add-one n) at l)))

module _ (sc : Scene) where
  pub bodies_more : (i f g w : ℕ) → BodiesSaved sc i f → BodySaved (body_in sc i) g → w ≡ or_else f g → BodiesSaved sc (i + 1) w
  bodies_more i f g w p q e = record { number = rw (e, p.number, q.number, add-one i, (first_in_row _).more i); is = below (λ j. BodyIs (body_parts (body_in sc j))) i p.is q.is }

  pub rels_more : (j f g w : ℕ) → RelsSaved sc j f → RelSaved sc.m (rel_in sc j) g → w ≡ or_else f g → RelsSaved sc (j + 1) w
  rels_more j f g w p q e = record { number = rw (e, p.number, q.number, add-one j, (first_in_row _).more j); is = below (λ i. RelIs (rel_parts (rel_in sc i))) j p.is q.is }

  pub no_bodies : BodiesSaved sc 0 0
  unfolding first_fault
  no_bodies = record { number = refl; is = λ i l. absurd (omega arith) }

  pub no_rels : RelsSaved sc 0 0
  unfolding first_fault
  no_rels = record { number = refl; is = λ j l. absurd (omega arith) }

  -- ---- one test after another

  pub records_then : (room b r f w : ℕ) → 0 ≡ counts_fault sc.m sc.k → BodiesSaved sc sc.m b → RelsSaved sc sc.k r
      → f ≡ room_fault sc.m sc.k room → w ≡ or_else (or_else b r) f → SceneSaved sc room w
  unfolding scene_fault records_fault
  records_then room b r f w p x y q h =
      let number : w ≡ scene_fault (parts_of sc) room = rw (h, x.number, y.number, q, ← p) in
      record {
        number = number;
        six = six sc.m sc.k (body_in sc) (rel_in sc) room w (λ n. y.is) number;
        once = λ n. saved_once sc.m sc.k (body_in sc) (rel_in sc) n (one_sheet (parts_of sc) (record { body = x.is; rel = y.is }) n);
      }

  pub counts_stop : (room c : ℕ) (f : Fault) → c ≡ number f → number f ≡ counts_fault sc.m sc.k → SceneSaved sc room c
  unfolding scene_fault
  counts_stop room c f e p =
      let number : c ≡ scene_fault (parts_of sc) room = rw (e, ← p) (sym (or_else_fault f _)) in
      let ne : counts_fault sc.m sc.k ≡ 0 → ⊥ = λ z. number_nonzero f (p ∙ z) in
      record {
        number = number;
        six = six sc.m sc.k (body_in sc) (rel_in sc) room c (λ n. absurd (ne n)) number;
        once = λ n. absurd (ne n);
      }

  -- a scene that is accepted
  pub record Accepted (room : ℕ) : Type 0 where
    pub bodies : sc.m ≤ 64
    pub relations : sc.k ≤ 128
    pub room_is : rel_start sc.m sc.k ≤ room

  pub accepted : (room : ℕ) → 0 ≡ scene_fault (parts_of sc) room → Accepted room
  unfolding scene_fault
  accepted room e =
      let p = none_of (counts_fault sc.m sc.k) _ (sym e) in
      let q = none_of (records_fault (parts_of sc)) (room_fault sc.m sc.k room) p.1 in
      let n = counts_pass sc.m sc.k p.0 in
      record { bodies = n.0; relations = n.1; room_is = room_enough sc.m sc.k room q.1 }

  -- ---- the answer

  pub written : (sheet sheet' : List ℕ) (q : ℕ) → SceneSaved sc (length sheet) 0 → q ≡ rel_start sc.m sc.k → Put sheet sheet' 0 q (sheet_bytes (parts_of sc))
      → SaveAnswer sc 0 sheet sheet'
  written sheet sheet' q p e put =
      record {
        number = p.number;
        six = p.six;
        sheet_is = put.text ∙ ap (λ (o : ℕ). sheet_bytes (parts_of sc) ++ drop o sheet) e;
        once = p.once;
      }

  pub refused : (sheet : List ℕ) (n : ℕ) (f : Fault) → n ≡ number f → SceneSaved sc (length sheet) (number f) → SaveAnswer sc n sheet sheet
  refused sheet n f e p =
      let ne : n ≡ 0 → ⊥ = λ z. number_nonzero f (sym e ∙ z) in
      let q : SceneSaved sc (length sheet) n = rw e p in
      record {
        number = q.number;
        six = q.six;
        sheet_is = sym (ap (λ (t : Bool). cond t (sheet_bytes (parts_of sc) ++ drop (rel_start sc.m sc.k) sheet) sheet) (ne_eqb n 0 ne));
        once = q.once;
      }

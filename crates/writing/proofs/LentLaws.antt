-- A part of what is lent, a memory that a row of bytes fills, the first fault among one record more, and the tests one after another. Assumes nothing.
use mathlib.Core.Path.{◌≡◌, refl, sym, ap, ◌∙◌}
use mathlib.Core.Bool.{Bool, true, false, ◌&&◌, cond}
use mathlib.Core.List.{List, ◌++◌, append-nil}
use Prim.Native.Nat.{ℕ, ◌+◌, ◌*◌, ◌≤◌, ◌<◌}
use native.Mathlib.Omega.{arith}
use native.Mathlib.Nat.{min-le_left}
use lib.ListN.{length, get_or, take, drop, length-take, drop_of_length-le, get_or-eq_default}
use lib.Seq.{get_or-take, get_or-drop, take_at}
use lib.Dec.{T, leb, ltb}
use lib.Ieee.{Float, nan, binary64, fits}
use borrow.Author.Tests.{leb-true, ltb-true, ltb-false, ne_eqb}
use Rattle.faults.specs.declared.fault.Fault.{Fault}
use Rattle.faults.specs.Fault.{number}
use Rattle.faults.proofs.FaultLaws.{number_nonzero}
use Rattle.format.specs.Format.{rel_start}
use Rattle.format.specs.Faults.{unless}
use Rattle.format.proofs.RefusalLaws.{FirstOf, none_of, and_left, and_right}
use Rattle.writing.specs.Bytes.{part, Put}
use Rattle.writing.specs.Writing.{AllBytes, AllWords, AllDoubles, SceneIs, OneSheet, sheet_bytes, first_fault, counts_fault, records_fault, room_fault}
use Rattle.writing.proofs.NumberLaws.{part_length}
use Rattle.writing.specs.Structs.{SolverReads}
use Rattle.writing.proofs.SheetLaws.{counts_pass, sheet_length}
use Rattle.writing.proofs.OneSheetLaws.{one_sheet}
use Rattle.writing.proofs.StructLaws.{solver_reads}
use Rattle.writing.specs.Lent.{lent_scene, lent_fault, lent_scene_fault, write_fault, WriteAnswer}

-- ---- a part of what is lent

-- ---- a record's own memory

-- bytes that fill a memory are all that it holds
pub put_all : (s t : List ℕ) (r : ℕ) (l : List ℕ) → length s ≤ r → Put s t 0 r l → t ≡ l
put_all s t r l h p = p.text ∙ ap (λ (w : List ℕ). l ++ w) (drop_of_length-le s h) ∙ append-nil l

-- ---- tests in a row

pub first_in_row : (fault : ℕ → ℕ) → FirstOf fault (first_fault fault)
unfolding first_fault
first_in_row fault = record { none_yet = refl; more = λ n. refl }

-- ---- what a test that passes says

passed : (ok : Bool) (number : ℕ) → 0 < number → unless ok number ≡ 0 → ok ≡ true
passed true number h e = refl
passed false number h e = absurd (omega arith)

-- what is lent is whole
pub record Whole (m k a b c : ℕ) : Type 0 where
  pub bytes : 2 * m + 9 * k ≤ a
  pub words : 5 * k ≤ b
  pub numbers : 16 * m + 29 * k ≤ c

pub lent_whole : (m k a b c : ℕ) → lent_fault m k a b c ≡ 0 → Whole m k a b c
lent_whole m k a b c e =
    let p = passed (leb (2 * m + 9 * k) a && (leb (5 * k) b && leb (16 * m + 29 * k) c)) 10 (omega arith) e in
    record {
      bytes = leb-true _ _ (search (and_left, and_right));
      words = leb-true _ _ (search (and_left, and_right));
      numbers = leb-true _ _ (search (and_left, and_right));
    }

pub room_enough : (m k room : ℕ) → room_fault m k room ≡ 0 → rel_start m k ≤ room
room_enough m k room e = leb-true _ _ (passed (leb (rel_start m k) room) 10 (omega arith) e)

-- ---- the parts of what is lent are numbers of the machine

part_all : {A : Type 0} (P : A → Type 0) (d : A) (l : List A) → P d → ((i : ℕ) → P (get_or l i d)) → (o n i : ℕ) → P (get_or (part l o n) i d)
part_all P d l z h o n i = go (ltb i n) refl
  where
    go : (t : Bool) → ltb i n ≡ t → P (get_or (part l o n) i d)
    go true e = rw (get_or-take n (drop o l) i d (ltb-true i n e), get_or-drop o l i d) (h (o + i))
    go false e =
        let past : n ≤ i = ltb-false i n e in
        let few : length (part l o n) ≤ i = omega (arith, length-take n (drop o l), min-le_left n (length (drop o l))) in
        rw (get_or-eq_default (part l o n) d few) z

pub lent_is : (m k : ℕ) (bytes words : List ℕ) (numbers : List Float) → AllBytes bytes → AllWords words → AllDoubles numbers
    → Whole m k (length bytes) (length words) (length numbers) → SceneIs (lent_scene m k bytes words numbers)
unfolding fits
lent_is m k bytes words numbers b w x all =
    let h = all.bytes in
    let g = all.words in
    let f = all.numbers in
    record {
      body =
          λ i l.
          record {
            two = part_length bytes (2 * i) 2 (omega arith);
            sixteen = part_length numbers (16 * i) 16 (omega arith);
            bytes = part_all (λ n. n < 256) 0 bytes (omega arith) b (2 * i) 2;
            numbers = part_all (λ y. T (fits binary64 y)) nan numbers tt x (16 * i) 16;
          };
      rel =
          λ j l.
          record {
            nine = part_length bytes (2 * m + 9 * j) 9 (omega arith);
            five = part_length words (5 * j) 5 (omega arith);
            all = part_length numbers (16 * m + 29 * j) 29 (omega arith);
            bytes = part_all (λ n. n < 256) 0 bytes (omega arith) b (2 * m + 9 * j) 9;
            words = part_all (λ n. n < 0x1_0000) 0 words (omega arith) w (5 * j) 5;
            numbers = part_all (λ y. T (fits binary64 y)) nan numbers tt x (16 * m + 29 * j) 29;
          };
    }

-- ---- one test after another

module _ (m k : ℕ) (bytes words : List ℕ) (numbers : List Float) where
  -- a call that is accepted
  pub record Accepted (room : ℕ) : Type 0 where
    pub counts : counts_fault m k ≡ 0
    pub lent : lent_fault m k (length bytes) (length words) (length numbers) ≡ 0
    pub records : records_fault (lent_scene m k bytes words numbers) ≡ 0
    pub bodies : m ≤ 64
    pub relations : k ≤ 128
    pub whole : Whole m k (length bytes) (length words) (length numbers)
    pub room_is : rel_start m k ≤ room

  pub accepted : (room : ℕ) → 0 ≡ write_fault m k bytes words numbers room → Accepted room
  unfolding write_fault lent_scene_fault
  accepted room e =
      let p = none_of (counts_fault m k) _ (sym e) in
      let q = none_of (lent_scene_fault m k bytes words numbers) (room_fault m k room) p.1 in
      let r = none_of (lent_fault m k (length bytes) (length words) (length numbers)) (records_fault (lent_scene m k bytes words numbers)) q.0 in
      record {
        counts = p.0;
        lent = r.0;
        records = r.1;
        bodies = (counts_pass m k p.0).0;
        relations = (counts_pass m k p.0).1;
        whole = lent_whole m k _ _ _ r.0;
        room_is = room_enough m k room q.1;
      }

  -- ---- the answer

  module _ (b : AllBytes bytes) (w : AllWords words) (x : AllDoubles numbers) where
    once : counts_fault m k ≡ 0 → lent_fault m k (length bytes) (length words) (length numbers) ≡ 0 → OneSheet (lent_scene m k bytes words numbers)
    once p q = one_sheet (lent_scene m k bytes words numbers) (lent_is m k bytes words numbers b w x (lent_whole m k _ _ _ q)) p

    -- the bytes of the scene's sheet, whatever stands behind them
    in_place : (sheet rest : List ℕ) → sheet ≡ sheet_bytes (lent_scene m k bytes words numbers) ++ rest → (room : ℕ)
        → Accepted room → SolverReads (lent_scene m k bytes words numbers) (take (rel_start m k) sheet)
    in_place sheet rest e room a =
        let sc = lent_scene m k bytes words numbers in
        let there = (once a.counts a.lent).there a.records in
        rw (e, take_at (sheet_bytes sc) rest (rel_start m k) (sheet_length sc)) (solver_reads sc (sheet_bytes sc) there)

    pub written : (sheet sheet' : List ℕ) (q : ℕ) → 0 ≡ write_fault m k bytes words numbers (length sheet) → q ≡ rel_start m k
        → Put sheet sheet' 0 q (sheet_bytes (lent_scene m k bytes words numbers)) → WriteAnswer m k bytes words numbers 0 sheet sheet'
    written sheet sheet' q p e put =
        record {
          number = p;
          sheet_is = put.text ∙ ap (λ (o : ℕ). sheet_bytes (lent_scene m k bytes words numbers) ++ drop o sheet) e;
          one_sheet = once;
          solver_reads = λ o. in_place sheet' (drop q sheet) put.text (length sheet) (accepted (length sheet) p);
        }

    pub refused : (sheet : List ℕ) (n : ℕ) (f : Fault) → n ≡ number f → number f ≡ write_fault m k bytes words numbers (length sheet)
        → WriteAnswer m k bytes words numbers n sheet sheet
    refused sheet n f e p =
        let ne : n ≡ 0 → ⊥ = λ z. number_nonzero f (sym e ∙ z) in
        record {
          number = e ∙ p;
          sheet_is = sym (ap (λ (t : Bool). cond t (sheet_bytes (lent_scene m k bytes words numbers) ++ drop (rel_start m k) sheet) sheet) (ne_eqb n 0 ne));
          one_sheet = once;
          solver_reads = λ z. absurd (ne z);
        }

-- A scene whose counts fit has one sheet: its tests give the number that reading the sheet gives, a scene that passes is read back from what was written, and any accepted
-- sheet that reads as the scene has the same bytes. Record by record: each stands in the sheet with its own bytes, and its parts and its bytes give one another. Assumes nothing.
use Prim.Native.Nat.{ℕ, ◌+◌, ◌≤◌}
use mathlib.Core.Path.{◌≡◌, sym, ap, ◌∙◌}
use mathlib.Core.List.{List}
use native.Mathlib.Omega.{arith}
use lib.ListN.{length, take, drop}
use Rattle.format.specs.Format.{body_start, rel_start}
use Rattle.format.specs.Faults.{body_fault, rel_fault, sheet_fault}
use Rattle.format.proofs.RefusalLaws.{faultless, sheet_passes}
use Rattle.writing.specs.Writing.{SceneParts, body_bytes, rel_bytes, sheet_bytes, counts_fault, body_parts_at, rel_parts_at, ReadsAs, AllBytes, SceneIs, SheetOf, OneSheet}
use Rattle.writing.proofs.NumberLaws.{part_length, part_bytes}
use Rattle.writing.proofs.RecordLaws.{body_parts_back, rel_parts_back, body_bytes_again, rel_bytes_again}
use Rattle.writing.proofs.LocalLaws.{own_bytes, body_fault_same, rel_fault_same, body_parts_same, rel_parts_same}
use Rattle.writing.proofs.SheetLaws.{counts_pass, sheet_bodies, sheet_relations, body_in_sheet, rel_in_sheet, records_number, sheet_bytes_lem, sheet_again}

-- the parts of a record that passes give its bytes
body_again : (s : List ℕ) (o : ℕ) → AllBytes s → o + 136 ≤ length s → body_fault s o ≡ 0 → body_bytes (body_parts_at s o) ≡ take 136 (drop o s)
body_again s o h l f =
    let own = own_bytes s o 136 in
    let t = take 136 (drop o s) in
    rw (body_parts_same s o t 0 own)
    (body_bytes_again t (part_bytes s o 136 h) (part_length s o 136 l) (sym (body_fault_same s o t 0 own) ∙ f))

rel_again : (m : ℕ) (s : List ℕ) (r : ℕ) → AllBytes s → r + 264 ≤ length s → rel_fault m s r ≡ 0 → rel_bytes (rel_parts_at s r) ≡ take 264 (drop r s)
rel_again m s r h l f =
    let own = own_bytes s r 264 in
    let t = take 264 (drop r s) in
    rw (rel_parts_same s r t 0 own)
    (rel_bytes_again m t (part_bytes s r 264 h) (part_length s r 264 l) (sym (rel_fault_same s r t 0 own m) ∙ f))

-- what is written reads as the scene
reads_back : (sc : SceneParts) → SceneIs sc → sc.m ≤ 64 → sc.k ≤ 128 → ReadsAs sc (sheet_bytes sc)
reads_back sc h hm hk =
    record {
      bodies = sheet_bodies sc hm hk;
      relations = sheet_relations sc hm hk;
      body =
          λ i l. body_parts_same (sheet_bytes sc) (body_start i) (body_bytes (sc.body i)) 0 (body_in_sheet sc i l) ∙ body_parts_back (sc.body i) (h.body i l);
      rel =
          λ j l. rel_parts_same (sheet_bytes sc) (rel_start sc.m j) (rel_bytes (sc.rel j)) 0 (rel_in_sheet sc j l) ∙ rel_parts_back (sc.rel j) (h.rel j l);
    }

-- an accepted sheet that reads as the scene is the one written
written : (sc : SceneParts) (s : List ℕ) → SheetOf sc s → sheet_bytes sc ≡ s
written sc s o =
    let m = o.reads.bodies in
    let k = o.reads.relations in
    let size = (sheet_passes s o.accepted).whole in
    let long : length s ≡ rel_start sc.m sc.k = rw (m, k) at size in
    let f = faultless s sc.m sc.k m k o.accepted in
    sheet_again sc s o.bytes o.accepted m k
    (λ i l. rw (← (o.reads.body i l)) (body_again s (body_start i) o.bytes (omega arith) (f.body i l)))
    (λ j l. rw (← (o.reads.rel j l)) (rel_again sc.m s (rel_start sc.m j) o.bytes (omega arith) (f.rel j l)))

pub one_sheet : (sc : SceneParts) → SceneIs sc → counts_fault sc.m sc.k ≡ 0 → OneSheet sc
one_sheet sc h c =
    let fits = counts_pass sc.m sc.k c in
    let number = records_number sc c in
    record {
      number = number;
      there = λ e. record { bytes = sheet_bytes_lem sc h; accepted = sym number ∙ e; reads = reads_back sc h fits.0 fits.1 };
      only = λ s o. let e = written sc s o in (e, number ∙ ap sheet_fault e ∙ o.accepted);
    }

-- What the solver reads in a sheet is made of the parts that the sheet holds, body by body and relation by relation:
-- each field is the same byte, word or double. So an accepted sheet that reads as a scene in parts is read by the
-- solver as the scene's bodies and relations. Assumes nothing.
use Prim.Native.Nat.{ℕ}
use mathlib.Core.Path.{◌≡◌, ap, ◌∙◌}
use mathlib.Core.List.{List}
use native.Mathlib.Nat.{add_assoc, add-zero}
use Rattle.records.specs.Record.{body_at, end_at, law_by, rel_at}
use Rattle.format.specs.Format.{body_start, rel_start}
use Rattle.writing.specs.Writing.{SceneParts, doubles_at, body_parts_at, rel_parts_at, SheetOf}
use Rattle.writing.specs.Structs.{body_from, end_from, law_from, rel_from, SolverReads}

pub body_from_lem : (s : List ℕ) (o : ℕ) → body_at s o ≡ body_from (body_parts_at s o)
unfolding body_at body_from body_parts_at doubles_at
body_from_lem s o = simp (add_assoc, add-zero)

pub rel_from_lem : (s : List ℕ) (r : ℕ) → rel_at s r ≡ rel_from (rel_parts_at s r)
unfolding rel_at law_by end_at rel_from law_from end_from rel_parts_at doubles_at
rel_from_lem s r = simp (add_assoc, add-zero)

pub solver_reads : (sc : SceneParts) (s : List ℕ) → SheetOf sc s → SolverReads sc s
solver_reads sc s o =
    let reads = o.reads in
    record {
      accepted = o.accepted;
      bodies = reads.bodies;
      relations = reads.relations;
      body_is = λ i l. body_from_lem s (body_start i) ∙ ap body_from (reads.body i l);
      rel_is = λ j l. rel_from_lem s (rel_start sc.m j) ∙ ap rel_from (reads.rel j l);
    }

-- The answer of `sheet_dof` from its parts: what an accepted call says of the sheet and of the lent lengths, and the promise's fields from what `dof` has filled in.
-- Assumes nothing.
use mathlib.Core.Path.{◌≡◌, refl, sym, ap, ◌∙◌}
use mathlib.Core.List.{List}
use Prim.Native.Nat.{ℕ, ◌+◌, ◌*◌, ◌≤◌}
use native.Mathlib.Omega.{arith}
use lib.ListN.{length}
use lib.Dec.{leb}
use lib.Ieee.{Float}
use borrow.Author.Tests.{leb-true, ne_eqb}
use Rattle.records.specs.Record.{body_at}
use Rattle.scene.specs.Scene.{scene_in}
use Rattle.scene.specs.Scene.{Laid, SceneMade, scene_of}
use Rattle.scene.specs.Solve.{Scene}
use Rattle.body_freedom.specs.Dof.{dof}
use Rattle.least_squares.proofs.TableLaws.{length_list_of}
use Rattle.scene.specs.declared.scene.Scene.{Scene as SceneStruct}
use Rattle.freedom.specs.Freed.{need, Freed}
use Rattle.freedom.proofs.DofLaws.{total_few}
use Rattle.format.specs.Format.{bodies_of, relations_of}
use Rattle.refusals.specs.SceneAt.{scene_at}
use Rattle.format.specs.Faults.{unless, sheet_fault}
use Rattle.refusals.specs.Refusals.{dof_scratch, dof_fault}
use Rattle.sheet.specs.Freedoms.{freedoms_of, DofAnswer}
use Rattle.format.proofs.RefusalLaws.{none_of}
use Rattle.scene.proofs.LayoutLaws.{unknowns_le}
use Rattle.refusals.proofs.FigureLaws.{counted, few, row_count, scene_is, unknown_count}
use Rattle.sheet.proofs.SolvingLaws.{passes}

-- ---- what an accepted call says

-- the sheet passes tests 1 to 7 and 14, and what is lent is long enough
pub record Accepted (s : List ℕ) (scratch freedoms : ℕ) : Type 0 where
  pub sheet : sheet_fault s ≡ 0
  pub scratch_long : dof_scratch s ≤ scratch
  pub freedoms_long : 29 * bodies_of s ≤ freedoms

pub accepted : (s : List ℕ) (scratch freedoms : ℕ) → dof_fault s scratch freedoms ≡ 0 → Accepted s scratch freedoms
unfolding dof_fault
accepted s scratch freedoms h =
    let p = none_of (sheet_fault s) _ h in
    let l = none_of (unless (leb (29 * bodies_of s) freedoms) 10) _ p.1 in
    record {
      sheet = p.0;
      scratch_long = leb-true (dof_scratch s) scratch (passes (leb (dof_scratch s) scratch) 8 l.1);
      freedoms_long = leb-true (29 * bodies_of s) freedoms (passes (leb (29 * bodies_of s) freedoms) 9 l.0);
    }

-- at most six for each of 64 bodies twice over
pub whole_few : (s : List ℕ) → sheet_fault s ≡ 0 → (freedoms_of s).total ≤ 768
unfolding dof scene_in
whole_few s h =
    let k = counted s h in
    let q = length_list_of (λ i. body_at s (24 + 136 * i)) (bodies_of s) in
    omega (arith, total_few (scene_at s), unknowns_le (scene_at s), k.0)

-- ---- what `dof` asks for

module _ (s : List ℕ) (c : SceneStruct) (made : SceneMade s 24 (bodies_of s) (24 + 136 * bodies_of s) (relations_of s) c) where
  need_is : need c ≡ dof_scratch s
  need_is = rw (row_count s c made, unknown_count s c made, made.body_count)

  abbrev pub Asked : ℕ → ℕ → Type 0
  Asked scratch freedoms = Laid s c × (((c.rows ≤ 896) × (c.n ≤ 384)) × ((need c ≤ scratch) × (29 * c.m ≤ freedoms)))

  pub asked : (scratch freedoms f : ℕ) → f ≡ dof_fault s scratch freedoms → f ≡ 0 → Asked scratch freedoms
  asked scratch freedoms f e z =
      let a = accepted s scratch freedoms (sym e ∙ z) in
      let l = few s c made a.sheet in
      let m = made.body_count in
      let n = need_is in
      (made.laid, ((l.rows, l.unknowns), (omega (arith, a.scratch_long), omega (arith, a.freedoms_long))))

  -- the whole freedom fits a `u32`
  pub total_fits : (scratch freedoms f : ℕ) (r t d e : List Float) (total : ℕ) → f ≡ dof_fault s scratch freedoms → f ≡ 0 → Freed (scene_of s c) c.m r t d e total → total ≤ 768
  total_fits scratch freedoms f r t d e total q z y =
      let w : total ≡ (freedoms_of s).total = y.total_is ∙ ap (λ (sc : Scene). (dof sc).total) (scene_is s c made) in
      omega (arith, w, whole_few s (accepted s scratch freedoms (sym q ∙ z)).sheet)

-- ---- the promise

module _ (s : List ℕ) (scratch scratch' freedoms freedoms' : List Float) (free free' : ℕ) where
  pub answered : (f : ℕ) (c : SceneStruct) → f ≡ dof_fault s (length scratch) (length freedoms) → f ≡ 0
      → SceneMade s 24 (bodies_of s) (24 + 136 * bodies_of s) (relations_of s) c → Freed (scene_of s c) c.m scratch scratch' freedoms freedoms' free'
      → DofAnswer s 0 scratch scratch' freedoms freedoms' free free'
  answered f c e z made freed =
      let w : Freed (scene_at s) (bodies_of s) scratch scratch' freedoms freedoms' free' = rw (← scene_is s c made, ← made.body_count) freed in
      record {
        number = sym z ∙ e;
        freedoms_are = w.freedoms_are;
        free_is = w.total_is;
        scratch_kept = λ ne. absurd (ne refl);
        scratch_size = w.size;
      }

module _ (s : List ℕ) (scratch freedoms : List Float) (free : ℕ) where
  pub refused : (r : ℕ) → r ≡ dof_fault s (length scratch) (length freedoms) → (r ≡ 0 → ⊥) → DofAnswer s r scratch scratch freedoms freedoms free free
  refused r e ne =
      let t = ne_eqb r 0 ne in
      record { number = e; freedoms_are = rw t; free_is = rw t; scratch_kept = λ q. refl; scratch_size = refl }

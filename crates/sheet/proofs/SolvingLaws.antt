-- The answer of `solve` on a sheet from its parts: what an accepted call says of the sheet and of the lent lengths, and the promise's fields from what `solve` has filled in.
-- Assumes nothing.
use mathlib.Core.Path.{◌≡◌, refl, sym, ap, ◌∙◌}
use mathlib.Core.Bool.{Bool, true, false, ◌&&◌, cond}
use mathlib.Core.List.{List}
use mathlib.Core.Option.{Option, none, some}
use Prim.Native.Nat.{ℕ, suc, ◌+◌, ◌*◌, ◌≤◌}
use native.Mathlib.Omega.{arith}
use lib.ListN.{length}
use lib.Dec.{leb}
use lib.Ieee.{Float}
use borrow.Author.Tests.{leb-true, eq-eqb, ne_eqb}
use Rattle.records.specs.Numbers.{flag_number, GROUND, by_number}
use Rattle.records.specs.Record.{body_number_at}
use Rattle.scene.specs.Scene.{Laid, SceneMade, scene_of}
use Rattle.scene.specs.Solve.{Parameters, FINEST, COARSEST, from_to, in_range}
use Rattle.scene.specs.declared.scene.Scene.{Scene as SceneStruct}
use Rattle.placement.specs.Answer.{Filled}
use Rattle.closeness.proofs.HowCloselyLaws.{how_closely, rounds_end}
use Rattle.least_squares.specs.Triangle.{triangle}
use Rattle.rounds.specs.Parts.{need}
use Rattle.format.specs.Format.{bodies_of, relations_of}
use Rattle.refusals.specs.SceneAt.{scene_at}
use Rattle.format.specs.Faults.{unless, sheet_fault}
use Rattle.refusals.specs.Refusals.{drag_fault, parameters_fault, solve_scratch, solve_with_fault}
use Rattle.sheet.specs.Solving.{drag_of, SolveWithAnswer}
use Rattle.format.proofs.RefusalLaws.{none_of, and_left, and_right}
use Rattle.refusals.proofs.FigureLaws.{few, row_count, scene_is, unknown_count}
use Rattle.sheet.proofs.LimitLaws.{all_small}

-- ---- the dragged body

pub drag_ground : (drag : ℕ) → drag ≡ GROUND → none ≡ drag_of drag
unfolding body_number_at by_number
drag_ground drag e = rw (eq-eqb drag GROUND e)

pub drag_body : (drag : ℕ) → (drag ≡ GROUND → ⊥) → some drag ≡ drag_of drag
unfolding body_number_at by_number
drag_body drag ne = rw (ne_eqb drag GROUND ne)

-- ---- what an accepted call says

pub passes : (t : Bool) (n : ℕ) → ◌≡◌ {A = ℕ} (cond t 0 (suc n)) 0 → t ≡ true
passes true n h = refl
passes false n h = absurd (let z : ◌≡◌ {A = ℕ} (suc n) 0 = h in omega arith)

-- the sheet passes tests 1 to 7 and 14, what is chosen is in range, and what is lent is long enough
pub record Accepted (s : List ℕ) (p : Parameters) (scratch poses frames errors : ℕ) : Type 0 where
  pub sheet : sheet_fault s ≡ 0
  pub range : in_range p ≡ true
  pub scratch_long : solve_scratch s ≤ scratch
  pub poses_long : 12 * bodies_of s ≤ poses
  pub frames_long : 12 * bodies_of s ≤ frames
  pub errors_long : relations_of s ≤ errors

pub accepted : (s : List ℕ) (p : Parameters) (drag scratch poses frames errors : ℕ) → solve_with_fault s p drag scratch poses frames errors ≡ 0 → Accepted s p scratch poses frames errors
unfolding solve_with_fault
accepted s p drag scratch poses frames errors h =
    let a = none_of (sheet_fault s) _ h in
    let d = none_of (drag_fault s drag) _ a.1 in
    let c = none_of (parameters_fault p) _ d.1 in
    let l = none_of (unless (leb (12 * bodies_of s) poses && (leb (12 * bodies_of s) frames && leb (relations_of s) errors)) 10) _ c.1 in
    let t = passes (leb (12 * bodies_of s) poses && (leb (12 * bodies_of s) frames && leb (relations_of s) errors)) 9 l.0 in
    let u = and_right (leb (12 * bodies_of s) poses) _ t in
    record {
      sheet = a.0;
      range = passes (in_range p) 14 c.0;
      scratch_long = leb-true (solve_scratch s) scratch (passes (leb (solve_scratch s) scratch) 8 l.1);
      poses_long = leb-true (12 * bodies_of s) poses (and_left (leb (12 * bodies_of s) poses) _ t);
      frames_long = leb-true (12 * bodies_of s) frames (and_left (leb (12 * bodies_of s) frames) _ u);
      errors_long = leb-true (relations_of s) errors (and_right (leb (12 * bodies_of s) frames) _ u);
    }

-- at most 800 rows are iterated
few_rows : (p : Parameters) → in_range p ≡ true → p.row_limit ≤ 800
unfolding in_range
few_rows p h =
    let a = and_right (from_to FINEST COARSEST p.tolerance) _ h in
    let b = and_right (leb 1 p.rounds && leb p.rounds 1000) _ a in
    let c = and_left (leb 1 p.row_limit && leb p.row_limit 800) _ b in
    leb-true p.row_limit 800 (and_right (leb 1 p.row_limit) _ c)

-- ---- what `solve` asks for

module _ (s : List ℕ) (c : SceneStruct) (made : SceneMade s 24 (bodies_of s) (24 + 136 * bodies_of s) (relations_of s) c) where
  pub need_is : need c ≡ solve_scratch s
  unfolding triangle
  need_is = rw (row_count s c made, unknown_count s c made, made.body_count)

  abbrev pub Asked : Parameters → ℕ → ℕ → ℕ → ℕ → Type 0
  Asked p scratch poses frames errors =
      Laid s c × (((c.rows ≤ 896) × (c.n ≤ 384) × (p.row_limit ≤ 800)) × ((need c ≤ scratch) × ((12 * c.m ≤ poses) × ((12 * c.m ≤ frames) × (c.k ≤ errors)))))

  pub asked : (p : Parameters) (drag scratch poses frames errors f : ℕ) → f ≡ solve_with_fault s p drag scratch poses frames errors → f ≡ 0 → Asked p scratch poses frames errors
  asked p drag scratch poses frames errors f e z =
      let a = accepted s p drag scratch poses frames errors (sym e ∙ z) in
      let l = few s c made a.sheet in
      let m = made.body_count in
      let k = made.rel_count in
      let n = need_is in
      (made.laid, ((l.rows, l.unknowns, few_rows p a.range), (omega (arith, a.scratch_long), (omega (arith, a.poses_long), (omega (arith, a.frames_long), omega (arith, a.errors_long))))))

-- ---- the promise

module _ (s : List ℕ) (p : Parameters) (drag : ℕ) (scratch scratch' poses poses' frames frames' errors errors' : List Float) (flag flag' : ℕ) where
  pub answered : (f : ℕ) (c : SceneStruct) (place : Option ℕ) (ok : Bool) → f ≡ solve_with_fault s p drag (length scratch) (length poses) (length frames) (length errors) → f ≡ 0
      → SceneMade s 24 (bodies_of s) (24 + 136 * bodies_of s) (relations_of s) c → place ≡ drag_of drag → length scratch' ≡ length scratch
      → Filled (scene_of s c) p place c.m c.k poses poses' frames frames' errors errors' ok → flag' ≡ flag_number ok
      → SolveWithAnswer s p drag 0 scratch scratch' poses poses' frames frames' errors errors' flag flag'
  answered f c place ok e z made d size filled fl =
      let a = accepted s p drag (length scratch) (length poses) (length frames) (length errors) (sym e ∙ z) in
      let w : Filled (scene_at s) p (drag_of drag) (bodies_of s) (relations_of s) poses poses' frames frames' errors errors' ok =
      rw (← scene_is s c made, ← d, ← made.body_count, ← made.rel_count) filled in
      record {
        number = sym z ∙ e;
        poses_are = w.poses_are;
        frames_are = w.frames_are;
        errors_are = w.errors_are;
        flag_is = fl ∙ ap (λ (b : Bool). flag_number b) w.converged;
        scratch_kept = λ ne. absurd (ne refl);
        scratch_size = size;
        closely = λ q. how_closely (scene_at s) p (drag_of drag) a.range (all_small s a.sheet);
        rounds = rounds_end (scene_at s) p (drag_of drag);
      }

module _ (s : List ℕ) (p : Parameters) (drag : ℕ) (scratch poses frames errors : List Float) (flag : ℕ) where
  pub refused : (r : ℕ) → r ≡ solve_with_fault s p drag (length scratch) (length poses) (length frames) (length errors) → (r ≡ 0 → ⊥)
      → SolveWithAnswer s p drag r scratch scratch poses poses frames frames errors errors flag flag
  refused r e ne =
      let t = ne_eqb r 0 ne in
      record {
        number = e;
        poses_are = rw t;
        frames_are = rw t;
        errors_are = rw t;
        flag_is = rw t;
        scratch_kept = λ q. refl;
        scratch_size = refl;
        closely = λ q. absurd (ne q);
        rounds = rounds_end (scene_at s) p (drag_of drag);
      }

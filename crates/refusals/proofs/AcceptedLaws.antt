-- What a call that begins or goes on and is not refused says of the sheet, of what is chosen and of the lent lengths:
-- each of the tests, in the parts that `rounds_parts` splits them into, gave 0. Assumes nothing.
use mathlib.Core.Path.{◌≡◌, refl, sym, ◌∙◌}
use mathlib.Core.Bool.{Bool, true, false, ◌&&◌, cond}
use mathlib.Core.List.{List}
use Prim.Native.Nat.{ℕ, suc, ◌*◌, ◌≤◌}
use native.Mathlib.Omega.{arith}
use lib.Dec.{eqb, leb}
use borrow.Author.Tests.{leb-true, eqb-true}
use Rattle.scene.specs.Solve.{Parameters, in_range, unknowns}
use Rattle.format.specs.Format.{bodies_of, relations_of}
use Rattle.format.specs.Faults.{unless, sheet_fault}
use Rattle.format.proofs.RefusalLaws.{none_of, and_left, and_right}
use Rattle.refusals.specs.SceneAt.{scene_at}
use Rattle.refusals.specs.Refusals.{rows_in, drag_fault, parameters_fault, solve_scratch, state_length, portion_fits, counts_fit, rounds_fault, begin_fault, on_fault}
use Rattle.refusals.specs.Parts.{call_fault, lent_fault, solve_long, portion_fault}
use Rattle.refusals.proofs.PortionLaws.{rounds_parts}

passes : (t : Bool) (n : ℕ) → ◌≡◌ {A = ℕ} (cond t 0 (suc n)) 0 → t ≡ true
passes true n h = refl
passes false n h = absurd (let z : ◌≡◌ {A = ℕ} (suc n) 0 = h in omega arith)

-- the sheet passes tests 1 to 7 and 14, what is chosen is in range, and what is lent is long enough
pub record AcceptedByRounds (s : List ℕ) (p : Parameters) (state scratch poses frames errors : ℕ) : Type 0 where
  pub sheet : sheet_fault s ≡ 0
  pub range : in_range p ≡ true
  pub state_long : state_length s ≤ state
  pub scratch_long : solve_scratch s ≤ scratch
  pub poses_long : 12 * bodies_of s ≤ poses
  pub frames_long : 12 * bodies_of s ≤ frames
  pub errors_long : relations_of s ≤ errors

-- and the counts are the sheet's
pub record AcceptedOn (s : List ℕ) (p : Parameters) (n R state scratch poses frames errors : ℕ) : Type 0 where
  pub accepted : AcceptedByRounds s p state scratch poses frames errors
  pub unknowns_are : n ≡ unknowns (scene_at s)
  pub rows_are : R ≡ rows_in (scene_at s)

module _ (s : List ℕ) (p : Parameters) (drag portion : ℕ) where
  rounds_accepted : (counted : Bool) (state scratch poses frames errors : ℕ) → rounds_fault s p drag portion counted state scratch poses frames errors ≡ 0
      → AcceptedByRounds s p state scratch poses frames errors × (counted ≡ true)
  unfolding call_fault portion_fault lent_fault solve_long
  rounds_accepted counted state scratch poses frames errors h =
      let P = leb (12 * bodies_of s) poses in
      let F = leb (12 * bodies_of s) frames in
      let E = leb (relations_of s) errors in
      let parts = none_of (call_fault s p drag) (portion_fault s portion counted state scratch poses frames errors) (sym (rounds_parts s p drag portion counted state scratch poses frames errors) ∙ h) in
      let a = none_of (sheet_fault s) _ parts.0 in
      let c = none_of (drag_fault s drag) (parameters_fault p) a.1 in
      let r = none_of (unless (portion_fits portion && counted) 16) _ parts.1 in
      let q = none_of (unless (leb (state_length s) state) 10) _ r.1 in
      let l = none_of (unless (P && (F && E)) 10) _ q.1 in
      let t = passes (portion_fits portion && counted) 15 r.0 in
      let v = passes (P && (F && E)) 9 l.0 in
      let w = and_right P (F && E) v in (
        record {
          sheet = a.0;
          range = passes (in_range p) 14 c.1;
          state_long = leb-true (state_length s) state (passes (leb (state_length s) state) 9 q.0);
          scratch_long = leb-true (solve_scratch s) scratch (passes (leb (solve_scratch s) scratch) 8 l.1);
          poses_long = leb-true (12 * bodies_of s) poses (and_left P (F && E) v);
          frames_long = leb-true (12 * bodies_of s) frames (and_left F E w);
          errors_long = leb-true (relations_of s) errors (and_right F E w);
        },
        and_right (portion_fits portion) counted t,
      )

  pub begin_accepted : (state scratch poses frames errors : ℕ) → begin_fault s p drag portion state scratch poses frames errors ≡ 0
      → AcceptedByRounds s p state scratch poses frames errors
  begin_accepted state scratch poses frames errors h = (rounds_accepted true state scratch poses frames errors h).0

  pub on_accepted : (n R state scratch poses frames errors : ℕ) → on_fault s p drag portion n R state scratch poses frames errors ≡ 0
      → AcceptedOn s p n R state scratch poses frames errors
  on_accepted n R state scratch poses frames errors h =
      let a = rounds_accepted (counts_fit s n R) state scratch poses frames errors h in
      record {
        accepted = a.0;
        unknowns_are = eqb-true n (unknowns (scene_at s)) (and_left (eqb n (unknowns (scene_at s))) _ a.1);
        rows_are = eqb-true R (rows_in (scene_at s)) (and_right (eqb n (unknowns (scene_at s))) _ a.1);
      }

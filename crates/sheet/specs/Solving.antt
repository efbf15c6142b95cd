-- What `solve` answers on a sheet that no test refuses, what then stands in each lent place, and how closely. Document 01, "What a call says", "The words of demand 3";
-- document 02, 5/14: the same with what the call chooses, and 8/14: a call that chooses nothing. Definitions only.
use Rattle.std.specs.Prelude.{ℕ, ◌*◌, ◌≤◌, ◌≡◌, cond, List, ◌++◌, length, drop, eqb, Float}
use Rattle.std.proofs.Math.Option.{Option}
use Rattle.records.specs.Numbers.{flag_number}
use Rattle.records.specs.Record.{body_number_at}
use Rattle.scene.specs.Scene.{poses_doubles}
use Rattle.scene.specs.Solve.{Solution, Parameters, plain, solve_with}
use Rattle.placement.specs.Answer.{frames_doubles}
use Rattle.closeness.specs.HowClosely.{HowClosely, rounds_of}
use Rattle.format.specs.Format.{bodies_of, relations_of}
use Rattle.refusals.specs.SceneAt.{scene_at}
use Rattle.refusals.specs.Refusals.{solve_with_fault}

-- the dragged body, by the number that an end has for its body: 65535 is none
abbrev pub drag_of : ℕ → Option ℕ
drag_of drag = body_number_at drag

-- what a call chooses, as C hands it over
abbrev pub chosen : Float → ℕ → ℕ → Float → Parameters
chosen tolerance rounds row_limit drag_weight = record { tolerance = tolerance; rounds = rounds; row_limit = row_limit; drag_weight = drag_weight }

-- the answer of `solve` on an accepted sheet
abbrev pub solution_with : List ℕ → Parameters → ℕ → Solution
solution_with s p drag = solve_with (scene_at s) p (drag_of drag)

-- The promise: the number r, and the lent places at entry and at exit. What the scratch holds at entry has no say in it.
pub record SolveWithAnswer (s : List ℕ) (p : Parameters) (drag r : ℕ) (scratch scratch' poses poses' frames frames' errors errors' : List Float) (flag flag' : ℕ) : Type 0 where
  pub number : r ≡ solve_with_fault s p drag (length scratch) (length poses) (length frames) (length errors)
  -- on refusal the same; else P, and a longer slice keeps its rest
  pub poses_are : poses' ≡ cond (eqb r 0) (poses_doubles (solution_with s p drag).poses ++ drop (12 * bodies_of s) poses) poses
  pub frames_are : frames' ≡ cond (eqb r 0) (frames_doubles (solution_with s p drag).frames ++ drop (12 * bodies_of s) frames) frames
  pub errors_are : errors' ≡ cond (eqb r 0) ((solution_with s p drag).errors ++ drop (relations_of s) errors) errors
  pub flag_is : flag' ≡ cond (eqb r 0) (flag_number (solution_with s p drag).converged) flag
  -- on acceptance any doubles may stand in scratch
  pub scratch_kept : (r ≡ 0 → ⊥) → scratch' ≡ scratch
  pub scratch_size : length scratch' ≡ length scratch
  -- demand 3, by the chosen tolerance
  pub closely : r ≡ 0 → HowClosely (scene_at s) p.tolerance (solution_with s p drag)
  -- demand 1: at most two runs of the chosen rounds
  pub rounds : rounds_of (scene_at s) p (drag_of drag) ≤ 2 * p.rounds

-- a call that chooses nothing: within 1e-9, at most two runs of 60 rounds
abbrev pub SolveAnswer : List ℕ → ℕ → ℕ → List Float → List Float → List Float → List Float → List Float → List Float → List Float → List Float → ℕ → ℕ → Type 0
SolveAnswer s drag r scratch scratch' poses poses' frames frames' errors errors' flag flag' = SolveWithAnswer s plain drag r scratch scratch' poses poses' frames frames' errors errors' flag flag'

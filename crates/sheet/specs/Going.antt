-- What the calls that solve by rounds answer, and what then stands in each lent place: one begins, one goes on from the state that the caller holds. Document 02, 6/14.
-- portions' specs/Portions.antt has the definitions and specs/Laws.antt what holds of them, by_rounds' specs/State.antt the caller's memory. Definitions only.
use Rattle.std.specs.Prelude.{ℕ, ◌+◌, ◌*◌, ◌≤◌, ◌≡◌, false, cond, List, ◌++◌, length, drop, eqb, Float}
use Rattle.records.specs.Numbers.{flag_number}
use Rattle.scene.specs.Scene.{poses_doubles}
use Rattle.scene.specs.Solve.{Solution, Parameters, unknowns}
use Rattle.placement.specs.Answer.{frames_doubles}
use Rattle.closeness.specs.HowClosely.{HowClosely, rounds_of}
use Rattle.portions.specs.Portions.{Running, is_running, start, judge, inverse_weights, begin, on, answer_at}
use Rattle.portions.specs.Laws.{Settled, PortionMade, Finished, Own}
use Rattle.by_rounds.specs.State.{held_in, state_doubles}
use Rattle.format.specs.Format.{bodies_of, relations_of}
use Rattle.refusals.specs.SceneAt.{scene_at}
use Rattle.refusals.specs.Refusals.{rows_in, state_length, begin_fault, on_fault}
use Rattle.sheet.specs.Solving.{drag_of}

-- the state that a caller holds: the rounds done, the run, and the doubles
abbrev pub state_of : List ℕ → ℕ → ℕ → List Float → Running
state_of s done run state = held_in (unknowns (scene_at s)) (rows_in (scene_at s)) done run state

-- a call that begins, for a portion of k rounds; and one that goes on from a state
abbrev pub begun_on : List ℕ → Parameters → ℕ → ℕ → Running
begun_on s p drag k = begin (scene_at s) p (drag_of drag) k

abbrev pub gone_on : List ℕ → Parameters → ℕ → ℕ → Running → Running
gone_on s p drag k st = on (scene_at s) p (drag_of drag) k st

-- the answer for the unknowns of a state
abbrev pub shown_of : List ℕ → Parameters → Running → Solution
shown_of s p st = answer_at (scene_at s) p st.x

-- What a call leaves that has come to the state st: the lent places at entry and at exit, r being the number that it gave. What the scratch and the outputs hold at entry
-- has no say in it.
pub record LeftBy (s : List ℕ) (p : Parameters) (st : Running) (r done done' run run' : ℕ) (state state' scratch scratch' poses poses' frames frames' errors errors' : List Float) (flag flag' : ℕ) : Type 0 where
  -- on refusal the same; else the state, and a longer slice keeps its rest
  pub done_is : done' ≡ cond (eqb r 0) st.done done
  pub run_is : run' ≡ cond (eqb r 0) st.run run
  pub state_is : state' ≡ cond (eqb r 0) (state_doubles st ++ drop (state_length s) state) state
  -- the answer of `solve` for the unknowns of the state; the flag says whether every error is within the call's tolerance
  pub poses_are : poses' ≡ cond (eqb r 0) (poses_doubles (shown_of s p st).poses ++ drop (12 * bodies_of s) poses) poses
  pub frames_are : frames' ≡ cond (eqb r 0) (frames_doubles (shown_of s p st).frames ++ drop (12 * bodies_of s) frames) frames
  pub errors_are : errors' ≡ cond (eqb r 0) ((shown_of s p st).errors ++ drop (relations_of s) errors) errors
  pub flag_is : flag' ≡ cond (eqb r 0) (flag_number (shown_of s p st).converged) flag
  -- on acceptance any doubles may stand in scratch
  pub scratch_kept : (r ≡ 0 → ⊥) → scratch' ≡ scratch
  pub scratch_size : length scratch' ≡ length scratch
  -- the next call reads the state that this one has left
  pub holds : r ≡ 0 → state_of s done' run' state' ≡ st
  -- demand 3 at the unknowns of the state
  pub closely : r ≡ 0 → HowClosely (scene_at s) p.tolerance (shown_of s p st)

-- The promise of a call that begins.
pub record BeginAnswer (s : List ℕ) (p : Parameters) (drag portion r n n' rows rows' done done' run run' : ℕ) (state state' scratch scratch' poses poses' frames frames' errors errors' : List Float) (flag flag' : ℕ) : Type 0 where
  pub number : r ≡ begin_fault s p drag portion (length state) (length scratch) (length poses) (length frames) (length errors)
  -- the counts that the calls after it hand over
  pub unknowns_are : n' ≡ cond (eqb r 0) (unknowns (scene_at s)) n
  pub rows_are : rows' ≡ cond (eqb r 0) (rows_in (scene_at s)) rows
  pub left : LeftBy s p (begun_on s p drag portion) r done done' run run' state state' scratch scratch' poses poses' frames frames' errors errors' flag flag'
  -- `portion` rounds unless it finishes, and then at most that; the code's own count is this one (by_rounds' `Left`,
  -- `made_is`). `solve` takes at most two runs of the set's.
  pub portion_made : PortionMade (scene_at s) p (inverse_weights (scene_at s) p (drag_of drag)) portion (start (scene_at s) p)
      (begun_on s p drag portion)
  pub rounds : rounds_of (scene_at s) p (drag_of drag) ≤ 2 * p.rounds
  -- a run that it leaves has not ended by its set
  pub judged : r ≡ 0 → Settled (scene_at s) p (begun_on s p drag portion)
  -- with as many rounds as `solve` takes it is finished, with the answer of `solve`
  pub solves : r ≡ 0 → rounds_of (scene_at s) p (drag_of drag) ≤ portion → Finished (scene_at s) p (drag_of drag) portion
  pub own : r ≡ 0 → Own (scene_at s) portion (begun_on s p drag portion)

-- The promise of a call that goes on. It holds for every state; what follows from `own_state` on is guaranteed for one's own states alone: those that a call that begins and
-- calls that go on, over this sheet, have left.
pub record OnAnswer (s : List ℕ) (p : Parameters) (drag portion r n rows done done' run run' : ℕ) (state state' scratch scratch' poses poses' frames frames' errors errors' : List Float) (flag flag' : ℕ) : Type 0 where
  pub number : r ≡ on_fault s p drag portion n rows (length state) (length scratch) (length poses) (length frames) (length errors)
  pub left : LeftBy s p (gone_on s p drag portion (state_of s done run state)) r done done' run run' state state' scratch scratch' poses poses' frames frames' errors errors' flag flag'
  -- `portion` rounds unless it finishes, and then at most that; the code's own count is this one (by_rounds' `Left`,
  -- `made_is`). `solve` takes at most two runs of the set's.
  pub portion_made : PortionMade (scene_at s) p (inverse_weights (scene_at s) p (drag_of drag)) portion
      (judge (scene_at s) p (state_of s done run state))
      (gone_on s p drag portion (state_of s done run state))
  pub rounds : rounds_of (scene_at s) p (drag_of drag) ≤ 2 * p.rounds
  -- a run that it leaves has not ended by its set, and a finished state stays
  pub judged : r ≡ 0 → Settled (scene_at s) p (gone_on s p drag portion (state_of s done run state))
  pub stays : is_running (state_of s done run state).run ≡ false → gone_on s p drag portion (state_of s done run state) ≡ state_of s done run state
  -- one's own stays one's own, by whatever set; j is the sum of the calls' portions (`own_states`, `ends_by_any_sets`)
  pub own_state : r ≡ 0 → (j : ℕ) → Own (scene_at s) j (state_of s done run state) → Own (scene_at s) (j + portion) (gone_on s p drag portion (state_of s done run state))
  -- under one set it is as if the call that began had had these rounds too
  pub follows : r ≡ 0 → (k : ℕ) → state_of s done run state ≡ begun_on s p drag k → gone_on s p drag portion (state_of s done run state) ≡ begun_on s p drag (k + portion)
  -- and with as many rounds as `solve` takes it is finished, with the answer of `solve`
  pub solves : r ≡ 0 → (k : ℕ) → state_of s done run state ≡ begun_on s p drag k → rounds_of (scene_at s) p (drag_of drag) ≤ k + portion → Finished (scene_at s) p (drag_of drag) (k + portion)

-- What a call by rounds leaves in the caller's memory: the running state, and the answer for its unknowns in the slices that `solve` fills. A longer slice keeps its rest.
-- specs/State.antt says how a state stands there. Document 02, 6/14. Definitions only.
use Rattle.std.specs.Prelude.{ℕ, ◌+◌, ◌*◌, ◌≤◌, ◌≡◌, List, ◌∷◌, ◌++◌, length, get_or, drop, Float}
use Rattle.std.specs.Float.{nan}
use Rattle.least_squares.specs.Memory.{part}
use Rattle.scene.specs.Scene.{poses_doubles}
use Rattle.scene.specs.Solve.{Scene, Parameters}
use Rattle.scene.specs.declared.scene.Scene.{Scene as SceneStruct}
use Rattle.rounds.specs.Rounds.{unknowns_in, first_in, rows_in}
use Rattle.rounds.specs.declared.parts.SolveParts.{SolveParts as PartsStruct}
use Rattle.placement.specs.Answer.{frames_doubles}
use Rattle.portions.specs.Portions.{Running, answer_at}
use Rattle.by_rounds.specs.State.{state_size, state_doubles}
use Rattle.by_rounds.specs.declared.held.Reached.{Reached as ReachedStruct}

-- what is lent is long enough for the state and for what `solve` fills, of a scene within the sheet's limits
pub record Room (c : SceneStruct) (state poses frames errors : List Float) : Type 0 where
  pub row_limit_is : c.rows ≤ 896
  pub unknown_limit : c.n ≤ 384
  pub state_long : state_size c.n c.rows ≤ length state
  pub poses_long : 12 * c.m ≤ length poses
  pub frames_long : 12 * c.m ≤ length frames
  pub errors_long : c.k ≤ length errors

-- the state in the scratch s is put to the caller's slice; the parts stand where the next call finds them
pub record HeldPut (c : SceneStruct) (p : PartsStruct) (s : List Float) (mu : Float) (state state' : List Float) : Type 0 where
  pub doubles : state' ≡ (mu ∷ (unknowns_in c p s ++ (first_in c p s ++ rows_in c p s))) ++ drop (state_size c.n c.rows) state
  pub damping : get_or state' 0 nan ≡ mu
  pub unknowns : part state' 1 c.n ≡ unknowns_in c p s
  pub first : part state' (1 + c.n) c.n ≡ first_in c p s
  pub rows : part state' (1 + 2 * c.n) c.rows ≡ rows_in c p s

-- what a call leaves, having come to the state st by so many rounds: the slices at entry and at exit; what is left in
-- the scratch is open
pub record Left (sc : Scene) (q : Parameters) (c : SceneStruct) (st : Running) (made : ℕ) (state state' poses poses' frames frames' errors errors' : List Float) (e : ReachedStruct) : Type 0 where
  pub state_is : state' ≡ state_doubles st ++ drop (state_size c.n c.rows) state
  pub done_is : e.done ≡ st.done
  pub run_is : e.run ≡ st.run
  -- the code makes as many rounds as the definition
  pub made_is : e.made ≡ made
  -- the answer for the unknowns of the state
  pub poses_are : poses' ≡ poses_doubles (answer_at sc q st.x).poses ++ drop (12 * c.m) poses
  pub frames_are : frames' ≡ frames_doubles (answer_at sc q st.x).frames ++ drop (12 * c.m) frames
  pub errors_are : errors' ≡ (answer_at sc q st.x).errors ++ drop c.k errors
  pub converged : e.converged ≡ (answer_at sc q st.x).converged
  -- the parts of the state stand where the next call finds them
  pub damping : get_or state' 0 nan ≡ st.mu
  pub unknowns : part state' 1 c.n ≡ st.x
  pub first : part state' (1 + c.n) c.n ≡ st.first
  pub rows : part state' (1 + 2 * c.n) c.rows ≡ st.r

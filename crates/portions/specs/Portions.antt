-- Solving by rounds: a running state, and what a call makes of it by its own set of parameters. Document 02, 6/14. scene's specs/Solve.antt has `solve`, whose rounds
-- and runs these are. Definitions only; specs/Laws.antt has what holds of them.
use Rattle.std.specs.Prelude.{ℕ, zero, suc, Bool, false, not, ◌||◌, cond, List, map, length, eqb, leb, ltb, Float}
use Rattle.std.proofs.Math.Option.{Option}
use Rattle.std.specs.Float.{binary64}
use Rattle.std.specs.Float.Ieee.{le, of_bits}
use Rattle.numbers.specs.MaxAbs.{max_abs}
use Rattle.least_squares.specs.Lm.{Tried, list_of, norm2, inverse_weight, one_round}
use Rattle.scene.specs.Solve.{Scene, Parameters, Solution, unknowns, poses_at, rows_at, rows_of, frames_from, weights, start_at, slight_turn, better}
use Rattle.closeness.specs.HowClosely.{all_within}

-- What the caller holds between two calls: the unknowns, those that the first run ended with, the rows, the damping, how many rounds the present run has made, and
-- which run it is: 1 the first, 2 the retry, 3 finished.
pub record Running : Type 0 where
  pub x : List Float
  pub first : List Float
  pub r : List Float
  pub mu : Float
  pub done : ℕ
  pub run : ℕ

abbrev pub is_running : ℕ → Bool
is_running run = eqb run 1 || eqb run 2

-- which run a call goes on with: any other number than 1 and 2 counts as finished
abbrev pub run_of : ℕ → ℕ
run_of run = cond (is_running run) run 3

-- the same, finished
abbrev pub finished : Running → Running
finished st = record { x = st.x; first = st.first; r = st.r; mu = st.mu; done = st.done; run = 3 }

-- R, the number of rows
abbrev pub row_count : Scene → ℕ
row_count s = length (rows_of s (list_of start_at (unknowns s)))

-- a run that is about to begin at x, with the damping 1e-10
abbrev pub fresh : Scene → ℕ → List Float → List Float → Running
fresh s run first x = record { x = x; first = first; r = rows_of s x; mu = of_bits binary64 0x3DDB_7CDF_D9D7_BDBB; done = 0; run = run }

-- The retry has ended. As in `solve` it is kept where it converged or its largest row is strictly smaller than the first run's; else the first run's unknowns come back.
unfoldable pub end_retry : Scene → Bool → Running → Running
end_retry s converged st =
    let o = better s (record { x = st.first; converged = false; rounds = 0 }) (record { x = st.x; converged = converged; rounds = st.done }) in
    record { x = o.x; first = st.first; r = rows_of s o.x; mu = st.mu; done = st.done; run = 3 }

-- one round as in `solve`, from the unknowns, the rows, the sum of their squares and the damping
abbrev pub tried : Scene → List Float → Running → Tried
tried s winv st = one_round (rows_of s) winv (record { x = st.x; r = st.r; cost = norm2 st.r; mu = st.mu })

-- the running state after that round, before it is judged
abbrev pub after_round : Scene → List Float → Running → Running
after_round s winv st =
    let w = (tried s winv st).state in
    record { x = w.x; first = st.first; r = w.r; mu = w.mu; done = suc st.done; run = st.run }

-- by the scene and the call's set
module _ (s : Scene) (p : Parameters) where
  -- the rows are all within the tolerance
  abbrev pub within : List Float → Bool
  within r = le (max_abs r) p.tolerance

  -- no round is made where nothing moves, or over the row limit, which counts here alone
  abbrev pub no_round : Bool
  no_round = eqb (unknowns s) 0 || ltb p.row_limit (row_count s)

  -- the retry begins, with a slight turn; `first` are the unknowns that the first run ended with
  unfoldable pub begin_retry : List Float → Running
  begin_retry first =
      let st = fresh s 2 first (list_of slight_turn (unknowns s)) in
      cond (within st.r || no_round) (end_retry s (within st.r) st) st

  -- A run has ended. There is a retry, in the same call, where the first run did not converge and something moves.
  unfoldable pub end_run : Bool → Running → Running
  end_run converged st = cond (eqb st.run 1) (cond (converged || eqb (unknowns s) 0) (finished st) (begin_retry st.x)) (end_retry s converged st)

  -- a run ends where its rows are within the tolerance, and where `stop` says so
  unfoldable pub judged : Bool → Running → Running
  judged stop st = cond (within st.r || stop) (end_run (within st.r) st) st

  -- Before its first round a call judges the run that it goes on with: whether its rows are within this call's tolerance, or its rounds are as many as this call's set
  -- allows, or more. With over 800 rows no set begins a run.
  unfoldable pub judge : Running → Running
  judge st = cond (is_running st.run) (judged (leb p.rounds st.done || ltb 800 (row_count s)) st) st

  module _ (winv : List Float) where
    -- One round; then it is judged whether the run ends: within the tolerance, with nothing better found, or with as many
    -- rounds as the set allows.
    unfoldable pub one_more : Running → Running
    one_more st =
        let next = after_round s winv st in
        judged (not (tried s winv st).better || leb p.rounds next.done) next

    -- at most k rounds, those of both runs counted together
    unfoldable pub go : ℕ → Running → Running
    go zero st = st
    go (suc k) st = cond (is_running st.run) (go k (one_more st)) st

    -- how many rounds these are
    unfoldable pub rounds_made : ℕ → Running → ℕ
    rounds_made zero st = 0
    rounds_made (suc k) st = cond (is_running st.run) (suc (rounds_made k (one_more st))) 0

  -- the first run, about to begin with all unknowns 0
  abbrev pub start : Running
  start = let zeros = list_of start_at (unknowns s) in let st = fresh s 1 zeros zeros in judged no_round st

  module _ (drag : Option ℕ) where
    abbrev pub inverse_weights : List Float
    inverse_weights = map inverse_weight (weights s p.drag_weight drag)

    -- a call that begins, and one that goes on, for a portion of k rounds
    unfoldable pub begin : ℕ → Running
    begin k = go inverse_weights k start

    unfoldable pub on : ℕ → Running → Running
    on k st = go inverse_weights k (judge st)

    -- how many rounds each of them makes
    abbrev pub begin_made : ℕ → ℕ
    begin_made k = rounds_made inverse_weights k start

    abbrev pub on_made : ℕ → Running → ℕ
    on_made k st = rounds_made inverse_weights k (judge st)

  -- the answer of `solve` for the unknowns x; its flag is that of the call's tolerance and the errors
  unfoldable pub answer_at : List Float → Solution
  answer_at x =
      let poses = poses_at s x in
      let errors = map (λ rel. max_abs (rows_at poses rel)) s.rels in
      record { poses = poses; frames = frames_from poses s.bodies; errors = errors; converged = all_within p.tolerance errors }

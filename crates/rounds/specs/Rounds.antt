-- What the rounds of lm.rs leave in the lent scratch: a state's unknowns stand at `x`, its rows at `rows`; its cost and damping go by value. s is the scratch at entry
-- and t at exit. least_squares' specs/Lm.antt has what is computed. Definitions only.
use Rattle.std.specs.Prelude.{◌+◌, ◌*◌, ◌≡◌, Bool, List, length, take, Float}
use Rattle.std.proofs.Math.Option.{Option, some}
use Rattle.std.specs.Float.{binary64}
use Rattle.std.specs.Float.Ieee.{mul, le}
use Rattle.numbers.specs.MaxAbs.{max_abs}
use Rattle.least_squares.specs.Memory.{part, Kept}
use Rattle.least_squares.specs.Triangle.{triangle, spread}
use Rattle.least_squares.specs.Dense.{given}
use Rattle.least_squares.specs.Lm.{State, Tried, Outcome, norm2, diag_max, damp_to, solve_dense, stepped, trial, trials, one_round}
use Rattle.scene.specs.Solve.{Scene, rows_of}
use Rattle.scene.specs.declared.scene.Scene.{Scene as SceneStruct}
use Rattle.rounds.specs.declared.parts.SolveParts.{SolveParts as PartsStruct}
use Rattle.rounds.specs.declared.trial.Tried.{Tried as TriedStruct}
use Rattle.rounds.specs.declared.rounds.RunEnd.{RunEnd as RunEndStruct}

-- ---- what stands where

abbrev pub slopes_in : SceneStruct → PartsStruct → List Float → List Float
slopes_in c p s = part s p.slopes (c.rows * c.n)

-- the whole matrix, of which the lower triangle stands at `matrix`
abbrev pub matrix_in : SceneStruct → PartsStruct → List Float → List Float
matrix_in c p s = spread (part s p.matrix (triangle c.rows)) c.rows

abbrev pub weights_in : SceneStruct → PartsStruct → List Float → List Float
weights_in c p s = part s p.weights c.n

abbrev pub unknowns_in : SceneStruct → PartsStruct → List Float → List Float
unknowns_in c p s = part s p.x c.n

abbrev pub first_in : SceneStruct → PartsStruct → List Float → List Float
first_in c p s = part s p.first c.n

abbrev pub rows_in : SceneStruct → PartsStruct → List Float → List Float
rows_in c p s = part s p.rows c.rows

abbrev pub state_in : SceneStruct → PartsStruct → List Float → Float → Float → State
state_in c p s cost mu = record { x = unknowns_in c p s; r = rows_in c p s; cost = cost; mu = mu }

abbrev pub tried_in : SceneStruct → PartsStruct → List Float → TriedStruct → Tried
tried_in c p s r = record { state = state_in c p s r.cost r.mu; better = r.better }

-- ---- what a call leaves alone

-- A part of the scratch that a promise below does not speak of is open after the call: nothing reads it before it is written again.

-- the inverse weights, and the unknowns of the first run
pub record Keeps (c : SceneStruct) (p : PartsStruct) (s t : List Float) : Type 0 where
  pub size : length t ≡ length s
  pub weights : weights_in c p t ≡ weights_in c p s
  pub first : first_in c p t ≡ first_in c p s

-- these, the slopes and the matrix
pub record Leaves (c : SceneStruct) (p : PartsStruct) (s t : List Float) : Type 0 where
  pub keeps : Keeps c p s t
  pub slopes : slopes_in c p t ≡ slopes_in c p s
  pub matrix : matrix_in c p t ≡ matrix_in c p s

-- ---- one trial

-- the answer of the equations, the matrix damped by mu of its largest diagonal entry
abbrev pub answer_in : SceneStruct → PartsStruct → List Float → Float → Option (List Float)
answer_in c p s mu =
    let a = matrix_in c p s in
    solve_dense (damp_to a c.rows (mul binary64 mu (diag_max a c.rows)) c.rows) (rows_in c p s) c.rows

-- the equations solved: ok says whether there is an answer, and then it stands at `right`
pub record Answered (c : SceneStruct) (p : PartsStruct) (s t : List Float) (mu : Float) (ok : Bool) : Type 0 where
  pub told : ok ≡ given (answer_in c p s mu)
  pub answer : (y : List Float) → answer_in c p s mu ≡ some y → part t p.right c.rows ≡ y
  pub kept : Kept s t p.damped (p.right + c.rows)

-- the unknowns after the step at `next`, their rows at `ahead`, and the sum of these rows' squares
pub record Advanced (sc : Scene) (c : SceneStruct) (p : PartsStruct) (s t : List Float) (cost : Float) : Type 0 where
  pub size : length t ≡ length s
  pub unknowns : part t p.next c.n ≡ stepped (unknowns_in c p s) (slopes_in c p s) (weights_in c p s) (part s p.right c.rows) c.rows
  pub rows : part t p.ahead c.rows ≡ rows_of sc (part t p.next c.n)
  pub cost_is : cost ≡ norm2 (part t p.ahead c.rows)
  pub below : take p.next t ≡ take p.next s

-- the step taken: what stood at `next` and `ahead` is now the state
pub record Taken (c : SceneStruct) (p : PartsStruct) (s t : List Float) : Type 0 where
  pub unknowns : unknowns_in c p t ≡ part s p.next c.n
  pub rows : rows_in c p t ≡ part s p.ahead c.rows
  pub leaves : Leaves c p s t

pub record TrialMade (sc : Scene) (c : SceneStruct) (p : PartsStruct) (s t : List Float) (cost mu : Float) (r : TriedStruct) : Type 0 where
  pub tried : tried_in c p t r ≡ trial (rows_of sc) (weights_in c p s) (slopes_in c p s) (matrix_in c p s) c.rows (state_in c p s cost mu)
  pub leaves : Leaves c p s t

-- at most 12 trials
pub record TrialsMade (sc : Scene) (c : SceneStruct) (p : PartsStruct) (s t : List Float) (cost mu : Float) (r : TriedStruct) : Type 0 where
  pub tried : tried_in c p t r ≡ trials (rows_of sc) (weights_in c p s) (slopes_in c p s) (matrix_in c p s) c.rows 12 (state_in c p s cost mu)
  pub leaves : Leaves c p s t

-- ---- rounds and runs

-- the rows at `rows` are all within the tolerance
abbrev pub within_in : SceneStruct → PartsStruct → List Float → Float → Bool
within_in c p s tol = le (max_abs (rows_in c p s)) tol

pub record RoundMade (sc : Scene) (c : SceneStruct) (p : PartsStruct) (s t : List Float) (cost mu : Float) (r : TriedStruct) : Type 0 where
  pub tried : tried_in c p t r ≡ one_round (rows_of sc) (weights_in c p s) (state_in c p s cost mu)
  pub keeps : Keeps c p s t

-- a run has ended as o says: its unknowns stand at `x`, and e says whether it converged and how many rounds were made
pub record Ran (c : SceneStruct) (p : PartsStruct) (s t : List Float) (o : Outcome) (e : RunEndStruct) : Type 0 where
  pub told : e.converged ≡ o.converged
  pub made : e.rounds ≡ o.rounds
  pub unknowns : unknowns_in c p t ≡ o.x
  pub keeps : Keeps c p s t

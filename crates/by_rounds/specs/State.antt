-- A running state in the caller's memory between two calls: the damping, the unknowns, those of the first run and the rows stand in one slice, one behind the other; the
-- rounds done and the run are numbers of their own. Document 02, 6/14. Definitions only.
use Rattle.std.specs.Prelude.{ℕ, ◌+◌, ◌*◌, List, ◌∷◌, ◌++◌, get_or, Float}
use Rattle.std.specs.Float.{nan}
use Rattle.least_squares.specs.Memory.{part}
use Rattle.portions.specs.Portions.{Running, run_of}

-- how many doubles a state of n unknowns and so many rows has
abbrev pub state_size : ℕ → ℕ → ℕ
state_size n rows = 1 + 2 * n + rows

-- the state that a caller holds
abbrev pub held_in : ℕ → ℕ → ℕ → ℕ → List Float → Running
held_in n rows done run state =
    record { x = part state 1 n; first = part state (1 + n) n; r = part state (1 + 2 * n) rows; mu = get_or state 0 nan; done = done; run = run_of run }

-- a state as doubles
abbrev pub state_doubles : Running → List Float
state_doubles st = st.mu ∷ (st.x ++ (st.first ++ st.r))

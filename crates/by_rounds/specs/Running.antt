-- Where a running state stands while a call works on it: its unknowns, those of the first run and its rows in the scratch, where `solve` has them; the damping, the rounds
-- done and the run by value. portions' specs/Portions.antt has what is computed. Document 02, 6/14. Definitions only.
use Rattle.std.specs.Prelude.{ℕ, ◌≡◌, List, length, Float}
use Rattle.scene.specs.Solve.{Scene, rows_of}
use Rattle.scene.specs.declared.scene.Scene.{Scene as SceneStruct}
use Rattle.rounds.specs.Rounds.{weights_in, unknowns_in, first_in, rows_in}
use Rattle.rounds.specs.declared.parts.SolveParts.{SolveParts as PartsStruct}
use Rattle.portions.specs.Portions.{Running}
use Rattle.by_rounds.specs.declared.ends.Going.{Going as GoingStruct}
use Rattle.by_rounds.specs.declared.portion.Portion.{Portion as PortionStruct}

abbrev pub running_in : SceneStruct → PartsStruct → List Float → GoingStruct → Running
running_in c p s g = record { x = unknowns_in c p s; first = first_in c p s; r = rows_in c p s; mu = g.mu; done = g.done; run = g.run }

-- the same state with the rows of its unknowns
abbrev pub worked : Scene → Running → Running
worked sc st = record { x = st.x; first = st.first; r = rows_of sc st.x; mu = st.mu; done = st.done; run = st.run }

-- from the scratch s to t the running state has become st; the inverse weights are as they were, and what else is left in the scratch is open
pub record Went (c : SceneStruct) (p : PartsStruct) (s t : List Float) (g : GoingStruct) (st : Running) : Type 0 where
  pub running : running_in c p t g ≡ st
  pub weights : weights_in c p t ≡ weights_in c p s
  pub size : length t ≡ length s

-- the running state is st, whatever stood in the scratch s; what else is left in the scratch is open
pub record Stands (c : SceneStruct) (p : PartsStruct) (s t : List Float) (g : GoingStruct) (st : Running) : Type 0 where
  pub running : running_in c p t g ≡ st
  pub size : length t ≡ length s

-- the same after a portion of rounds; as many as r tells were made
pub record WentBy (c : SceneStruct) (p : PartsStruct) (s t : List Float) (r : PortionStruct) (st : Running)
    (made : ℕ) : Type 0 where
  pub went : Went c p s t r.going st
  pub made_is : r.made ≡ made

pub record StandsBy (c : SceneStruct) (p : PartsStruct) (s t : List Float) (r : PortionStruct) (st : Running)
    (made : ℕ) : Type 0 where
  pub stands : Stands c p s t r.going st
  pub made_is : r.made ≡ made

-- What `solve` leaves in the slices that it fills: P and the frames, 12 doubles a body, and an error for each relation. A longer slice keeps its rest. Document 01, "The
-- sheet". Definitions only.
use Rattle.std.specs.Prelude.{ℕ, ◌*◌, ◌≡◌, Bool, ◌||◌, List, [], ◌∷◌, ◌++◌, map, length, drop, take, Float}
use Rattle.std.proofs.Math.Option.{Option}
use Rattle.std.specs.Float.Ieee.{lt}
use Rattle.numbers.specs.MaxAbs.{max_abs}
use Rattle.vectors.specs.Space.{Frame}
use Rattle.least_squares.specs.Lm.{Outcome}
use Rattle.least_squares.specs.Memory.{part}
use Rattle.scene.specs.Scene.{four_doubles, poses_doubles}
use Rattle.relations.specs.Model.{Rel}
use Rattle.scene.specs.Solve.{Scene, Parameters, poses_at, rows_at, rows_of, frames_from, solve_with}
use Rattle.scene.specs.declared.scene.Scene.{Scene as SceneStruct}
use Rattle.rounds.specs.declared.parts.SolveParts.{SolveParts as PartsStruct}

-- a frame: origin, x, y, z
abbrev pub frame_doubles : Frame → List Float
frame_doubles f = four_doubles f.origin f.x f.y f.z

unfoldable pub frames_doubles : List Frame → List Float
frames_doubles [] = []
frames_doubles (f ∷ frames) = frame_doubles f ++ frames_doubles frames

-- the largest row at the unknowns from x on, told; below `ahead` nothing has changed, and what is left from there on is open
pub record Worst (sc : Scene) (c : SceneStruct) (p : PartsStruct) (s t : List Float) (x : ℕ) (worst : Float) : Type 0 where
  pub told : worst ≡ max_abs (rows_of sc (part s x c.n))
  pub size : length t ≡ length s
  pub below : take p.ahead t ≡ take p.ahead s

-- whether the retry at `x` is to be kept, whose first run ended unconverged at `first`; below `ahead` nothing has changed, and what is left from there on is open
pub record Better (sc : Scene) (c : SceneStruct) (p : PartsStruct) (s t : List Float) (converged ok : Bool) : Type 0 where
  pub told : ok ≡ (converged || lt (max_abs (rows_of sc (part s p.x c.n))) (max_abs (rows_of sc (part s p.first c.n))))
  pub size : length t ≡ length s
  pub below : take p.ahead t ≡ take p.ahead s

-- the runs have ended as o says: its unknowns stand at `x`, and ok says whether it converged; what else is left in the scratch is open
pub record Ended (c : SceneStruct) (p : PartsStruct) (s t : List Float) (o : Outcome) (ok : Bool) : Type 0 where
  pub told : ok ≡ o.converged
  pub unknowns : part t p.x c.n ≡ o.x
  pub size : length t ≡ length s

-- the answer for the unknowns x: the slices at entry and at exit, of a scene with m bodies and k relations; the scratch is left open
pub record Shown (sc : Scene) (m k : ℕ) (x poses poses' frames frames' errors errors' : List Float) : Type 0 where
  pub poses_are : poses' ≡ poses_doubles (poses_at sc x) ++ drop (12 * m) poses
  pub frames_are : frames' ≡ frames_doubles (frames_from (poses_at sc x) sc.bodies) ++ drop (12 * m) frames
  pub errors_are : errors' ≡ map (λ (rel : Rel). max_abs (rows_at (poses_at sc x) rel)) sc.rels ++ drop k errors

-- the answer of `solve`, likewise
pub record Filled (sc : Scene) (q : Parameters) (drag : Option ℕ) (m k : ℕ) (poses poses' frames frames' errors errors' : List Float) (ok : Bool) : Type 0 where
  pub poses_are : poses' ≡ poses_doubles (solve_with sc q drag).poses ++ drop (12 * m) poses
  pub frames_are : frames' ≡ frames_doubles (solve_with sc q drag).frames ++ drop (12 * m) frames
  pub errors_are : errors' ≡ (solve_with sc q drag).errors ++ drop k errors
  pub converged : ok ≡ (solve_with sc q drag).converged

-- Demand 3, how closely, and the end of the work: what holds of every answer of `solve`. Document 01, "The words of demand 3". Definitions and statements;
-- proofs/HowCloselyLaws.antt has the proofs, `how_closely`, `rounds_end` and `plain_rounds_end`.
use Rattle.std.specs.Prelude.{ℕ, ◌+◌, ◌*◌, ◌≤◌, ◌<◌, ◌≡◌, Bool, true, false, ◌&&◌, ◌||◌, List, [], ◌∷◌, ◌⊎◌, length, get_or, eqb, Float}
use Rattle.std.proofs.Math.Option.{Option}
use Rattle.std.specs.Float.{nan}
use Rattle.std.specs.Float.Ieee.{le}
use Rattle.numbers.specs.Differs.{DiffersByAtMost}
use Rattle.relations.specs.Geometry.{Pose}
use Rattle.relations.specs.Model.{Body, Rel, pose_of_frame}
use Rattle.relations.specs.Rows.{ground_pose}
use Rattle.least_squares.specs.Lm.{list_of}
use Rattle.scene.specs.Solve.{Scene, Solution, Parameters, plain, in_range, names, named, unknowns, poses_at, start_at, slight_turn, run_from, solve_with}
use Rattle.closeness.specs.RowBound.{TEN_MILLION, small_pose, small_rel, exact_law, unrounded_error}

-- every error is at most the tolerance
unfoldable pub all_within : Float → List Float → Bool
all_within tol [] = true
all_within tol (e ∷ errors) = le e tol && all_within tol errors

-- The starting poses (document 01's term): those that `solve` forms from the sheet alone, before round one.
abbrev pub starting_poses : Scene → List (Pose Float)
starting_poses s = poses_at s (list_of start_at (unknowns s))

-- Of an answer that was asked for by a tolerance, P being its poses:
pub record HowClosely (s : Scene) (tol : Float) (a : Solution) : Type 0 where
  -- it is converged exactly when every reported error is at most the tolerance; without a choice that is 1e-9, its nearest double
  pub converged : a.converged ≡ all_within tol a.errors
  -- a body that is fixed or not named has its starting pose in P, which is its frame's
  pub still : (i : ℕ) (d : Body) → i < length s.bodies → ((get_or s.bodies i d).fixed ≡ true) ⊎ (named s.rels i ≡ false)
      → (get_or a.poses i ground_pose ≡ get_or (starting_poses s) i ground_pose) × (get_or a.poses i ground_pose ≡ pose_of_frame (get_or s.bodies i d).frame)
  -- The reported error of a mate, a flush, an insert, a symmetry or a tangent with a plane, whose bodies have small poses in P, differs by at most 0.0000001 from the
  -- largest magnitude among its unrounded rows at P. Its bodies (document 01's term) are those that `names` tells, symmetry's plane's too; the ground's pose is small.
  pub closely : (j : ℕ) (d : Rel) → j < length s.rels → exact_law (get_or s.rels j d).law (get_or s.rels j d).a (get_or s.rels j d).b ≡ true
      → ((i : ℕ) → names (get_or s.rels j d) i ≡ true → small_pose (get_or a.poses i ground_pose) ≡ true)
      → DiffersByAtMost TEN_MILLION (get_or a.errors j nan) (unrounded_error a.poses (get_or s.rels j d))

-- every relation within the sheet's limits
abbrev pub AllSmall : Scene → Type 0
AllSmall s = (j : ℕ) (d : Rel) → j < length s.rels → small_rel (get_or s.rels j d) ≡ true

abbrev pub Closeness : Type 0
Closeness = (s : Scene) (p : Parameters) (drag : Option ℕ) → in_range p ≡ true → AllSmall s → HowClosely s p.tolerance (solve_with s p drag)

-- ---- how many rounds `solve` takes: those of the first run and, where there is one, of the retry

unfoldable pub rounds_of : Scene → Parameters → Option ℕ → ℕ
rounds_of s p drag =
    let first = run_from s p drag (list_of start_at (unknowns s)) in
    elim (first.converged || eqb (unknowns s) 0) [
      | true ↦ first.rounds
      | false ↦ first.rounds + (run_from s p drag (list_of slight_turn (unknowns s))).rounds
    ]

-- at most two runs of the chosen rounds
abbrev pub RoundsEnd : Type 0
RoundsEnd = (s : Scene) (p : Parameters) (drag : Option ℕ) → rounds_of s p drag ≤ 2 * p.rounds

-- without a choice, at most two runs of 60
abbrev pub PlainRoundsEnd : Type 0
PlainRoundsEnd = (s : Scene) (drag : Option ℕ) → rounds_of s plain drag ≤ 2 * 60

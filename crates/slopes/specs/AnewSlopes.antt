-- The slopes body by body: the six columns of a body are worked from its poses a step ahead and a step behind along each unknown. s is the scratch at entry and t at exit; c has the
-- scene's numbers, and `at` says where things stand. Definitions only.
use Rattle.std.specs.Prelude.{ℕ, ◌+◌, ◌*◌, ◌≤◌, ◌<◌, ◌≡◌, List, length, get_or, take, Float}
use Rattle.std.proofs.Math.Option.{none, some}
use Rattle.std.specs.Float.{nan}
use Rattle.numbers.specs.Double.{zero64}
use Rattle.relations.specs.Model.{Body}
use Rattle.least_squares.specs.Lm.{step_of, ahead, behind, slope}
use Rattle.least_squares.specs.Memory.{part}
use Rattle.scene.specs.Solve.{Scene, layout, unknowns_in, pose_at, poses_at, rows_of}
use Rattle.scene.specs.Scene.{pose_in, poses_in}
use Rattle.scene.specs.declared.scene.Scene.{Scene as SceneStruct}
use Rattle.slopes.specs.declared.anew_slopes.SlopeParts.{SlopeParts as PartsStruct}

-- each part stands behind the last, the poses at least n places behind the slopes
pub record Apart (c : SceneStruct) (at : PartsStruct) (size : ℕ) : Type 0 where
  -- the unknowns, and the slopes of the rows there
  pub x : at.x + c.n ≤ at.slopes
  pub slopes : at.slopes + c.rows * c.n + c.n ≤ at.poses
  -- the poses of all bodies
  pub poses : at.poses + 12 * c.m ≤ size

abbrev pub unknowns_at : SceneStruct → PartsStruct → List Float → List Float
unknowns_at c at s = part s at.x c.n

-- the unknown k is one of body i's six
pub record Among (sc : Scene) (i k : ℕ) : Type 0 where
  pub first : ℕ
  pub given : get_or (layout sc) i none ≡ some first
  pub low : first ≤ k
  pub high : k < first + 6

-- how many unknowns the bodies below i have
abbrev pub given : Scene → ℕ → ℕ
given sc i = unknowns_in (take i (layout sc))

-- ---- the poses a step ahead and a step behind

-- of a body at its six unknowns xs the poses along the unknown e, and the step h; the poses along its other unknowns have not changed
pub record MovedAlong (b : Body) (xs s t : List Float) (e : ℕ) (h : Float) : Type 0 where
  pub size : length t ≡ length s
  pub step : h ≡ step_of (get_or xs e nan)
  pub ahead_at : pose_in t (12 * e) ≡ pose_at (ahead xs e (step_of (get_or xs e nan))) b (some 0)
  pub behind_at : pose_in t (72 + 12 * e) ≡ pose_at (behind xs e (step_of (get_or xs e nan))) b (some 0)
  pub other_ahead : (d : ℕ) → d < 6 → (d ≡ e → ⊥) → pose_in t (12 * d) ≡ pose_in s (12 * d)
  pub other_behind : (d : ℕ) → d < 6 → (d ≡ e → ⊥) → pose_in t (72 + 12 * d) ≡ pose_in s (72 + 12 * d)

-- the poses along the first k unknowns, and the steps
pub record MovedPoses (b : Body) (xs moved steps : List Float) (k : ℕ) : Type 0 where
  pub step : (e : ℕ) → e < k → get_or steps e nan ≡ step_of (get_or xs e nan)
  pub ahead_at : (e : ℕ) → e < k → pose_in moved (12 * e) ≡ pose_at (ahead xs e (step_of (get_or xs e nan))) b (some 0)
  pub behind_at : (e : ℕ) → e < k → pose_in moved (72 + 12 * e) ≡ pose_at (behind xs e (step_of (get_or xs e nan))) b (some 0)

-- the same, and as many doubles as before
pub record MovedAll (b : Body) (xs s t steps : List Float) : Type 0 where
  pub size : length t ≡ length s
  pub poses : MovedPoses b xs t steps 6

-- ---- the columns

-- the poses are those at the unknowns, and the columns from k on are +0
pub record Standing (sc : Scene) (c : SceneStruct) (at : PartsStruct) (s : List Float) (k : ℕ) : Type 0 where
  pub poses : poses_in s at.poses c.m ≡ poses_at sc (unknowns_at c at s)
  pub clear : (r d : ℕ) → r < c.rows → k ≤ d → d < c.n → get_or s (at.slopes + (r * c.n + d)) nan ≡ zero64

-- the columns from lo up to hi of the slopes are worked, and nothing else has changed
pub record ColumnsFrom (sc : Scene) (c : SceneStruct) (at : PartsStruct) (s t : List Float) (lo hi : ℕ) : Type 0 where
  pub size : length t ≡ length s
  pub entries : (r d : ℕ) → r < c.rows → lo ≤ d → d < hi → get_or t (at.slopes + (r * c.n + d)) nan ≡ slope (rows_of sc) (unknowns_at c at s) r d
  pub others : (q : ℕ) → ((r d : ℕ) → r < c.rows → lo ≤ d → d < hi → q ≡ at.slopes + (r * c.n + d) → ⊥) → get_or t q nan ≡ get_or s q nan

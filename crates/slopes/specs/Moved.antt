-- The slopes of rows along the six unknowns of one body, by its poses a step ahead and a step behind: `moved` holds twelve doubles for each, the six ahead first. s is the
-- scratch at entry and t at exit. Definitions only.
use Rattle.std.specs.Prelude.{ℕ, ◌+◌, ◌*◌, ◌≤◌, ◌<◌, ◌≡◌, List, length, get_or, set, Float}
use Rattle.std.specs.Float.{nan}
use Rattle.numbers.specs.Double.{zero64}
use Rattle.relations.specs.Geometry.{Pose}
use Rattle.relations.specs.Model.{Rel}
use Rattle.least_squares.specs.Lm.{slope_of}
use Rattle.scene.specs.Solve.{rows_at}
use Rattle.scene.specs.Scene.{pose_in, poses_in}

-- the poses, body i's unknown e a step ahead, and a step behind
abbrev pub poses_ahead : List (Pose Float) → ℕ → List Float → ℕ → List (Pose Float)
poses_ahead poses i moved e = set poses i (pose_in moved (12 * e))

abbrev pub poses_behind : List (Pose Float) → ℕ → List Float → ℕ → List (Pose Float)
poses_behind poses i moved e = set poses i (pose_in moved (72 + 12 * e))

-- the slope of row r along body i's unknown e
abbrev pub moved_slope : (List (Pose Float) → List Float) → List (Pose Float) → ℕ → List Float → List Float → ℕ → ℕ → Float
moved_slope rows poses i moved steps r e = slope_of (get_or (rows (poses_ahead poses i moved e)) r nan) (get_or (rows (poses_behind poses i moved e)) r nan) (get_or steps e nan)

-- a row that stays has the slope +0 for each of the six steps
abbrev pub Steps : List Float → Type 0
Steps steps = (e : ℕ) → e < 6 → (v : Float) → slope_of v v (get_or steps e nan) ≡ zero64

-- every n-th place from o on, so many of them, is written; no other place has changed
pub record Strided (s t : List Float) (o n rows : ℕ) (f : ℕ → Float) : Type 0 where
  pub size : length t ≡ length s
  pub entries : (r : ℕ) → r < rows → get_or t (o + r * n) nan ≡ f r
  pub others : (q : ℕ) → ((r : ℕ) → r < rows → q ≡ o + r * n → ⊥) → get_or t q nan ≡ get_or s q nan

-- the first `cols` places of each of so many rows are written, a row standing n places behind the last, the first at o; no other place has changed
pub record Block (s t : List Float) (o n rows cols : ℕ) (f : ℕ → ℕ → Float) : Type 0 where
  pub size : length t ≡ length s
  pub entries : (r e : ℕ) → r < rows → e < cols → get_or t (o + (r * n + e)) nan ≡ f r e
  pub others : (q : ℕ) → ((r e : ℕ) → r < rows → e < cols → q ≡ o + (r * n + e) → ⊥) → get_or t q nan ≡ get_or s q nan

-- the six places of each of so many rows are +0
abbrev pub Clear : List Float → ℕ → ℕ → ℕ → Type 0
Clear s o n rows = (r e : ℕ) → r < rows → e < 6 → get_or s (o + (r * n + e)) nan ≡ zero64

-- m poses from p on, of which body i's moves; so many rows of n places each end at p
pub record Room (s moved : List Float) (p m i o n rows : ℕ) : Type 0 where
  pub body : i < m
  pub poses : p + 12 * m ≤ length s
  pub twelve : 144 ≤ length moved
  pub wide : 6 ≤ n
  pub below : o + rows * n ≤ p

-- the slopes of a relation's rows, and how many rows it has
pub record RelColumns (s t moved steps : List Float) (p m i : ℕ) (rel : Rel) (o n rows : ℕ) : Type 0 where
  pub count : rows ≡ length (rows_at (poses_in s p m) rel)
  pub block : Block s t o n rows 6 (moved_slope (λ poses. rows_at poses rel) (poses_in s p m) i moved steps)

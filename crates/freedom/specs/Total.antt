-- `dof` of solve.rs, the whole assembly: what the functions over the lent scratch promise, s the scratch at entry and t at exit; what a record does not say of t is open.
-- Document 01, "The train of files", item 6. Definitions only.
use Rattle.std.specs.Prelude.{ℕ, ◌+◌, ◌*◌, ◌≤◌, ◌<◌, ◌≡◌, Bool, cond, List, [], ◌∷◌, get_or, length, Float}
use Rattle.std.proofs.Math.Option.{Option, none, some}
use Rattle.std.specs.Float.{nan, binary64}
use Rattle.std.specs.Float.Ieee.{mul, lt, le}
use Rattle.numbers.specs.Double.{zero64, fmax}
use Rattle.arcs.specs.Root.{root}
use Rattle.vectors.specs.Tol.{DOF_REL}
use Rattle.least_squares.specs.Lm.{slope, jacobian}
use Rattle.least_squares.specs.Memory.{part, Kept}
use Rattle.scene.specs.Solve.{Scene, layout, poses_at}
use Rattle.scene.specs.Scene.{poses_in}
use Rattle.body_freedom.specs.Dof.{columns_times, zeros, scale_three, scaled_from, scaled_rows, total_freedom}
use Rattle.scene.specs.declared.scene.Scene.{Scene as SceneStruct}
use Rattle.slopes.specs.declared.anew_slopes.SlopeParts.{SlopeParts as PartsStruct}

-- ---- where the parts stand

-- the unknowns, the slopes, their square and its eigenvalues; where the next part begins
abbrev pub squared : SceneStruct → ℕ
squared c = c.n + c.rows * c.n + c.n * c.n + c.n

-- each part from where the last ended, the unknowns from 0 on
abbrev pub total_parts : SceneStruct → PartsStruct
total_parts c = record { x = 0; slopes = c.n; poses = squared c }

-- no part reaches into the next, and all stand within a scratch of this size
pub record TotalApart (c : SceneStruct) (p : PartsStruct) (size : ℕ) : Type 0 where
  -- the unknowns, from 0 on
  pub x : c.n ≤ p.slopes
  -- the slopes, and directly behind them their square and its eigenvalues
  pub slopes : p.slopes + (c.rows * c.n + c.n * c.n + c.n) ≤ p.poses
  -- the poses of all bodies
  pub poses : p.poses + 12 * c.m ≤ size

-- ---- the slopes

-- one body's turning unknowns over half its size l, by its entry of the layout
unfoldable pub scaled_by : List Float → Float → Option ℕ → List Float
scaled_by x l none = x
scaled_by x l (some k) = scale_three x (k + 3) l

-- the poses are those at unknowns that are all 0, and the columns of the slopes from lo on are +0
pub record Waiting (sc : Scene) (c : SceneStruct) (p : PartsStruct) (s : List Float) (lo : ℕ) : Type 0 where
  pub poses : poses_in s p.poses c.m ≡ poses_at sc (scaled_from (zeros c.n) sc.bodies (layout sc))
  pub clear : (r d : ℕ) → r < c.rows → lo ≤ d → d < c.n → get_or s (p.slopes + (r * c.n + d)) nan ≡ zero64
  pub within : lo ≤ c.n

-- the columns from lo up to hi are slopes of the scaled rows at unknowns that are all 0; no other place has changed
pub record ColumnsFrom (sc : Scene) (c : SceneStruct) (p : PartsStruct) (s t : List Float) (lo hi : ℕ) : Type 0 where
  pub size : length t ≡ length s
  pub entries : (r d : ℕ) → r < c.rows → lo ≤ d → d < hi → get_or t (p.slopes + (r * c.n + d)) nan ≡ slope (scaled_rows sc) (zeros c.n) r d
  pub others : (q : ℕ) → ((r d : ℕ) → r < c.rows → lo ≤ d → d < hi → q ≡ p.slopes + (r * c.n + d) → ⊥) → get_or t q nan ≡ get_or s q nan
  pub order : lo ≤ hi
  pub within : hi ≤ c.n

-- the slopes of f at the unknowns from x on, from place j on. What else stands in the scratch is open.
pub record SlopesBy (f : List Float → List Float) (s t : List Float) (j n rows x : ℕ) : Type 0 where
  pub size : length t ≡ length s
  pub holds : part t j (rows * n) ≡ jacobian f (part s x n) rows

-- row i of the square of the slopes in the first places, directly behind them
pub record SquareRow (s t : List Float) (rows n i : ℕ) : Type 0 where
  pub entries : (k : ℕ) → k < n → get_or t (rows * n + i * n + k) nan ≡ columns_times (part s 0 (rows * n)) rows n i k
  pub kept : Kept s t (rows * n + i * n) (rows * n + i * n + n)

-- ---- the rank by the eigenvalues alone

-- the largest of the values, from m up
unfoldable pub largest_of : Float → List Float → Float
largest_of m [] = m
largest_of m (x ∷ l) = largest_of (fmax m x) l

-- one for a value whose root is above DOF_REL of the largest
unfoldable pub stiff_one : Float → Float → ℕ
stiff_one most x = cond (lt (mul binary64 DOF_REL most) (root (fmax x zero64))) 1 0

unfoldable pub stiff_of : Float → List Float → ℕ
unfolding stiff_one
stiff_of most [] = 0
stiff_of most (x ∷ l) = stiff_one most x + stiff_of most l

unfoldable pub rank_of : List Float → ℕ
rank_of l = let most = root (largest_of zero64 l) in cond (le most zero64) 0 (stiff_of most l)

-- six for a free body that no relation names, by its entry of the layout
unfoldable pub unnamed_one : Bool → Option ℕ → ℕ
unnamed_one fixed none = cond fixed 0 6
unnamed_one fixed (some k) = 0

-- ---- all

-- the whole assembly's freedom; of the scratch only its size is known
pub record Counted (sc : Scene) (s t : List Float) (total : ℕ) : Type 0 where
  pub size : length t ≡ length s
  pub total_is : total ≡ total_freedom sc

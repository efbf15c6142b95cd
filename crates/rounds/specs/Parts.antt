-- Where the parts of the lent scratch stand while a run goes on, so that what each stage touches is what is left of the scratch from some place on: the filling of slopes
-- from `x` on, the forming of the matrix from `slopes` on, the elimination from `damped` on. Document 01, "Recut for Rattle" and "Language forms"; document 02, 7/14 (how much
-- scratch is lent). Definitions only.
use Rattle.std.specs.Prelude.{ℕ, ◌+◌, ◌-◌, ◌*◌, ◌≤◌, ◌≡◌}
use Rattle.least_squares.specs.Triangle.{triangle}
use Rattle.scene.specs.declared.scene.Scene.{Scene as SceneStruct}
use Rattle.rounds.specs.declared.parts.SolveParts.{SolveParts as PartsStruct}

-- the doubles of scratch that document 02 counts: R·n+R²+R(R+1)/2+8R+8n+32m
abbrev pub need : SceneStruct → ℕ
need c = c.rows * c.n + c.rows * c.rows + triangle c.rows + 8 * c.rows + 8 * c.n + 32 * c.m

-- each part from where the last ended
abbrev pub solve_parts : SceneStruct → PartsStruct
solve_parts c =
    let slopes = c.n + c.n in
    let matrix = slopes + c.rows * c.n in
    let weights = matrix + triangle c.rows in
    let damped = weights + c.n in
    let right = damped + c.rows * c.rows in
    let rows = right + c.rows in
    let next = rows + c.rows in
    let ahead = next + c.n in
    let poses = ahead + c.rows in
    record {
      first = 0;
      x = c.n;
      slopes = slopes;
      matrix = matrix;
      weights = weights;
      damped = damped;
      right = right;
      rows = rows;
      next = next;
      ahead = ahead;
      poses = poses;
      seen = record { x = 0; slopes = c.n; poses = poses - c.n };
    }

-- what each part is for, and that it stands behind the last; within so many doubles
pub record Arranged (c : SceneStruct) (p : PartsStruct) (size : ℕ) : Type 0 where
  -- the unknowns that the first run ended with, and the unknowns
  pub first : p.first + c.n ≤ p.x
  pub x : p.x + c.n ≡ p.slopes
  -- the slopes, directly behind them the lower triangle of J W⁻¹ Jᵀ, directly behind it 1 over each weight
  pub slopes : p.slopes + c.rows * c.n ≡ p.matrix
  pub matrix : p.matrix + triangle c.rows ≡ p.weights
  pub weights : p.weights + c.n ≤ p.damped
  -- the whole matrix, which is damped and eliminated, directly behind it the right side of the equations
  pub damped : p.damped + c.rows * c.rows ≡ p.right
  pub right : p.right + c.rows ≤ p.rows
  -- the rows at the unknowns
  pub rows : p.rows + c.rows ≤ p.next
  -- the unknowns after a step, and the rows there
  pub next : p.next + c.n ≤ p.ahead
  pub ahead : p.ahead + c.rows ≤ p.poses
  pub poses : p.poses + 12 * c.m ≤ size
  -- the same places, counted from `x` on
  pub from_x : p.x + p.seen.x ≡ p.x
  pub from_slopes : p.x + p.seen.slopes ≡ p.slopes
  pub from_poses : p.x + p.seen.poses ≡ p.poses

-- The rows of the relations that name one body, their slopes along its six unknowns, and the six by six of the slopes, over the lent scratch: the closure f of `dof` in
-- solve.rs, and `body_dof` up to its eigenvalues. s is the scratch, lent from the slopes on, at entry and t at exit; what a record does not say of t is open. The poses of the m
-- bodies stand from place p on. Definitions only.
use Rattle.std.specs.Prelude.{ℕ, ◌+◌, ◌*◌, ◌≤◌, ◌<◌, ◌≡◌, cond, List, [], map, length, get_or, set, Float}
use Rattle.std.specs.Float.{nan, binary64}
use Rattle.std.specs.Float.Ieee.{add, sub, div}
use Rattle.numbers.specs.Double.{zero64}
use Rattle.spans.specs.Flat.{flat}
use Rattle.relations.specs.Geometry.{Pose}
use Rattle.relations.specs.Model.{Body, Rel, pose_of_frame}
use Rattle.least_squares.specs.Lm.{list_of, step_of, jacobian}
use Rattle.least_squares.specs.Memory.{part, Kept}
use Rattle.scene.specs.Solve.{Scene, names, three, moved_pose, rows_at, all_rows, half_size}
use Rattle.scene.specs.Scene.{pose_in, poses_in}
use Rattle.slopes.specs.Moved.{moved_slope, Block}
use Rattle.body_freedom.specs.Dof.{rels_of, with_body, body_rows, zeros, square_of}
use Rattle.scene.specs.declared.scene.Scene.{Scene as SceneStruct}
use Rattle.body_freedom.specs.declared.body_slopes.BodyParts.{BodyParts as BodyPartsStruct}

-- each part from where the last ended, the slopes from 0 on: R·n slopes, then the poses
abbrev pub body_parts : SceneStruct → BodyPartsStruct
body_parts c = record { poses = c.rows * c.n }

-- no part reaches into the next, and all stand within a scratch of this size, lent from the slopes on
pub record BodyApart (c : SceneStruct) (p : BodyPartsStruct) (size : ℕ) : Type 0 where
  -- the slopes, from 0 on
  pub slopes : c.rows * c.n ≤ p.poses
  -- the poses of all bodies
  pub poses : p.poses + 12 * c.m ≤ size

-- the poses of the bodies' own frames
abbrev pub starts : Scene → List (Pose Float)
starts sc = map (λ c. pose_of_frame c.frame) sc.bodies

-- a body's pose at its six unknowns, the turning ones over half its size
abbrev pub shifted : Body → List Float → Pose Float
shifted b x =
    moved_pose b (three x 0)
    (record {
      x = div binary64 (get_or x 3 nan) (half_size b.size);
      y = div binary64 (get_or x 4 nan) (half_size b.size);
      z = div binary64 (get_or x 5 nan) (half_size b.size);
    })

-- a body's poses with each of its six unknowns a step from 0 ahead, twelve doubles each, and behind these a step behind:
-- 144 doubles, and nothing behind them has changed
pub record MovedPoses (b : Body) (s t : List Float) : Type 0 where
  pub kept : Kept s t 0 144
  pub ahead : (e : ℕ) → e < 6 → pose_in t (12 * e) ≡ shifted b (set (zeros 6) e (add binary64 zero64 (step_of zero64)))
  pub behind : (e : ℕ) → e < 6 → pose_in t (72 + 12 * e) ≡ shifted b (set (zeros 6) e (sub binary64 zero64 (step_of zero64)))

-- the steps of six unknowns that are 0
abbrev pub six_steps : List Float
six_steps = list_of (λ e. step_of zero64) 6

-- the rows of a relation, none where it does not name body i
abbrev pub named_rows : Rel → ℕ → List (Pose Float) → List Float
named_rows rel i poses = cond (names rel i) (rows_at poses rel) []

-- the rows of the relations that name body i
abbrev pub rows_on : Scene → ℕ → List (Pose Float) → List Float
rows_on sc i poses = all_rows poses (rels_of sc.rels i)

-- the same, as a function of the body's six unknowns, the other bodies at these poses
abbrev pub moved_rows : Scene → List (Pose Float) → ℕ → Body → List Float → List Float
moved_rows sc poses i b x = rows_on sc i (with_body poses i b (half_size b.size) x)

-- the slopes of a relation's rows, where it names body i, six to a row from this row on, up to row q; `moved` holds the body's poses as in `MovedPoses`
pub record NamedSlopes (s t moved steps : List Float) (p m i : ℕ) (rel : Rel) (row q : ℕ) : Type 0 where
  pub next : q ≡ row + length (named_rows rel i (poses_in s p m))
  pub block : Block s t (row * 6) 6 (length (named_rows rel i (poses_in s p m))) 6 (moved_slope (named_rows rel i) (poses_in s p m) i moved steps)

-- the slopes of body i's rows, of which there are so many, six to a row from place 0 on
pub record SlopesOn (sc : Scene) (s t moved steps : List Float) (p m i rows : ℕ) : Type 0 where
  pub count : rows ≡ length (rows_on sc i (poses_in s p m))
  pub block : Block s t 0 6 rows 6 (moved_slope (rows_on sc i) (poses_in s p m) i moved steps)

-- the slopes of body i's rows stand from place 0 on; the poses stay
pub record BodySlopes (sc : Scene) (s t : List Float) (p m i : ℕ) (b : Body) (rows : ℕ) : Type 0 where
  pub count : rows ≡ length (rows_on sc i (poses_in s p m))
  pub size : length t ≡ length s
  pub holds : part t 0 (rows * 6) ≡ jacobian (moved_rows sc (poses_in s p m) i b) (zeros 6) rows
  pub poses : poses_in t p m ≡ poses_in s p m

-- the six by six of body i's slopes; the bodies stand at their frames again. What stands in the places of slopes is open: they are scratch.
pub record BodySquare (sc : Scene) (s t : List Float) (p m i : ℕ) (b : Body) (a : List (List Float)) : Type 0 where
  pub square : flat 6 a ≡ square_of (jacobian (body_rows sc i b) (zeros 6) (length (body_rows sc i b (zeros 6)))) (length (body_rows sc i b (zeros 6))) 6
  pub size : length t ≡ length s
  pub poses : poses_in t p m ≡ starts sc

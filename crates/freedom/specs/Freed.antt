-- What `dof` leaves in the slice that it fills: 29 doubles a body. A longer slice keeps its rest. Document 01, "The sheet". Definitions only.
use Rattle.std.specs.Prelude.{ℕ, ◌+◌, ◌*◌, ◌≡◌, List, ◌++◌, length, drop, Float}
use Rattle.scene.specs.Scene.{Put, poses_in}
use Rattle.scene.specs.Solve.{Scene}
use Rattle.body_freedom.specs.Dof.{Freedom, dof}
use Rattle.scene.specs.declared.scene.Scene.{Scene as SceneStruct}
use Rattle.body_freedom.specs.Layout.{freedom_doubles, freedoms_doubles}
use Rattle.body_freedom.specs.BodySlopes.{body_parts, starts}

-- the doubles of scratch that document 01 counts: R·n+2n²+8R+8n+32m
abbrev pub need : SceneStruct → ℕ
need c = c.rows * c.n + 2 * (c.n * c.n) + 8 * c.rows + 8 * c.n + 32 * c.m

-- those that one body's slopes take, from the slopes on
abbrev pub body_need : SceneStruct → ℕ
body_need c = (body_parts c).poses + 12 * c.m

-- the freedom of body i has been filled in; the starting poses still stand in scratch, and what else stands there is open
pub record BodyFreed (sc : Scene) (s t : List Float) (p m i : ℕ) (d e : List Float) (f : Freedom) : Type 0 where
  pub size : length t ≡ length s
  pub poses : poses_in t p m ≡ starts sc
  pub filled : Put d e (29 * i) 29 (freedom_doubles f)

-- the freedoms of all m bodies have been filled in; of the scratch only its size is known
pub record BodiesFreed (sc : Scene) (m : ℕ) (s t freedoms freedoms' : List Float) : Type 0 where
  pub size : length t ≡ length s
  pub freedoms_are : freedoms' ≡ freedoms_doubles (dof sc).bodies ++ drop (29 * m) freedoms

-- the slice at entry and at exit, of a scene with m bodies; of the scratch only its size is known
pub record Freed (sc : Scene) (m : ℕ) (s t freedoms freedoms' : List Float) (total : ℕ) : Type 0 where
  pub size : length t ≡ length s
  pub freedoms_are : freedoms' ≡ freedoms_doubles (dof sc).bodies ++ drop (29 * m) freedoms
  pub total_is : total ≡ (dof sc).total

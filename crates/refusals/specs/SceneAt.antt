-- The bodies and relations that a sheet's bytes are. Document 01, "The sheet". Definitions only.
use Rattle.std.specs.Prelude.{ℕ, List}
use Rattle.scene.specs.Solve.{Scene}
use Rattle.scene.specs.Scene.{scene_in}
use Rattle.format.specs.Format.{bodies_of, relations_of, rel_start}

-- m bodies and k relations
abbrev pub scene_at : List ℕ → Scene
scene_at s = scene_in s 24 (bodies_of s) (rel_start (bodies_of s) 0) (relations_of s)

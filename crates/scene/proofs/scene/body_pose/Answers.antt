-- `scene::scene::body_pose` meets its contract. The unknowns are read from the part that holds them. Assumes nothing.
use mathlib.Core.Path.{refl, ◌∙◌}
use Prim.Native.Nat.{◌+◌, ◌≤◌}
use native.Mathlib.Omega.{arith}
use Rattle.relations.specs.Model.{body_of}
use Rattle.scene.specs.Solve.{pose_at, moved_pose}
use Rattle.scene.proofs.SceneLaws.{three_part}
use Rattle.scene.proofs.scene.body_pose.Goals as goal

pub returns-in_default : goal.returns-in_default
unfolding pose_at
returns-in_default c = rw c.in_default.is c.of.ensures

pub vec_in-requires : goal.vec_in-requires
vec_in-requires c = omega (arith, c.requires.first_bound _ c.in-Some.is)

pub vec_in-requires-2 : goal.vec_in-requires-2
vec_in-requires-2 c = omega (arith, c.requires.first_bound _ c.in-Some.is)

pub returns : goal.returns
unfolding pose_at
returns c =
    let g = c.args in
    let k = c.in-Some.first in
    let h : k + 6 ≤ g.n = c.requires.first_bound _ c.in-Some.is in
    let a = c.vec_in.ensures ∙ three_part g.s.now g.x g.n k (g.x + k) refl (omega arith) in
    let b = c.vec_in-2.ensures ∙ three_part g.s.now g.x g.n (k + 3) (g.x + k + 3) (omega arith) (omega arith) in
    rw c.in-Some.is (c.moved_pose.ensures ∙ (λ z. moved_pose (body_of g.b) (a z) (b z)))

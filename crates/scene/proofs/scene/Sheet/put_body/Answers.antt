-- `scene::scene::Sheet::put_body` meets its contract: a body that has unknowns has its six among the scene's (`laid_first`), so `body_pose` may read them. The body read from
-- the sheet is the definition's, and with it the pose that `put_pose` puts. Assumes nothing.
use mathlib.Core.Path.{ap, subst, ◌∙◌}
use native.Mathlib.Omega.{arith}
use lib.ListN.{get_or}
use Rattle.std.specs.Prelude.{None}
use Rattle.scene.specs.Scene.{Put, pose_doubles, first_unknown}
use Rattle.least_squares.specs.Memory.{part}
use Rattle.relations.specs.Model.{Body}
use Rattle.scene.specs.Solve.{pose_at}
use Rattle.scene.proofs.SceneLaws.{laid_first}
use Rattle.scene.proofs.scene.Sheet.put_body.Goals as goal

pub body_pose-q-requires : goal.body_pose-q-requires
body_pose-q-requires c = record { n_in_bounds = omega arith; first_bound = λ k e. laid_first c.args.self.bytes.now c.args.self.scene c.args.i k c.args.self.laid (omega arith) e }

pub returns : goal.returns
returns c =
    let g = c.args in
    let f = first_unknown (get_or g.self.scene.index g.i None) in
    let e = c.body_pose-q.ensures ∙ ap (λ (b : Body). pose_at (part g.s.now g.x g.self.scene.n) b f) c.body-b.ensures in
    subst (λ q. Put g.s.now c.put_pose.new.s g.o 12 (pose_doubles q)) e c.put_pose.ensures

-- `slopes::anew_slopes::put_moved` meets its contract: the unknown is a step ahead and then a step behind of what it is, so the two poses are the definition's, and they stand in
-- places of their own (`moved_along`). Assumes nothing.
use mathlib.Core.Path.{ap, ◌∙◌}
use mathlib.Core.List.{List}
use mathlib.Core.Option.{some}
use native.Mathlib.Omega.{arith}
use lib.Ieee.{Float}
use lib.Seq.{set-set}
use Rattle.relations.specs.Model.{body_of}
use Rattle.scene.specs.Solve.{pose_at}
use Rattle.slopes.proofs.BodyLaws.{moved_along}
use Rattle.slopes.proofs.anew_slopes.put_moved.Goals as goal

pub returns : goal.returns
returns c =
    let g = c.args in
    moved_along (body_of g.b) g.x _ _ _ g.e _ _ _ (omega arith) c.step_of-h.ensures c.put_pose.ensures c.six_pose.ensures c.put_pose-2.ensures
    (c.six_pose-2.ensures ∙ ap (λ (y : List Float). pose_at y (body_of g.b) (some 0)) (set-set g.x g.e _ _))

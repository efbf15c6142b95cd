-- `saving::save::Scene::put_bodies` meets its contract: one more record follows those before it (`joined_step`). Assumes nothing.
use Rattle.std.proofs.Common.{arith}
use Rattle.writing.proofs.PutLaws.{put_size, joined_start, joined_step}
use Rattle.saving.proofs.save.Scene.put_bodies.Goals as goal

pub loop-i-init : goal.loop-i-init
loop-i-init c = (omega arith, (omega arith, joined_start _ _ _ (omega arith)))

pub loop-i-preserved : goal.loop-i-preserved
loop-i-preserved c =
    let l = c.loop-i in
    let p = joined_step _ _ l.out _ _ _ _ l.i l.invariant.1.1 c.put_saved_body-next.ensures.1 in
    (put_size _ _ _ _ _ p, (omega arith, p))

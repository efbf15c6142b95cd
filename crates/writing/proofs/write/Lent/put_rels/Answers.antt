-- `writing::write::Lent::put_rels` meets its contract: one more record follows those before it (`joined_step`). Assumes nothing.
use Rattle.std.proofs.Common.{arith}
use Rattle.writing.proofs.PutLaws.{put_size, joined_start, joined_step}
use Rattle.writing.proofs.write.Lent.put_rels.Goals as goal

pub loop-j-init : goal.loop-j-init
loop-j-init c = (omega arith, (omega arith, joined_start _ _ _ (omega arith)))

pub loop-j-preserved : goal.loop-j-preserved
loop-j-preserved c =
    let l = c.loop-j in
    let p = joined_step _ _ l.out _ _ _ _ l.j l.invariant.1.1 c.put_rel-next.ensures.1 in
    (put_size _ _ _ _ _ p, (omega arith, p))

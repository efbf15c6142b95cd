-- `writing::bytes::put_doubles` meets its contract: the bytes of one more double follow those before it (`joined_step`). Assumes nothing.
use Rattle.std.proofs.Common.{◌+◌, get_or, arith}
use lib.Ieee.{nan}
use Rattle.writing.specs.Bytes.{double_bytes}
use Rattle.writing.proofs.PutLaws.{put_size, joined_start, joined_step, put_number_as}
use Rattle.writing.proofs.bytes.put_doubles.Goals as goal

pub loop-i-init : goal.loop-i-init
loop-i-init c = (omega arith, (omega arith, joined_start _ _ _ (omega arith)))

pub loop-i-preserved : goal.loop-i-preserved
loop-i-preserved c =
    let l = c.loop-i in
    let xs = c.args.xs.now in
    let y = put_number_as _ _ _ _ _ _ _ c.bits.ensures c.put_number-next.ensures.1 in
    let p = joined_step (λ i. double_bytes (get_or xs (c.args.o + i) nan)) _ l.out _ _ _ _ l.i l.invariant.1.1 y in
    (put_size _ _ _ _ _ p, (omega arith, p))

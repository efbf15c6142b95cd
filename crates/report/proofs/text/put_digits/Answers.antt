-- `report::text::put_digits` meets its contract: one more digit stands before the last (`spelled_step`). Assumes nothing.
use Rattle.std.proofs.Common.{refl, arith}
use Rattle.writing.proofs.PutLaws.{put_size}
use Rattle.report.proofs.TextLaws.{spelled_start, spelled_step, spelled_end}
use Rattle.report.proofs.text.put_digits.Goals as goal

pub loop-i-init : goal.loop-i-init
loop-i-init c = (refl, spelled_start _ _ _ _ _ (omega arith))

pub loop-i-preserved : goal.loop-i-preserved
loop-i-preserved c =
    let l = c.loop-i in
    let p = spelled_step _ _ _ _ l.out _ l.i l.rest c.glyph.result (omega arith) c.glyph.ensures l.invariant.1 in
    (put_size _ _ _ _ _ p.put, p)

pub returns : goal.returns
returns c = spelled_end _ _ _ _ _ _ c.loop-i.i _ (omega arith) c.loop-i.invariant.1

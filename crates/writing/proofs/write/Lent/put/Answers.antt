-- `writing::write::Lent::put` puts `sheet_bytes`: the header, the bodies, the relations (`put_then`). Assumes nothing.
use Rattle.std.proofs.Common.{arith}
use Rattle.writing.specs.Writing.{sheet_bytes}
use Rattle.writing.proofs.PutLaws.{put_then}
use Rattle.writing.proofs.write.Lent.put.Goals as goal

pub returns : goal.returns
unfolding sheet_bytes
returns c =
    (omega arith, put_then _ _ _ _ _ _ _ _ c.put_header-a.ensures.1 (put_then _ _ _ _ _ _ _ _ c.put_bodies-b.ensures.1 c.put_rels.ensures.1))

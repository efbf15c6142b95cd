-- `report::text::put_body` puts `body_line`, piece by piece: the word, i, and the five bytes of both counts (`put_then`, `put_counts`). As i takes at most
-- five bytes, 15 bytes are room enough. Assumes nothing.
use native.Mathlib.Omega.{arith}
use Rattle.writing.proofs.PutLaws.{put_then}
use Rattle.report.proofs.TextLaws.{decimal_length, put_counts}
use Rattle.report.proofs.text.put_body.Goals as goal

pub put_bytes-requires : goal.put_bytes-requires
put_bytes-requires c =
    let few = decimal_length c.args.i c.requires.i_bound in
    omega arith

pub returns : goal.returns
returns c =
    put_then _ _ _ _ _ _ _ _ c.put_bytes-a.ensures.1
    (put_then _ _ _ _ _ _ _ _ c.put_decimal-b.ensures
    (put_counts _ _ _ _ _ _ _ _ c.count_digit.ensures c.count_digit-2.ensures c.put_bytes.ensures.1))

-- `report::text::put_number` meets its contract: each piece is put directly behind the last, so the three are one list (`put_then`, twice). The number has at most five
-- digits (`decimal_length`), so the newline has room. Assumes nothing.
use native.Mathlib.Omega.{arith}
use Rattle.writing.proofs.PutLaws.{put_then}
use Rattle.report.proofs.TextLaws.{decimal_length}
use Rattle.report.proofs.text.put_number.Goals as goal

pub put_bytes-requires : goal.put_bytes-requires
put_bytes-requires c = let few = decimal_length c.args.n (omega arith) in omega arith

pub returns : goal.returns
returns c =
    put_then _ _ _ _ _ _ _ _ c.put_bytes-a.ensures.1
    (put_then _ _ _ _ _ _ _ _ c.put_decimal-b.ensures c.put_bytes.ensures.1)

-- `writing::bytes::put_law` puts `law_bytes`: three bytes, one that is 0, and two words (`put_then`). Assumes nothing.
use native.Mathlib.Omega.{arith}
use Rattle.writing.specs.Writing.{law_bytes}
use Rattle.writing.proofs.PutLaws.{put_then}
use Rattle.writing.proofs.bytes.put_law.Goals as goal

pub returns : goal.returns
unfolding law_bytes
returns c = (
  omega arith,
  put_then _ _ _ _ _ _ _ _ c.put_byte-a.ensures.1
      (put_then _ _ _ _ _ _ _ _ c.put_byte-b.ensures.1
      (put_then _ _ _ _ _ _ _ _ c.put_byte-c.ensures.1
      (put_then _ _ _ _ _ _ _ _ c.put_byte-d.ensures.1
      (put_then _ _ _ _ _ _ _ _ c.put_number-e.ensures.1
      c.put_number.ensures.1)))),
)

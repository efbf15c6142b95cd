-- `writing::bytes::put_body` puts `body_bytes`: two bytes, six that are 0, sixteen doubles (`put_then`). Assumes nothing.
use native.Mathlib.Omega.{arith}
use Rattle.writing.specs.Writing.{body_bytes}
use Rattle.writing.proofs.PutLaws.{put_then}
use Rattle.writing.proofs.bytes.put_body.Goals as goal

pub returns : goal.returns
unfolding body_bytes
returns c = (
  omega arith,
  put_then _ _ _ _ _ _ _ _ c.put_byte-a.ensures.1
      (put_then _ _ _ _ _ _ _ _ c.put_byte-b.ensures.1
      (put_then _ _ _ _ _ _ _ _ c.put_number-c.ensures.1
      c.put_doubles.ensures.1)),
)

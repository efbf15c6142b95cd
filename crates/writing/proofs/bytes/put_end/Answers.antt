-- `writing::bytes::put_end` puts `end_bytes`: two bytes, a word, four bytes that are 0, eight doubles (`put_then`). Assumes nothing.
use native.Mathlib.Omega.{arith}
use Rattle.writing.specs.Writing.{end_bytes}
use Rattle.writing.proofs.PutLaws.{put_then}
use Rattle.writing.proofs.bytes.put_end.Goals as goal

pub returns : goal.returns
unfolding end_bytes
returns c = (
  omega arith,
  put_then _ _ _ _ _ _ _ _ c.put_byte-c.ensures.1
      (put_then _ _ _ _ _ _ _ _ c.put_byte-d.ensures.1
      (put_then _ _ _ _ _ _ _ _ c.put_number-e.ensures.1
      (put_then _ _ _ _ _ _ _ _ c.put_number-f.ensures.1
      c.put_doubles.ensures.1))),
)

-- `writing::bytes::put_offsets` puts `offsets_bytes`, number by number (`put_then`). Assumes nothing.
use native.Mathlib.Omega.{arith}
use Rattle.writing.specs.Writing.{offsets_bytes}
use Rattle.writing.proofs.PutLaws.{put_then}
use Rattle.writing.proofs.bytes.put_offsets.Goals as goal

pub returns : goal.returns
unfolding offsets_bytes
returns c = (
  omega arith,
  put_then _ _ _ _ _ _ _ _ c.put_number-a.ensures.1
      (put_then _ _ _ _ _ _ _ _ c.put_number-b.ensures.1
      (put_then _ _ _ _ _ _ _ _ c.put_number-c.ensures.1
      c.put_number.ensures.1)),
)

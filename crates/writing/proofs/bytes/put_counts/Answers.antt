-- `writing::bytes::put_counts` puts `counts_bytes`, number by number (`put_then`). Assumes nothing.
use native.Mathlib.Omega.{arith}
use Rattle.writing.specs.Writing.{counts_bytes}
use Rattle.writing.proofs.PutLaws.{put_then}
use Rattle.writing.proofs.bytes.put_counts.Goals as goal

pub returns : goal.returns
unfolding counts_bytes
returns c = (
  omega arith,
  put_then _ _ _ _ _ _ _ _ c.put_number-a.ensures.1
      (put_then _ _ _ _ _ _ _ _ c.put_number-b.ensures.1
      (put_then _ _ _ _ _ _ _ _ c.put_number-c.ensures.1
      c.put_number.ensures.1)),
)

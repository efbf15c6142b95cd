-- `writing::bytes::put_header` puts `header_bytes`: the counts, then the offsets (`put_then`). Assumes nothing.
use native.Mathlib.Omega.{arith}
use Rattle.writing.specs.Writing.{header_bytes}
use Rattle.writing.proofs.PutLaws.{put_then}
use Rattle.writing.proofs.bytes.put_header.Goals as goal

pub returns : goal.returns
unfolding header_bytes
returns c = (
  omega arith,
  put_then _ _ _ _ _ _ _ _ c.put_counts-a.ensures.1
      c.put_offsets.ensures.1,
)

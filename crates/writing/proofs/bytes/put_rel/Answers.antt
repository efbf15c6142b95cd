-- `writing::bytes::put_rel` puts `rel_bytes`: the law, five doubles, the three ends (`put_then`). Assumes nothing.
use mathlib.Core.List.{◌++◌}
use native.Mathlib.Omega.{arith}
use Rattle.writing.specs.Bytes.{doubles_bytes}
use Rattle.writing.specs.Writing.{RelParts, law_bytes, end_bytes, rel_bytes}
use Rattle.writing.proofs.PutLaws.{put_then}
use Rattle.writing.proofs.bytes.put_rel.Goals as goal

pub returns : goal.returns
unfolding rel_bytes
returns c =
    let lent = c.args in
    let p : RelParts = record { bytes = lent.bytes.now; words = lent.words.now; numbers = lent.numbers.now } in
    let end-b = end_bytes p 5 3 13 in
    let end-c = end_bytes p 7 4 21 in (
      omega arith,
      put_then _ _ _ _ _ _ (law_bytes p.bytes p.words) _ c.put_law-a.ensures.1
          (put_then _ _ _ _ _ _ (doubles_bytes p.numbers 0 5) _ c.put_doubles-b.ensures.1
          (put_then _ _ _ _ _ _ (end_bytes p 3 2 5) (end-b ++ end-c) c.put_end-c.ensures.1
          (put_then _ _ _ _ _ _ end-b end-c c.put_end-d.ensures.1
          c.put_end.ensures.1))),
    )

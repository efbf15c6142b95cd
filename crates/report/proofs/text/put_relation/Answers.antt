-- `report::text::put_relation` puts `relation_line`, piece by piece: the word, j, a space, the sixteen digits of x and the line's end (`put_then`). As j
-- takes at most five bytes (`few`) and x sixteen (`sixteen`), 32 bytes are room enough. Assumes nothing.
use native.Mathlib.Omega.{arith}
use lib.Ieee.{binary64, to_bits}
use Rattle.writing.proofs.PutLaws.{put_then}
use Rattle.report.proofs.TextLaws.{decimal_length, digits_length}
use Rattle.report.proofs.text.put_relation.Goals as goal

pub put_bytes-c-requires : goal.put_bytes-c-requires
put_bytes-c-requires c =
    let few = decimal_length c.args.j c.requires.j_bound in
    omega arith

pub put_bits-d-requires : goal.put_bits-d-requires
put_bits-d-requires c =
    let few = decimal_length c.args.j c.requires.j_bound in
    omega arith

pub put_bytes-requires : goal.put_bytes-requires
put_bytes-requires c =
    let few = decimal_length c.args.j c.requires.j_bound in
    let sixteen = digits_length 16 16 (to_bits binary64 c.args.x) in
    omega arith

pub returns : goal.returns
returns c =
    put_then _ _ _ _ _ _ _ _ c.put_bytes-a.ensures.1
    (put_then _ _ _ _ _ _ _ _ c.put_decimal-b.ensures
    (put_then _ _ _ _ _ _ _ _ c.put_bytes-c.ensures.1 (put_then _ _ _ _ _ _ _ _ c.put_bits-d.ensures c.put_bytes.ensures.1)))

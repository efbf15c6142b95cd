-- `writing::bytes::put_number` puts the lowest k of the number's eight bytes (`low_bytes`). Assumes nothing.
use Rattle.std.proofs.Common.{◌≡◌, ◌∙◌, length, take, ap, arith}
use Rattle.writing.specs.Bytes.{little_endian}
use Rattle.writing.proofs.NumberLaws.{little_length}
use Rattle.writing.proofs.PutLaws.{put_as, low_bytes}
use Rattle.writing.proofs.bytes.put_number.Goals as goal

pub returns : goal.returns
returns c =
    let k = c.args.k in
    let n = c.args.n in
    let low : take k c.to_le_bytes-bytes.result ≡ little_endian k n = ap (take k) c.to_le_bytes-bytes.ensures ∙ low_bytes k n c.requires.k_bound in
    let size : length (take k c.to_le_bytes-bytes.result) ≡ k = ap length low ∙ little_length k n in
    (omega (arith, c.put_bytes.ensures.0), put_as _ _ _ _ _ _ low c.put_bytes.ensures.1)

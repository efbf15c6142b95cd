-- `format::words::double_over` returns the word of the double: the bits without the sign and what the limit leaves below the
-- sign have room in a word, and their sum stays below the sign exactly where the double is within the limit (`over_bits`).
-- Assumes nothing.
use Rattle.records.specs.Record.{double_at}
use Rattle.format.specs.Words.{double_word}
use Rattle.format.proofs.BitOrder.{over_bits}
use Rattle.format.proofs.words.double_over.Goals as goal

pub returns : goal.returns
unfolding double_at double_word
returns c = record { bits = rw c.u64_at.ensures; tells = rw c.u64_at.ensures (over_bits _ _ c.requires.limit_bound) }

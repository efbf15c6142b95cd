-- `format::words::zero_bytes` meets its contract. The invariant: the flag held says whether all bytes that are passed are 0; at first these are the whole words, as
-- `zero_words` promises, then one more byte is one more step of the definition (`zero_bytes_more`). Assumes nothing.
use Rattle.format.proofs.WordLaws.{zero_bytes_more}
use Rattle.format.proofs.words.zero_bytes.Goals as goal

pub loop-i-preserved : goal.loop-i-preserved
loop-i-preserved c = zero_bytes_more _ _ _ _ c.loop-i.invariant

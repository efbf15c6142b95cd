-- `format::words::zero_words` meets its contract. The invariant: the flag held says whether all bytes of the words that are passed are 0; one more word is eight
-- more bytes (`zero_words_more`). Assumes nothing.
use mathlib.Core.Path.{refl}
use Rattle.records.specs.Record.{zero_bytes}
use Rattle.format.proofs.WordLaws.{zero_words_more}
use Rattle.format.proofs.words.zero_words.Goals as goal

pub loop-i-init : goal.loop-i-init
unfolding zero_bytes
loop-i-init c = refl

pub loop-i-preserved : goal.loop-i-preserved
loop-i-preserved c = rw c.u64_at.ensures (zero_words_more _ _ _ _ c.loop-i.invariant)

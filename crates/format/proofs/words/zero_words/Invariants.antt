-- `format::words::zero_words` meets its contract. The invariant: the flag held says whether all bytes of the words that are passed are 0. Assumes nothing.
use mathlib.Core.Path.{◌≡◌}
use Prim.Native.Nat.{◌*◌}
use Rattle.records.specs.Record.{zero_bytes}
use Rattle.format.proofs.words.zero_words.Given as goal

abbrev pub invariant-loop-i : goal.invariant-loop-i
invariant-loop-i l = l.zero ≡ zero_bytes l.s l.o (8 * l.i)

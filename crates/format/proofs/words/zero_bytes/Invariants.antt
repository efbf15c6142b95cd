-- `format::words::zero_bytes` meets its contract. The invariant: the flag held says whether all bytes that are passed are 0. Assumes nothing.
use mathlib.Core.Path.{◌≡◌}
use Rattle.records.specs.Record.{zero_bytes}
use Rattle.format.proofs.words.zero_bytes.Given as goal

abbrev pub invariant-loop-i : goal.invariant-loop-i
invariant-loop-i l = l.zero ≡ zero_bytes l.s l.o l.i

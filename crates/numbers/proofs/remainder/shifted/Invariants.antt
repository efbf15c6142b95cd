-- After i digits r is the remainder of m * 2^i. Assumes nothing.
use mathlib.Core.Path.{◌≡◌}
use Prim.Native.Nat.{◌*◌, ◌%◌, ◌^◌, ◌<◌}
use Rattle.numbers.proofs.remainder.shifted.Given as goal

abbrev pub invariant-loop-i : goal.invariant-loop-i
invariant-loop-i l = record { below : l.r < l.n; rest : l.r ≡ l.m * 2 ^ l.i % l.n }

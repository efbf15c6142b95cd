-- `freedom::total::largest` meets its contract. The loop's invariant: the values to come lead to the same largest. Assumes nothing.
use mathlib.Core.Path.{◌≡◌}
use Prim.Native.Nat.{◌≤◌}
use lib.ListN.{length, drop}
use Rattle.numbers.specs.Double.{zero64}
use Rattle.freedom.specs.Total.{largest_of}
use Rattle.freedom.proofs.total.largest.Given as goal

abbrev pub invariant-loop-v : goal.invariant-loop-v
invariant-loop-v l = (l.v-index ≤ length l.vals) × (largest_of l.m (drop l.v-index l.vals) ≡ largest_of zero64 l.vals)

-- `freedom::total::stiff_count` meets its contract. The loop's invariant: those counted and those to come are all. Assumes nothing.
use mathlib.Core.Path.{◌≡◌}
use Prim.Native.Nat.{◌+◌, ◌≤◌}
use lib.ListN.{length, drop}
use Rattle.freedom.specs.Total.{stiff_of}
use Rattle.freedom.proofs.total.stiff_count.Given as goal

abbrev pub invariant-loop-v : goal.invariant-loop-v
invariant-loop-v l = (l.v-index ≤ length l.vals) × (l.count ≤ l.v-index) × (l.count + stiff_of l.most (drop l.v-index l.vals) ≡ stiff_of l.most l.vals)

-- `take_off` is `take_off_to` on all of memory. The loop's invariant: the columns up to k are done. Assumes nothing.
use mathlib.Core.Path.{◌≡◌}
use Prim.Native.Nat.{◌-◌, ◌≤◌}
use lib.ListN.{length}
use Rattle.least_squares.specs.Lm.{take_off_to}
use Rattle.least_squares.proofs.dense.take_off.Given as goal

abbrev pub invariant-loop-k : goal.invariant-loop-k
invariant-loop-k l = (l.col ≤ l.k) × (l.k ≤ l.n) × (length l.s ≡ length l.initial.s) × (l.s ≡ take_off_to l.initial.s l.n l.r l.col l.f (l.k - l.col))

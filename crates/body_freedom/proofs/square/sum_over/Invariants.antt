-- `body_freedom::square::sum_over` meets its contract. The loop's invariant: t is the sum over the first j rows of the list. The measure is the rows to come. Assumes nothing.
use mathlib.Core.Path.{◌≡◌}
use Prim.Native.Nat.{◌-◌, ◌≤◌}
use lib.ListN.{take}
use Rattle.numbers.specs.Double.{zero64}
use Rattle.numbers.specs.Ops.{doubles}
use Rattle.numbers.specs.Zeros.{sum_over}
use Rattle.body_freedom.specs.Square.{products_in}
use Rattle.body_freedom.proofs.square.sum_over.Given as goal

abbrev pub invariant-loop-j : goal.invariant-loop-j
invariant-loop-j l = (l.j ≤ l.count) × (l.t ≡ sum_over doubles zero64 (products_in l.s l.n l.i l.k) (take l.j l.list))

abbrev pub decreases-loop-j : goal.decreases-loop-j
decreases-loop-j l = l.count - l.j

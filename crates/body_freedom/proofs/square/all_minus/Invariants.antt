-- `body_freedom::square::all_minus` meets its contract. The loop's invariant: the products of the rows below r are -0. The measure is the rows to come. Assumes nothing.
use mathlib.Core.Path.{◌≡◌}
use mathlib.Core.Bool.{true}
use Prim.Native.Nat.{◌-◌, ◌≤◌}
use Rattle.numbers.specs.Zeros.{all_minus}
use Rattle.body_freedom.specs.Square.{products_in}
use Rattle.body_freedom.proofs.square.all_minus.Given as goal

abbrev pub invariant-loop-r : goal.invariant-loop-r
invariant-loop-r l = (l.r ≤ l.rows) × (all_minus (products_in l.s l.n l.i l.k) l.r ≡ true)

abbrev pub decreases-loop-r : goal.decreases-loop-r
decreases-loop-r l = l.rows - l.r

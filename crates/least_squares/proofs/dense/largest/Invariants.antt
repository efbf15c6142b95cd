-- `largest` is `largest_to`. The loop's invariant: t is the largest so far; a magnitude below it leaves it as it is. Assumes nothing.
use mathlib.Core.Path.{◌≡◌}
use Rattle.least_squares.specs.Lm.{largest_to}
use Rattle.least_squares.proofs.dense.largest.Given as goal

abbrev pub invariant-loop-x : goal.invariant-loop-x
invariant-loop-x l = l.t ≡ largest_to l.s l.x-index

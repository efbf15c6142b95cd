-- `least_squares::lm::norm2` meets its contract. The invariant: t is the sum of the squares so far from -0. One more square is the step of `sum_from`. Assumes nothing.
use Rattle.numbers.specs.Double.{zero64}
use Rattle.numbers.specs.Ops.{doubles}
use Rattle.numbers.specs.Sum.{sum_from}
use lib.Ieee.{nan, binary64, mul, neg}
use lib.ListN.{get_or}
use mathlib.Core.Path.{◌≡◌}
use Rattle.least_squares.proofs.lm.norm2.Given as goal

abbrev pub invariant-loop-x : goal.invariant-loop-x
invariant-loop-x l = l.t ≡ sum_from doubles (neg zero64) (λ i. mul binary64 (get_or l.v i nan) (get_or l.v i nan)) l.x-index

-- `numbers::clamp` meets its contract: the library's makes the same two comparisons. Assumes nothing.
use lib.Ieee.{of_bits, neg}
use Rattle.numbers.specs.Double.{clamp}
use Rattle.numbers.proofs.clamp.Goals as goal

pub returns : goal.returns
unfolding clamp of_bits neg
returns c = c.clamp.ensures.value

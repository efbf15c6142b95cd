-- `format::refusals::end_over` meets its contract: the definition unfolds to four tests in the same order; joined, the words tell what each of them tells (`both`), and that one
-- call promises of each. Assumes nothing.
use Rattle.format.specs.Faults.{end_limits}
use Rattle.format.proofs.WordLaws.{both}
use Rattle.format.proofs.refusals.end_over.Goals as goal

pub returns : goal.returns
unfolding end_limits
returns c = both c.vec_over-point.ensures.tells (both c.vec_over-direction.ensures.tells (both c.double_over-circle_radius.ensures.tells c.double_over-end_radius.ensures.tells))

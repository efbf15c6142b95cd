-- `format::refusals::rel_limits` meets its contract: the definition unfolds to six tests in the same order; joined, the words tell what each of them tells (`both`), and that one
-- call promises of each. Assumes nothing.
use mathlib.Core.Path.{◌∙◌}
use Rattle.format.specs.Faults.{rel_limits}
use Rattle.format.proofs.WordLaws.{both}
use Rattle.format.proofs.refusals.rel_limits.Goals as goal

pub returns : goal.returns
unfolding rel_limits
returns c =
    c.none_over.ensures
    ∙ (both c.double_over-offset.ensures.tells (both c.double_over-angle.ensures.tells (both c.vec_over-reference.ensures.tells (both c.end_over-a.ensures (both c.end_over-b.ensures c.end_over-third.ensures))))).told

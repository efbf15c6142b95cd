-- `format::refusals::body_limits` meets its contract: the definition unfolds to six tests in the same order; joined, the words tell what each of them tells (`both`), and that one
-- call promises of each. Assumes nothing.
use mathlib.Core.Path.{◌∙◌}
use Rattle.format.specs.Faults.{body_limits}
use Rattle.format.proofs.WordLaws.{both}
use Rattle.format.proofs.refusals.body_limits.Goals as goal

pub returns : goal.returns
unfolding body_limits
returns c =
    c.none_over.ensures
    ∙ (both c.vec_over-origin.ensures.tells (both c.vec_over-x.ensures.tells (both c.vec_over-y.ensures.tells (both c.vec_over-z.ensures.tells (both c.vec_over-center.ensures.tells c.double_over-size.ensures.tells))))).told

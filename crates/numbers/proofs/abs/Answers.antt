-- `numbers::abs` meets its contract: `negative` promises the sign; with the sign set the definition is the negation, without it the double itself. Assumes nothing.
use mathlib.Core.Path.{sym, ◌∙◌}
use Rattle.numbers.proofs.DoubleLaws.{abs_negative, abs_positive}
use Rattle.numbers.proofs.abs.Goals as goal

pub returns-then-negative : goal.returns-then-negative
returns-then-negative c = rw (abs_negative _ (sym c.negative.ensures ∙ c.if-negative.true))

pub returns-else-negative : goal.returns-else-negative
returns-else-negative c = rw (abs_positive _ (sym c.negative.ensures ∙ c.if-negative.false))

-- `numbers::signum` meets its contract: a double unequal to itself is a NaN, and the only NaN is the definition's; otherwise what `negative` promises chooses -1 or 1,
-- as in the definition. Assumes nothing.
use mathlib.Core.Path.{sym, ◌∙◌}
use Rattle.numbers.proofs.DoubleLaws.{ne_self, nan_only}
use Rattle.numbers.specs.Double.{signum}
use Rattle.numbers.proofs.signum.Goals as goal

pub returns-then-x : goal.returns-then-x
unfolding signum
returns-then-x c = let n = sym (ne_self _) ∙ c.if-x.true in rw (n, nan_only _ n)

pub returns-then-negative : goal.returns-then-negative
unfolding signum
returns-then-negative c = rw (sym (ne_self _) ∙ c.if-x.false, sym c.negative.ensures ∙ c.if-negative.true)

pub returns-else-negative : goal.returns-else-negative
unfolding signum
returns-else-negative c = rw (sym (ne_self _) ∙ c.if-x.false, sym c.negative.ensures ∙ c.if-negative.false)

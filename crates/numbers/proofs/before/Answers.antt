-- `numbers::before` meets its contract: one law for each outcome of the two comparisons: less, equal and neither (`before_less`, `before_level`, `before_apart`). What
-- is left to decide are the signs that `negative` promises, or which of the two is a NaN. Assumes nothing.
use mathlib.Core.Path.{sym}
use Rattle.numbers.proofs.DoubleLaws.{before_less, before_level, before_apart}
use Rattle.numbers.proofs.before.Goals as goal

pub returns-then-a-b : goal.returns-then-a-b
returns-then-a-b c = sym (before_less c.args.a c.args.b c.if-a-b.true)

pub returns-then-negative : goal.returns-then-negative
returns-then-negative c = rw (before_level c.args.a c.args.b c.if-a-b.false c.if-a-b-2.true, ← c.negative.ensures, ← c.negative-then-negative.ensures, c.if-negative.true)

pub returns-else-negative : goal.returns-else-negative
returns-else-negative c = rw (before_level c.args.a c.args.b c.if-a-b.false c.if-a-b-2.true, ← c.negative.ensures, c.if-negative.false)

pub returns-then-not-is_nan : goal.returns-then-not-is_nan
returns-then-not-is_nan c = rw (before_apart c.args.a c.args.b c.if-a-b.false c.if-a-b-2.false, ← c.is_nan.ensures.value, c.if-not-is_nan.true, ← c.is_nan-then-not-is_nan.ensures.value)

pub returns-else-not-is_nan : goal.returns-else-not-is_nan
returns-else-not-is_nan c = rw (before_apart c.args.a c.args.b c.if-a-b.false c.if-a-b-2.false, ← c.is_nan.ensures.value, c.if-not-is_nan.false)

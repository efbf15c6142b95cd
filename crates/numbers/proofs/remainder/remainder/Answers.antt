-- `remainder`, by what a and b are: a NaN, an infinity, a divisor 0, or two finite doubles. Assumes nothing.
use mathlib.Core.Path.{sym, ◌∙◌}
use lib.Ieee.{div, of_bits}
use Rattle.numbers.proofs.DoubleLaws.{nan_only}
use Rattle.numbers.proofs.RemainderLaws.{not_finite, by_nan, by_zero, by_infinity}
use Rattle.numbers.proofs.remainder.remainder.Goals as goal

pub returns-then-not-is_finite : goal.returns-then-not-is_finite
unfolding div of_bits
returns-then-not-is_finite c = not_finite c.args.a c.args.b (sym c.is_finite.ensures ∙ c.if-not-is_finite.true)

pub returns-then-is_nan : goal.returns-then-is_nan
returns-then-is_nan c = by_nan c.args.a c.args.b (sym c.is_finite.ensures ∙ c.if-not-is_finite.false) (nan_only c.args.b (sym c.is_nan.ensures.value ∙ c.if-is_nan.true))

pub returns-then-b : goal.returns-then-b
unfolding div of_bits
returns-then-b c = by_zero c.args.a c.args.b (sym c.is_finite.ensures ∙ c.if-not-is_finite.false) c.if-b.true

pub returns-then-not-is_finite-2 : goal.returns-then-not-is_finite-2
returns-then-not-is_finite-2 c =
    by_infinity c.args.a c.args.b (sym c.is_finite.ensures ∙ c.if-not-is_finite.false) (sym c.is_finite-2.ensures ∙ c.if-not-is_finite-2.true)
    (sym c.is_nan.ensures.value ∙ c.if-is_nan.false)

-- `least_squares::lm::max_abs_step` meets its contract: what `is_finite` promises decides the definition's case. For a finite row the promise of `abs` is put into that
-- of `max`; for another 1 over 0 computes to the definition's infinity. Assumes nothing.
use Rattle.numbers.specs.MaxAbs.{max_abs_step}
use mathlib.Core.Path.{◌∙◌, sym}
use lib.Ieee.{div, of_bits}
use Rattle.least_squares.proofs.lm.max_abs_step.Goals as goal

pub returns-then-is_finite : goal.returns-then-is_finite
unfolding max_abs_step
returns-then-is_finite c = rw (sym c.is_finite.ensures ∙ c.if-is_finite.true, c.max.ensures, c.abs.ensures)

pub returns-else-is_finite : goal.returns-else-is_finite
unfolding max_abs_step div of_bits
returns-else-is_finite c = rw (sym c.is_finite.ensures ∙ c.if-is_finite.false)

-- `numbers::negative` meets its contract. The bits are those of a double that fits, so the highest is its sign. Assumes nothing.
use mathlib.Core.Path.{◌≡◌, sym, ◌∙◌}
use mathlib.Core.Bool.{true, false}
use borrow.Author.Tests.{not-true, not-false}
use lib.Ieee.{Float, is_nan, eq}
use Rattle.numbers.proofs.DoubleLaws.{eq_self, negative_bits, negative_nan}
use Rattle.numbers.proofs.negative.Goals as goal

number : (x : Float) → eq x x ≡ true → is_nan x ≡ false
number x h = not-true (is_nan x) (sym (eq_self x) ∙ h)

pub float_to_bits-result : goal.float_to_bits-result
float_to_bits-result c = rw (number c.args.x c.if-x.true) tt

pub returns-then-x : goal.returns-then-x
returns-then-x c = negative_bits c.args.x c.well_formed.0.1 (number c.args.x c.if-x.true)

pub returns-else-x : goal.returns-else-x
returns-else-x c =
    c.if-x.false
    ∙ sym (negative_nan c.args.x (not-false (is_nan c.args.x) (sym (eq_self c.args.x) ∙ c.if-x.false)))

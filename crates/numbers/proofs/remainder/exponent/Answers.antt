-- `exponent` by the field. Assumes nothing.
use native.Mathlib.Omega.{arith}
use Rattle.numbers.proofs.BitLaws.{exponent_is}
use Rattle.numbers.proofs.remainder.exponent.Goals as goal

pub returns-then-field-eq0 : goal.returns-then-field-eq0
returns-then-field-eq0 c = rw (exponent_is c.args.b) (omega arith)

pub returns-else-field-eq0 : goal.returns-else-field-eq0
returns-else-field-eq0 c = rw (exponent_is c.args.b)

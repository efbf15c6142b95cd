-- `significand` by the field: where it is not 0, the leading digit is 1. Assumes nothing.
use mathlib.Core.Path.{sym}
use native.Mathlib.Omega.{arith}
use Rattle.numbers.proofs.BitLaws.{significand_low, significand_normal}
use Rattle.numbers.proofs.remainder.significand.Goals as goal

pub returns-then-b-eq0 : goal.returns-then-b-eq0
returns-then-b-eq0 c = sym (significand_low c.args.b (omega arith))

pub returns-else-b-eq0 : goal.returns-else-b-eq0
returns-else-b-eq0 c = sym (significand_normal c.args.b (omega arith))

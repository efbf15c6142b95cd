-- `roots::cases::compare_bits` meets its contract: bits at most those of the infinity, the sign taken off, are
-- no NaN's. Assumes nothing.
use Rattle.std.proofs.Common.{Bool, not, T, sym, subst, le-ltb, lt-ltb}
use lib.Arith.{le→nltb}
use lib.Ieee.{binary64}
use lib.Ieee.Bits.{nan_bits_above}
use Rattle.roots.specs.Cases.{compare_bits}
use Rattle.roots.proofs.cases.compare_bits.Goals as goal

pub float_from_bits-b : goal.float_from_bits-b
float_from_bits-b c = subst (λ (z : Bool). T (not z)) (sym (nan_bits_above binary64 c.args.b)) (le→nltb _ _ c.if-b-gt9218868437227405312.false)

pub returns-then-b-gt9218868437227405312 : goal.returns-then-b-gt9218868437227405312
unfolding compare_bits
returns-then-b-gt9218868437227405312 c = rw (lt-ltb _ _ c.if-b-gt9218868437227405312.true)

pub returns-else-b-gt9218868437227405312 : goal.returns-else-b-gt9218868437227405312
unfolding compare_bits
returns-else-b-gt9218868437227405312 c = rw (le-ltb _ _ c.if-b-gt9218868437227405312.false, c.compare.ensures)

-- `roots::cases::exponents` meets its contract. The invariant: the first field are compared, in turn. Assumes
-- nothing.
use Rattle.std.proofs.Common.{◌≡◌, ℕ, sym, arith}
use Rattle.roots.specs.Cases.{one_exponent}
use Rattle.roots.proofs.InTurn.{turn_next, turn_none}
use Rattle.roots.proofs.cases.exponents.Goals as goal

pub loop-field-init : goal.loop-field-init
loop-field-init c = (omega arith, sym (turn_none _ _))

pub loop-field-preserved : goal.loop-field-preserved
loop-field-preserved c = (omega arith, rw (turn_next one_exponent _ _, sym c.loop-field.invariant.1, c.one_exponent-t.ensures))

pub returns : goal.returns
returns c = let e : ◌≡◌ {A = ℕ} c.loop-field.field 2047 = omega arith in rw e at c.loop-field.invariant.1

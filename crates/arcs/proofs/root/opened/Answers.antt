-- `arcs::root::opened` meets its contract: significand and exponent by the field (`Bits.antt`). Assumes nothing.
use native.Mathlib.Omega.{arith}
use Rattle.numbers.proofs.BitLaws.{significand_low, significand_normal, exponent_is}
use Rattle.arcs.proofs.root.opened.Goals as goal

pub scaled-requires : goal.scaled-requires
scaled-requires c = omega (arith, significand_low c.args.b c.if-field-eq0.true)

pub returns-then-field-eq0 : goal.returns-then-field-eq0
returns-then-field-eq0 c =
    let z = c.if-field-eq0.true in
    rw (significand_low c.args.b z, exponent_is c.args.b, z) c.scaled.ensures

pub returns-else-field-eq0 : goal.returns-else-field-eq0
returns-else-field-eq0 c = rw (significand_normal c.args.b (omega arith), exponent_is c.args.b) c.scaled-else-field-eq0.ensures

-- `unit`: the bits of the power, and with the sign's bit those of its negative. Assumes nothing.
use Rattle.numbers.proofs.RemainderLaws.{Power, unit_plus, unit_minus, bits_no_nan}
use Rattle.numbers.proofs.remainder.unit.Goals as goal

pub float_from_bits-result : goal.float_from_bits-result
float_from_bits-result c =
    let e = c.power-size.ensures in
    let p : Power c.args.d c.power-size.result = record { plus = e.plus; finite = e.finite; size = e.size } in
    bits_no_nan _ _ _ _ (unit_minus c.args.d c.power-size.result p)

pub float_from_bits-result-else-negative : goal.float_from_bits-result-else-negative
float_from_bits-result-else-negative c =
    let e = c.power-size.ensures in
    let p : Power c.args.d c.power-size.result = record { plus = e.plus; finite = e.finite; size = e.size } in
    bits_no_nan _ _ _ _ (unit_plus c.args.d c.power-size.result p)

pub returns-then-negative : goal.returns-then-negative
returns-then-negative c =
    let e = c.power-size.ensures in
    let p : Power c.args.d c.power-size.result = record { plus = e.plus; finite = e.finite; size = e.size } in
    rw c.if-negative.true (unit_minus c.args.d c.power-size.result p)

pub returns-else-negative : goal.returns-else-negative
returns-else-negative c =
    let e = c.power-size.ensures in
    let p : Power c.args.d c.power-size.result = record { plus = e.plus; finite = e.finite; size = e.size } in
    rw c.if-negative.false (unit_plus c.args.d c.power-size.result p)

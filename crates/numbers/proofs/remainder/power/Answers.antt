-- `power`: up to 2^51 units the bits are the number itself (`power_low`), from there on the field counts the digits (`power_high`). Assumes nothing.
use native.Mathlib.Omega.{arith}
use Rattle.numbers.proofs.RemainderLaws.{power_low, power_high}
use Rattle.numbers.proofs.remainder.power.Goals as goal

pub returns-then-d-lt52 : goal.returns-then-d-lt52
returns-then-d-lt52 c =
    let p = power_low c.args.d (omega arith) in
    record { plus = p.plus; finite = p.finite; size = p.size }

pub returns-else-d-lt52 : goal.returns-else-d-lt52
returns-else-d-lt52 c =
    let p = power_high c.args.d (omega arith) c.requires in
    record { plus = p.plus; finite = p.finite; size = p.size }

-- `report::text::put_decimal` meets its contract: as many digits are written as the number has, at most five. Assumes nothing.
use mathlib.Core.Path.{refl}
use native.Mathlib.Omega.{arith}
use Rattle.report.proofs.TextLaws.{places_bound, put_digits_as}
use Rattle.report.proofs.text.put_decimal.Goals as goal

pub put_digits-requires : goal.put_digits-requires
put_digits-requires c =
    let n = c.args.n in
    let few = places_bound 4 n n (omega arith) in
    let e = c.places-k.ensures in
    record { base_nonzero = omega arith; base_bound = omega arith; k_in_bounds = omega arith }

pub returns : goal.returns
returns c = put_digits_as _ _ _ _ _ _ _ _ _ c.places-k.ensures refl c.put_digits.ensures

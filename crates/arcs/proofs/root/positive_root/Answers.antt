-- `arcs::root::positive_root` meets its contract: x is m * 2 ^ 52 * 4 ^ k times 4 ^ -1074, and q is the whole number nearest to the root of m * 2 ^ 52 (`Bits.antt`). Assumes nothing.
use mathlib.Core.Path.{sym, subst}
use lib.Dec.{T}
use lib.Ieee.{binary64, fits}
use Rattle.numbers.proofs.BitLaws.{significand_pos, field_finite}
use Rattle.arcs.proofs.root.Bits.{positive_no_nan, root_no_nan, root_found}
use Rattle.arcs.proofs.root.positive_root.Goals as goal

pub float_to_bits-b : goal.float_to_bits-b
float_to_bits-b c = positive_no_nan c.args.x c.requires

-- `held` is what owning an `f64` tells: the format holds it
pub opened-n-requires : goal.opened-n-requires
opened-n-requires c =
    let held : T (fits binary64 c.args.x) =
    subst T (sym c.well_formed.0.1) tt in
    (significand_pos c.args.x held c.requires, field_finite c.args.x held c.requires)

pub float_from_bits-result : goal.float_from_bits-result
float_from_bits-result c =
    let held : T (fits binary64 c.args.x) =
    subst T (sym c.well_formed.0.1) tt in
    root_no_nan _ held c.requires _ _ _ c.opened-n.ensures c.nearest_root-q.ensures

pub returns : goal.returns
returns c =
    let held : T (fits binary64 c.args.x) =
    subst T (sym c.well_formed.0.1) tt in
    root_found _ held c.requires _ _ _ c.opened-n.ensures c.nearest_root-q.ensures

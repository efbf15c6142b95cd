-- `arcs::root::root` meets its contract, an arm at a time (`Arms.antt`). Assumes nothing.
use mathlib.Core.Path.{sym, subst}
use lib.Dec.{T}
use lib.Ieee.{binary64, fits}
use Rattle.arcs.proofs.root.Arms.{is_zero, is_infinity, is_nan, positive_arm, infinity_arm, zero_arm, nan_arm}
use Rattle.arcs.proofs.root.root.Goals as goal

pub unit_or_root-requires : goal.unit_or_root-requires
unit_or_root-requires c = positive_arm c.args.x (rw is_zero at c.if-x.true) (rw is_infinity at c.if-x-2.false)

pub returns-then-x-2 : goal.returns-then-x-2
returns-then-x-2 c = infinity_arm c.args.x (rw is_infinity at c.if-x-2.true)

pub returns-else-x-2 : goal.returns-else-x-2
returns-else-x-2 c = c.unit_or_root.ensures

-- `held` is what owning an `f64` tells: the format holds it
pub returns-then-x-3 : goal.returns-then-x-3
returns-then-x-3 c =
    let held : T (fits binary64 c.args.x) =
    subst T (sym c.well_formed.0.1) tt in
    zero_arm c.args.x held (rw is_zero at c.if-x-3.true)

pub returns-else-x-3 : goal.returns-else-x-3
returns-else-x-3 c = rw is_nan (nan_arm c.args.x (rw is_zero at c.if-x.false) (rw is_zero at c.if-x-3.false))

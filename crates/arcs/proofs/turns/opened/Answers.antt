-- `arcs::turns::opened` meets its contract: the angle's bits are those of a whole number of units of 2 ^ -46 (`far_bits`, `far_steps`). Assumes nothing.
use mathlib.Core.Path.{sym, subst}
use native.Mathlib.Omega.{arith}
use lib.Dec.{T}
use lib.Ieee.{binary64, fits}
use Rattle.arcs.proofs.FarLaws.{number, FarBits, far_bits, far_steps}
use Rattle.arcs.proofs.turns.opened.Goals as goal

module _ (c : goal.Start) where
  held : T (fits binary64 c.args.t)
  held = subst T (sym c.well_formed.0.1) tt

  at : FarBits c.args.t held c.requires
  at = far_bits c.args.t held c.requires

pub float_to_bits-b : goal.float_to_bits-b
float_to_bits-b c = number c.args.t (held c) c.requires

pub overflow_sub-s : goal.overflow_sub-s
overflow_sub-s c = omega (arith, at c)

pub overflow_sub-result : goal.overflow_sub-result
overflow_sub-result c = omega (arith, at c)

pub overflow_shl-result : goal.overflow_shl-result
overflow_shl-result c = omega (arith, at c)

pub returns : goal.returns
returns c = far_steps c.args.t (held c) c.requires

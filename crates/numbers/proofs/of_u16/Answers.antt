-- `numbers::of_u16` meets its contract: the cast is the definition's rounding, and a number of sixteen digits has no more than a double keeps. Assumes nothing.
use mathlib.Core.Path.{refl}
use native.Mathlib.Omega.{arith}
use Rattle.numbers.specs.Double.{of_whole}
use Rattle.numbers.proofs.WholeLaws.{whole_exact}
use Rattle.numbers.proofs.of_u16.Goals as goal

pub returns : goal.returns
unfolding of_whole
returns c = rw c.from.ensures (record { is = refl; exact = whole_exact c.args.n (omega arith) })

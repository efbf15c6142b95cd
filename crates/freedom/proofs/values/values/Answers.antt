-- `freedom::values::values`: the sweeps and the sort are lent a part of the scratch each, and no rows of vectors; between them the diagonal is copied. What each leaves of its part is
-- said of the whole, and the values are those of the pairs (`values_end`). Assumes nothing.
use mathlib.Core.Path.{ap}
use Rattle.eigen.specs.Eigen.{Turned}
use Rattle.eigen.specs.EigenMemory.{Held}
use Rattle.freedom.proofs.ValueLaws.{values_end}
use Rattle.freedom.proofs.values.values.Goals as goal

pub returns : goal.returns
returns c =
    let turns = ap (λ (w : Turned). w.m) c.sweeps.ensures in
    let sorts = ap (λ (w : Held). w.vals) c.sort.ensures in
    values_end c.args.n c.args.s.now _ _ _ c.requires turns c.sweeps.auto.m c.diagonal.ensures sorts c.sort.auto.vals

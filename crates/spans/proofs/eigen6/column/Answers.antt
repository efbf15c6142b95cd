-- `eigen6::column` meets its contract. The loop's invariant: the first k entries stand, the others are 0. Assumes nothing.
use native.Mathlib.Omega.{arith}
use native.Mathlib.Numerals.{add-one}
use mathlib.Core.Path.{refl}
use Rattle.numbers.specs.Double.{zero64}
use Rattle.eigen.specs.Eigen.{column}
use Rattle.eigen.proofs.Sorting.{fill_step}
use Rattle.spans.proofs.Flat.{length_column}
use Rattle.spans.proofs.eigen6.column.Goals as goal

pub loop-k-init : goal.loop-k-init
unfolding column
loop-k-init c = refl

pub loop-k-preserved : goal.loop-k-preserved
unfolding column
loop-k-preserved c =
    let record { n = n; i = i; v = b } = c.args in
    let v = b.now in
    let k = c.loop-k.k in
    rw (c.loop-k.invariant, add-one) (fill_step 6 k (column n v i k) zero64 _ (length_column n v i k) (omega arith))

-- `eigen6::pairs` meets its contract. The loop's invariant: the first i pairs stand, the others are 0. Assumes nothing.
use native.Mathlib.Omega.{arith}
use native.Mathlib.Numerals.{add-one}
use mathlib.Core.Path.{refl}
use Rattle.eigen.specs.EigenMemory.{held, held_pairs}
use Rattle.spans.proofs.Eigen6Laws.{pairs_step}
use Rattle.spans.proofs.eigen6.pairs.Goals as goal

pub loop-i-init : goal.loop-i-init
unfolding held_pairs
loop-i-init c = refl

pub loop-i-preserved : goal.loop-i-preserved
loop-i-preserved c =
    let record { vals = vals; v = v; n = n } = c.args in
    rw add-one (pairs_step n (held vals.now v.now) c.loop-i.i _ _ (omega arith) c.loop-i.invariant (rw c.column-vector.ensures refl))

-- `eigen6::column` meets its contract. The loop's invariant: the first k entries stand, the others are 0. Assumes nothing.
use Prim.Native.Nat.{◌-◌}
use mathlib.Core.Path.{◌≡◌}
use mathlib.Core.List.{◌++◌}
use lib.ListN.{replicate}
use Rattle.numbers.specs.Double.{zero64}
use Rattle.eigen.specs.Eigen.{column}
use Rattle.spans.proofs.eigen6.column.Given as goal

abbrev pub invariant-loop-k : goal.invariant-loop-k
invariant-loop-k l = l.r ≡ column l.n l.v l.i l.k ++ replicate (6 - l.k) zero64

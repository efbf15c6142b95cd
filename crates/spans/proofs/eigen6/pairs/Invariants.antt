-- `eigen6::pairs` meets its contract. The loop's invariant: the first i pairs stand, the others are 0. Assumes nothing.
use Prim.Native.Nat.{◌-◌}
use mathlib.Core.Path.{◌≡◌}
use mathlib.Core.List.{◌++◌, map}
use lib.ListN.{replicate}
use Rattle.eigen.specs.EigenMemory.{held, held_pairs}
use Rattle.spans.specs.Eigen6.{eigen6, none6}
use Rattle.spans.proofs.eigen6.pairs.Given as goal

abbrev pub invariant-loop-i : goal.invariant-loop-i
invariant-loop-i l = l.r ≡ map (eigen6 l.n) (held_pairs l.n (held l.vals l.v) l.i) ++ replicate (6 - l.i) none6

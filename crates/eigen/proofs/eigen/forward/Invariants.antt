-- `eigen::forward`: the pair changes places with the one before it, as long as it stands before that. The loop's invariant: moving the pair at j on leads to the same end. Assumes nothing.
use mathlib.Core.Path.{◌≡◌}
use Rattle.eigen.specs.EigenMemory.{held, forward}
use Rattle.eigen.proofs.eigen.forward.Given as goal

abbrev pub invariant-loop-j : goal.invariant-loop-j
invariant-loop-j l = forward l.n l.j (held l.vals l.v) ≡ forward l.n l.i (held l.initial.vals l.initial.v)

-- `eigen::swap_columns`: the rows are gone through one after another. The loop's invariant: in the first k rows the entries have changed places. Assumes nothing.
use mathlib.Core.Path.{◌≡◌}
use Rattle.eigen.specs.EigenMemory.{swap_columns}
use Rattle.eigen.proofs.eigen.swap_columns.Given as goal

abbrev pub invariant-loop-k : goal.invariant-loop-k
invariant-loop-k l = l.l ≡ swap_columns l.n l.i l.j l.initial.l l.k

-- `swap_rows` is `swap_to` on all of memory. The loop's invariant: the first k entries are exchanged. Assumes nothing.
use mathlib.Core.Path.{◌≡◌}
use Rattle.least_squares.specs.Lm.{swap_to}
use Rattle.least_squares.proofs.dense.swap_rows.Given as goal

abbrev pub invariant-loop-k : goal.invariant-loop-k
invariant-loop-k l = l.s ≡ swap_to l.initial.s l.n l.p l.col l.k

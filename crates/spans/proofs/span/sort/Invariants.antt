-- `span::sort` meets its contract. The loop's invariant: the first i vectors are sorted, the others untouched. Assumes nothing.
use mathlib.Core.Path.{◌≡◌}
use Rattle.spans.specs.Basis.{longer3, past3}
use Rattle.eigen.proofs.Sorting.{sorted_to}
use Rattle.spans.proofs.span.sort.Given as goal

abbrev pub invariant-loop-i : goal.invariant-loop-i
invariant-loop-i l = l.vs ≡ sorted_to longer3 past3 l.initial.vs l.i

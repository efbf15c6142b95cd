-- `span::without` meets its contract. The loop's invariant: u and the vectors left give what all do. Assumes nothing.
use mathlib.Core.Path.{◌≡◌}
use mathlib.Core.List.{map}
use lib.ListN.{drop}
use Rattle.vectors.specs.Vec.{vec}
use Rattle.spans.specs.Span.{without}
use Rattle.spans.proofs.span.without.Given as goal

abbrev pub invariant-loop-b : goal.invariant-loop-b
invariant-loop-b l = without (vec l.u) (map vec (drop l.b-index l.b-items)) ≡ without (vec l.initial.u) (map vec l.b-items)

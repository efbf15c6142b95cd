-- `span::longest` meets its contract. The loop's invariant: m and the vectors left give what all do. Assumes nothing.
use mathlib.Core.Path.{◌≡◌}
use mathlib.Core.List.{map}
use lib.ListN.{drop}
use Rattle.numbers.specs.Double.{zero64}
use Rattle.vectors.specs.Vec.{vec}
use Rattle.spans.specs.Span.{longest}
use Rattle.spans.proofs.span.longest.Given as goal

abbrev pub invariant-loop-v : goal.invariant-loop-v
invariant-loop-v l = longest (map vec (drop l.v-index l.vs)) l.m ≡ longest (map vec l.vs) zero64

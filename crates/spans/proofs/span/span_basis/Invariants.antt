-- `span::span_basis` meets its contract. The loop's invariant: `out` is the basis after the first vectors of the sorted ones. Assumes nothing.
use mathlib.Core.Path.{◌≡◌}
use mathlib.Core.List.{[]}
use Rattle.spans.specs.Span.{joined}
use Rattle.spans.specs.Basis.{first, basis_of}
use Rattle.spans.proofs.span.span_basis.Given as goal

abbrev pub invariant-loop-v : goal.invariant-loop-v
invariant-loop-v l = l.out ≡ basis_of (joined l.least [] (first l.v-index l.v-items))

-- `span::sink` meets its contract. The loop's invariant: what is left to do at j gives the same list. Assumes nothing.
use mathlib.Core.Path.{◌≡◌}
use Rattle.eigen.specs.Insertion.{sink}
use Rattle.spans.specs.Basis.{longer3, past3}
use Rattle.spans.proofs.span.sink.Given as goal

abbrev pub invariant-loop-j : goal.invariant-loop-j
invariant-loop-j l = sink longer3 past3 l.vs l.j ≡ sink longer3 past3 l.initial.vs l.i

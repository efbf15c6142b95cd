-- `format::refusals::rels_fault` meets its contract. The invariant: the relations that are passed have no fault. Assumes nothing.
use mathlib.Core.Path.{◌≡◌}
use Rattle.format.specs.Faults.{rels_fault}
use Rattle.format.proofs.refusals.rels_fault.Given as goal

abbrev pub invariant-loop-j : goal.invariant-loop-j
invariant-loop-j l = rels_fault l.s l.j ≡ 0

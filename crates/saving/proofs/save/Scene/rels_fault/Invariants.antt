-- `saving::save::Scene::rels_fault` meets its contract. The invariant: the fault held is that of the relations passed, whose parts are numbers of the machine. Assumes nothing.
use Rattle.faults.specs.Fault.{number_of}
use Rattle.saving.specs.Saved.{RelsSaved}
use Rattle.saving.proofs.save.Scene.rels_fault.Given as goal

abbrev pub invariant-loop-j : goal.invariant-loop-j
invariant-loop-j l = RelsSaved l.self l.j (number_of l.fault)

-- `saving::save::Scene::bodies_fault` meets its contract. The invariant: the fault held is that of the bodies passed, whose parts are numbers of the machine. Assumes nothing.
use Rattle.faults.specs.Fault.{number_of}
use Rattle.saving.specs.Saved.{BodiesSaved}
use Rattle.saving.proofs.save.Scene.bodies_fault.Given as goal

abbrev pub invariant-loop-i : goal.invariant-loop-i
invariant-loop-i l = BodiesSaved l.self l.i (number_of l.fault)

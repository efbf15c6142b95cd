-- `saving::save::Scene::bodies_fault` meets its contract, one record more at a time (`bodies_more`). Assumes nothing.
use Rattle.std.proofs.Common.{◌∙◌, ap}
use Rattle.faults.specs.Fault.{number_of}
use Rattle.format.proofs.RefusalLaws.{number_and}
use Rattle.saving.proofs.SavedLaws.{no_bodies, bodies_more}
use Rattle.saving.proofs.save.Scene.bodies_fault.Goals as goal

pub loop-i-init : goal.loop-i-init
loop-i-init c = no_bodies _

pub loop-i-preserved : goal.loop-i-preserved
loop-i-preserved c =
    bodies_more _ _ _ _ _ c.loop-i.invariant c.saved_body_fault.ensures (ap number_of c.and-fault.ensures ∙ number_and c.loop-i.fault _)

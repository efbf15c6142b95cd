-- `saving::save::Scene::rels_fault` meets its contract, one record more at a time (`rels_more`). Assumes nothing.
use Rattle.std.proofs.Common.{◌∙◌, ap}
use Rattle.faults.specs.Fault.{number_of}
use Rattle.format.proofs.RefusalLaws.{number_and}
use Rattle.saving.proofs.SavedLaws.{no_rels, rels_more}
use Rattle.saving.proofs.save.Scene.rels_fault.Goals as goal

pub loop-j-init : goal.loop-j-init
loop-j-init c = no_rels _

pub loop-j-preserved : goal.loop-j-preserved
loop-j-preserved c =
    rels_more _ _ _ _ _ c.loop-j.invariant c.saved_rel_fault.ensures (ap number_of c.and-fault.ensures ∙ number_and c.loop-j.fault _)

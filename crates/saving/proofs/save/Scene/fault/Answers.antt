-- `saving::save::Scene::fault` meets its contract: the numbers of the tests are joined as the definition joins them (`records_then`); counts that do not pass give their
-- own (`counts_stop`). Assumes nothing.
use Rattle.std.proofs.Common.{rules}
use Rattle.format.proofs.RefusalLaws.{number_and}
use Rattle.saving.proofs.SavedLaws.{records_then, counts_stop}
use Rattle.saving.proofs.save.Scene.fault.Goals as goal

pub returns-in_err-counts_fault : goal.returns-in_err-counts_fault
returns-in_err-counts_fault c = counts_stop c.args.self.now _ _ c.in_err-counts_fault.field-0.0 (search rules) c.in_err-counts_fault.ensures

pub returns : goal.returns
returns c =
    records_then c.args.self.now _ _ _ _ _ c.in_ok-counts_fault.ensures c.bodies_fault.ensures c.rels_fault.ensures c.room_fault.ensures
    (rw (c.and.ensures, number_and, c.and-records.ensures, number_and))

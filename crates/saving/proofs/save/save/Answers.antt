-- `saving::save::save` answers as `SaveAnswer` says: a refusal leaves the sheet as it was (`refused`); a scene that is let through has room (`accepted`), and its sheet is
-- put (`written`). Assumes nothing.
use Rattle.std.proofs.Common.{rules}
use Rattle.saving.proofs.SavedLaws.{accepted, written, refused}
use Rattle.saving.proofs.save.save.Goals as goal

pub put-requires : goal.put-requires
put-requires c =
    let a = accepted c.args.scene _ c.in_ok-fault.ensures.number in
    record { m_bound = a.bodies; k_bound = a.relations; k_in_bounds = a.room_is }

pub returns-in_err-fault : goal.returns-in_err-fault
returns-in_err-fault c = refused c.args.scene _ _ c.in_err-fault.field-0.0 (search rules) c.in_err-fault.ensures

pub returns : goal.returns
returns c = written c.args.scene _ _ _ c.in_ok-fault.ensures c.put.ensures.0 c.put.ensures.1

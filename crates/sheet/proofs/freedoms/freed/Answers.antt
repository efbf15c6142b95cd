-- `sheet::freedoms::freed` answers as `DofAnswer` says, by the laws of FreedomLaws. Assumes nothing.
use Rattle.std.proofs.Common.{refl, sym, rules, arith}
use Rattle.faults.proofs.FaultLaws.{refusal_nonzero}
use Rattle.sheet.proofs.FreedomLaws.{accepted, answered, asked, refused, total_fits}
use Rattle.sheet.proofs.freedoms.freed.Goals as goal

pub scene_in-requires : goal.scene_in-requires
scene_in-requires c = (accepted _ _ _ (sym c.in_ok-dof_fault.ensures)).sheet

pub dof-requires : goal.dof-requires
dof-requires c =
    let h = asked _ _ c.scene_in.ensures.made _ _ _ c.in_ok-dof_fault.ensures refl in
    record { scene_in_bounds = h.1.1.0; m_in_bounds = h.1.1.1 }

pub overflow_cast-free : goal.overflow_cast-free
overflow_cast-free c = omega (arith, total_fits _ _ c.scene_in.ensures.made _ _ _ _ _ _ _ _ c.in_ok-dof_fault.ensures refl (rw c.scene_in.ensures.bytes at c.dof.ensures))

pub returns-in_err-dof_fault : goal.returns-in_err-dof_fault
returns-in_err-dof_fault c = refused c.args.sheet.now _ _ _ _ (search rules) (refusal_nonzero c.in_err-dof_fault.field-0.0 _ (search rules))

pub returns : goal.returns
returns c = answered c.args.sheet.now _ _ _ _ _ _ _ _ c.in_ok-dof_fault.ensures refl c.scene_in.ensures.made (rw c.scene_in.ensures.bytes at c.dof.ensures)

-- `sheet::solving::solve_by` answers as `SolveWithAnswer` says: what `solve_fault` refuses leaves everything as it was (`refused`); what it lets through is
-- long enough for `solve` (`asked`), whose answer for the scene read and the body dragged is the sheet's (`answered`). By the laws of SolvingLaws. Assumes
-- nothing.
use Rattle.std.proofs.Common.{refl, sym, rules}
use Rattle.faults.proofs.FaultLaws.{refusal_nonzero}
use Rattle.relations.specs.Model.{body_number}
use Rattle.scene.specs.Scene.{parameters_of}
use Rattle.sheet.proofs.SolvingLaws.{accepted, answered, asked, refused}
use Rattle.sheet.proofs.solving.solve_by.Goals as goal

pub scene_in-held-requires : goal.scene_in-held-requires
scene_in-held-requires c = (accepted _ _ _ _ _ _ _ (sym c.in_ok-solve_fault.ensures)).sheet

pub solve-ok-requires : goal.solve-ok-requires
solve-ok-requires c =
    let h = asked _ _ c.scene_in-held.ensures.made (parameters_of c.args.q) _ _ _ _ _ _ c.in_ok-solve_fault.ensures refl in
    record { limit = h.1.0.2; scene_in_bounds = h.1.1.0; m_in_bounds = h.1.1.1.0; m_in_bounds_2 = h.1.1.1.1.0; k_in_bounds = h.1.1.1.1.1 }

pub returns-in_err-solve_fault : goal.returns-in_err-solve_fault
returns-in_err-solve_fault c =
    refused c.args.sheet.now (parameters_of c.args.q) _ _ _ _ _ _ _ (search rules) (refusal_nonzero c.in_err-solve_fault.field-0.0 _ (search rules))

pub returns : goal.returns
returns c =
    let g = c.args in
    answered g.sheet.now (parameters_of g.q) _ _ _ _ _ _ _ _ _ _ _ _ _ (body_number c.drag_body-place.result) _ c.in_ok-solve_fault.ensures refl
    c.scene_in-held.ensures.made
    c.drag_body-place.ensures
    (search rules)
    (rw c.scene_in-held.ensures.bytes at c.solve-ok.ensures)
    c.flag.ensures

-- `sheet::going::on_by` answers as `OnAnswer` says: what `on_fault` refuses leaves everything as it was (`on_refused`); what it lets through is long enough for
-- `solve_on` (`asked`), and what that leaves is the sheet's answer (`on_answered`). By the laws of GoingLaws. Assumes nothing.
use Rattle.std.proofs.Common.{refl, sym, rules}
use Rattle.faults.proofs.FaultLaws.{refusal_nonzero}
use Rattle.relations.specs.Model.{body_number}
use Rattle.scene.specs.Scene.{parameters_of}
use Rattle.refusals.proofs.AcceptedLaws.{on_accepted}
use Rattle.sheet.proofs.GoingLaws.{asked, on_answered, on_refused}
use Rattle.sheet.proofs.going.on_by.Goals as goal

pub scene_in-held-requires : goal.scene_in-held-requires
scene_in-held-requires c = (on_accepted _ _ _ _ _ _ _ _ _ _ _ (sym c.in_ok-on_fault.ensures)).accepted.sheet

pub solve_on-e-requires : goal.solve_on-e-requires
solve_on-e-requires c =
    let g = c.args in
    let a = (on_accepted _ _ _ _ _ _ _ _ _ _ _ (sym c.in_ok-on_fault.ensures)).accepted in
    let h = asked g.sheet.now _ c.scene_in-held.ensures.made (parameters_of g.q) g.state.now g.scratch.now g.poses.now g.frames.now g.errors.now a in
    record { q_value = h.1.0; scene_in_bounds = h.1.1.0; room = h.1.1.1 }

pub returns-in_err-on_fault : goal.returns-in_err-on_fault
returns-in_err-on_fault c =
    let g = c.args in
    on_refused g.sheet.now (parameters_of g.q) _ _ _ _ _ _ _ _ _ _ _ _ _ (search rules) (refusal_nonzero c.in_err-on_fault.field-0.0 _ (search rules))

pub returns : goal.returns
returns c =
    let g = c.args in
    on_answered g.sheet.now (parameters_of g.q) g.drag g.portion g.unknowns g.rows g.state.now g.scratch.now g.poses.now g.frames.now g.errors.now _ _ _ _ _ _ _ _ _ _ _ _
    (body_number c.drag_body-place.result)
    c.solve_on-e.result
    _
    c.in_ok-on_fault.ensures
    refl
    c.scene_in-held.ensures.made
    c.drag_body-place.ensures
    c.solve_on-e.auto.s
    (rw c.scene_in-held.ensures.bytes at c.solve_on-e.ensures)
    refl
    refl
    c.flag.ensures

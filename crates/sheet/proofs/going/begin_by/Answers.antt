-- `sheet::going::begin_by` answers as `BeginAnswer` says: what `begin_fault` refuses leaves everything as it was (`begin_refused`); what it lets through is long enough
-- for `solve_begin` (`asked`), and what that leaves is the sheet's answer (`begin_answered`). By the laws of GoingLaws. Assumes nothing.
use Rattle.std.proofs.Common.{refl, sym, rules, arith}
use Rattle.faults.proofs.FaultLaws.{refusal_nonzero}
use Rattle.relations.specs.Model.{body_number}
use Rattle.scene.specs.Scene.{parameters_of}
use Rattle.refusals.proofs.AcceptedLaws.{begin_accepted}
use Rattle.sheet.proofs.GoingLaws.{asked, counts_fit_lem, begin_answered, begin_refused}
use Rattle.sheet.proofs.going.begin_by.Goals as goal

pub scene_in-held-requires : goal.scene_in-held-requires
scene_in-held-requires c = (begin_accepted _ _ _ _ _ _ _ _ _ (sym c.in_ok-begin_fault.ensures)).sheet

pub solve_begin-e-requires : goal.solve_begin-e-requires
solve_begin-e-requires c =
    let g = c.args in
    let a = begin_accepted _ _ _ _ _ _ _ _ _ (sym c.in_ok-begin_fault.ensures) in
    let h = asked g.sheet.now _ c.scene_in-held.ensures.made (parameters_of g.q) g.state.now g.scratch.now g.poses.now g.frames.now g.errors.now a in
    record { q_value = h.1.0; scene_in_bounds = h.1.1.0; room = h.1.1.1 }

pub overflow_cast-unknowns : goal.overflow_cast-unknowns
overflow_cast-unknowns c =
    let g = c.args in
    let a = begin_accepted _ _ _ _ _ _ _ _ _ (sym c.in_ok-begin_fault.ensures) in
    omega (arith, (counts_fit_lem g.sheet.now _ c.scene_in-held.ensures.made (parameters_of g.q) g.state.now g.scratch.now g.poses.now g.frames.now g.errors.now a).0)

pub overflow_cast-rows : goal.overflow_cast-rows
overflow_cast-rows c =
    let g = c.args in
    let a = begin_accepted _ _ _ _ _ _ _ _ _ (sym c.in_ok-begin_fault.ensures) in
    omega (arith, (counts_fit_lem g.sheet.now _ c.scene_in-held.ensures.made (parameters_of g.q) g.state.now g.scratch.now g.poses.now g.frames.now g.errors.now a).1)

pub returns-in_err-begin_fault : goal.returns-in_err-begin_fault
returns-in_err-begin_fault c =
    let g = c.args in
    begin_refused g.sheet.now (parameters_of g.q) _ _ _ _ _ _ _ _ _ _ _ _ _ (search rules) (refusal_nonzero c.in_err-begin_fault.field-0.0 _ (search rules))

pub returns : goal.returns
returns c =
    let g = c.args in
    begin_answered g.sheet.now (parameters_of g.q) g.drag g.portion g.state.now g.scratch.now g.poses.now g.frames.now g.errors.now _ _ _ _ _ _ _ _ _ _ _ _ _ _ _ _
    (body_number c.drag_body-place.result)
    c.solve_begin-e.result
    _
    c.in_ok-begin_fault.ensures
    refl
    c.scene_in-held.ensures.made
    c.drag_body-place.ensures
    c.solve_begin-e.auto.s
    (rw c.scene_in-held.ensures.bytes at c.solve_begin-e.ensures)
    refl
    refl
    refl
    refl
    c.flag.ensures

-- `report::run::report` puts `report_of` of the sheet: with the lengths lent, the numbers of `solve` and `sheet_dof` are those of the definition
-- (`first_number`, `second_number`). The first that is not 0 is told as a refusal; where both are 0, the answers are printed. By the laws of RunLaws.
-- Assumes nothing.
use mathlib.Core.Path.{◌≡◌, ◌∙◌}
use Rattle.writing.proofs.PutLaws.{put_as}
use Rattle.report.specs.ReportOf.{solve_number, dof_number}
use Rattle.report.proofs.RunLaws.{answered, dof_number_lem, dof_small, first_refused, free_small, second_refused, sheet_passes, solve_number_lem, solve_small}
use Rattle.report.proofs.run.report.Goals as goal

pub refused_text-requires : goal.refused_text-requires
refused_text-requires c = record { number_bound = solve_small _ _ _ _ _ _ _ c.solve-first.ensures.number; in_bounds = c.requires.in_bounds }

pub returns-then-first-ne0 : goal.returns-then-first-ne0
returns-then-first-ne0 c =
    let q = c.requires in
    let first_number : c.solve-first.result ≡ solve_number c.args.sheet.now =
    solve_number_lem _ _ _ _ _ _ q.scratch_len q.poses_len q.frames_len q.errors_len c.solve-first.ensures.number in
    put_as _ _ _ _ _ _ (first_refused _ _ first_number c.if-first-ne0.true) c.refused_text.ensures

pub refused_text-requires-then-second-ne0 : goal.refused_text-requires-then-second-ne0
refused_text-requires-then-second-ne0 c = record { number_bound = dof_small _ _ _ _ c.sheet_dof-second.ensures.number; in_bounds = c.requires.in_bounds }

pub returns-then-second-ne0 : goal.returns-then-second-ne0
returns-then-second-ne0 c =
    let q = c.requires in
    let first_number : c.solve-first.result ≡ solve_number c.args.sheet.now =
    solve_number_lem _ _ _ _ _ _ q.scratch_len q.poses_len q.frames_len q.errors_len c.solve-first.ensures.number in
    let second_number : c.sheet_dof-second.result ≡ dof_number c.args.sheet.now =
    dof_number_lem _ _ _ _ (c.solve-first.ensures.scratch_size ∙ q.scratch_len) q.freedoms_len c.sheet_dof-second.ensures.number in
    put_as _ _ _ _ _ _ (second_refused _ _ _ first_number c.if-first-ne0.false second_number c.if-second-ne0.true) c.refused_text-then-second-ne0.ensures

pub answer-requires : goal.answer-requires
answer-requires c =
    let y = c.sheet_dof-second.ensures in
    let z = c.if-second-ne0.false in
    record {
      sheet_value = sheet_passes _ _ _ _ _ _ _ _ y z;
      errors_len = c.solve-first.auto.errors ∙ c.requires.errors_len;
      free_bound = free_small _ _ _ _ _ _ _ _ y z;
      freedoms_len = c.sheet_dof-second.auto.freedoms ∙ c.requires.freedoms_len;
      in_bounds = c.requires.in_bounds;
    }

pub returns : goal.returns
returns c =
    let q = c.requires in
    let first_number : c.solve-first.result ≡ solve_number c.args.sheet.now =
    solve_number_lem _ _ _ _ _ _ q.scratch_len q.poses_len q.frames_len q.errors_len c.solve-first.ensures.number in
    let second_number : c.sheet_dof-second.result ≡ dof_number c.args.sheet.now =
    dof_number_lem _ _ _ _ (c.solve-first.ensures.scratch_size ∙ q.scratch_len) q.freedoms_len c.sheet_dof-second.ensures.number in
    put_as _ _ _ _ _ _
    (answered _ _ _ _ _ _ _ _ _ _ _ _ c.solve-first.ensures c.if-first-ne0.false _ _ _ _ _ _ _ c.sheet_dof-second.ensures c.if-second-ne0.false first_number
    second_number
    q.errors_len
    c.solve-first.auto.errors
    c.sheet_dof-second.auto.freedoms)
    c.answer.ensures

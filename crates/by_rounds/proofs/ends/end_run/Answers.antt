-- `by_rounds::ends::end_run`: the retry's end, the end of a first run that converged or where nothing moves, and the retry's beginning are the definition's cases.
-- Assumes nothing.
use mathlib.Core.Path.{sym, ◌∙◌}
use Rattle.scene.specs.Scene.{scene_of, parameters_of}
use Rattle.by_rounds.specs.Running.{running_in}
use Rattle.by_rounds.proofs.EndLaws.{went_none, went_as, end_retried, end_converged, end_still, end_retries}
use Rattle.by_rounds.proofs.ends.end_run.Goals as goal

pub returns-then-g-ne1 : goal.returns-then-g-ne1
returns-then-g-ne1 c =
    let g = c.args in
    went_as g.solver.now.sheet.scene g.solver.now.parts g.s.now _ _ _ _ c.end_retry.ensures (end_retried (scene_of g.solver.now.sheet.bytes.now g.solver.now.sheet.scene) (parameters_of g.q) (running_in g.solver.now.sheet.scene g.solver.now.parts g.s.now g.g) g.converged c.if-g-ne1.true)

pub returns-then-converged : goal.returns-then-converged
returns-then-converged c =
    let g = c.args in
    went_none g.solver.now.sheet.scene g.solver.now.parts g.s.now _ _ (end_converged (scene_of g.solver.now.sheet.bytes.now g.solver.now.sheet.scene) (parameters_of g.q) (running_in g.solver.now.sheet.scene g.solver.now.parts g.s.now g.g) g.converged c.if-g-ne1.false c.if-converged.true)

pub returns-then-solver-eq0 : goal.returns-then-solver-eq0
returns-then-solver-eq0 c =
    let g = c.args in
    went_none g.solver.now.sheet.scene g.solver.now.parts g.s.now _ _ (end_still (scene_of g.solver.now.sheet.bytes.now g.solver.now.sheet.scene) (parameters_of g.q) (running_in g.solver.now.sheet.scene g.solver.now.parts g.s.now g.g) g.converged c.if-g-ne1.false c.if-converged.false (sym c.args.solver.now.sheet.laid.unknown_count ∙ c.if-solver-eq0.true))

pub returns : goal.returns
returns c =
    let g = c.args in
    went_as g.solver.now.sheet.scene g.solver.now.parts g.s.now _ _ _ _ c.begin_retry.ensures (end_retries (scene_of g.solver.now.sheet.bytes.now g.solver.now.sheet.scene) (parameters_of g.q) (running_in g.solver.now.sheet.scene g.solver.now.parts g.s.now g.g) g.converged c.if-g-ne1.false c.if-converged.false (λ z. c.if-solver-eq0.false (c.args.solver.now.sheet.laid.unknown_count ∙ z)))

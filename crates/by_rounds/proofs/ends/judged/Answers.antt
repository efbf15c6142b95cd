-- `by_rounds::ends::judged`: the rows at `rows` are those of the running state, so the test is the definition's. Assumes nothing.
use Rattle.scene.specs.Scene.{scene_of, parameters_of}
use Rattle.by_rounds.specs.Running.{running_in}
use Rattle.by_rounds.proofs.EndLaws.{went_none, went_as, judged_near, judged_stop, judged_on}
use Rattle.by_rounds.proofs.ends.judged.Goals as goal

pub returns-then-near : goal.returns-then-near
returns-then-near c =
    let g = c.args in
    went_as g.solver.now.sheet.scene g.solver.now.parts g.s.now _ _ _ _ c.end_run.ensures (judged_near (scene_of g.solver.now.sheet.bytes.now g.solver.now.sheet.scene) (parameters_of g.q) (running_in g.solver.now.sheet.scene g.solver.now.parts g.s.now g.g) g.stop _ c.within-near.ensures c.if-near.true)

pub returns-then-stop : goal.returns-then-stop
returns-then-stop c =
    let g = c.args in
    went_as g.solver.now.sheet.scene g.solver.now.parts g.s.now _ _ _ _ c.end_run-then-stop.ensures (judged_stop (scene_of g.solver.now.sheet.bytes.now g.solver.now.sheet.scene) (parameters_of g.q) (running_in g.solver.now.sheet.scene g.solver.now.parts g.s.now g.g) g.stop _ c.within-near.ensures c.if-near.false c.if-stop.true)

pub returns : goal.returns
returns c =
    let g = c.args in
    went_none g.solver.now.sheet.scene g.solver.now.parts g.s.now _ _ (judged_on (scene_of g.solver.now.sheet.bytes.now g.solver.now.sheet.scene) (parameters_of g.q) (running_in g.solver.now.sheet.scene g.solver.now.parts g.s.now g.g) g.stop _ c.within-near.ensures c.if-near.false c.if-stop.false)

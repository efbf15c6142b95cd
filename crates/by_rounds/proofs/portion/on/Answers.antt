-- `by_rounds::portion::on`: the weights are worked, and the running state stays (`weighed`); judged, it goes on as the definition does (`judged`). Assumes nothing.
use mathlib.Core.Path.{ap, ◌∙◌}
use Rattle.least_squares.specs.Lm.{all_finite}
use Rattle.placement.proofs.SolveLaws.{weights_finite}
use Rattle.scene.specs.Scene.{scene_of, parameters_of}
use Rattle.relations.specs.Model.{body_number}
use Rattle.portions.specs.Portions.{judge, inverse_weights}
use Rattle.portions.proofs.PortionLaws.{counts, judge_settled}
use Rattle.by_rounds.specs.Running.{running_in}
use Rattle.rounds.proofs.RoundLaws.{arranged_same, arranged_within}
use Rattle.by_rounds.proofs.GoLaws.{Ready, weighed_is, ready_then, ready_settled, ready_gone, on_is}
use Rattle.by_rounds.proofs.portion.on.Goals as goal

pub judge-h-requires : goal.judge-h-requires
judge-h-requires c = record { scratch = (arranged_same c.inverse_weights.ensures.kept.size (arranged_within c.args.solver.now.arranged c.requires.scratch)).poses }

pub go-requires : goal.go-requires
go-requires c =
    let judged : let g = c.args in let sc = scene_of g.solver.now.sheet.bytes.now g.solver.now.sheet.scene in Ready g.solver.now.sheet.scene g.solver.now.parts g.s.now c.judge-h.new.s c.judge-h.result (judge sc (parameters_of g.q) (running_in g.solver.now.sheet.scene g.solver.now.parts g.s.now g.g)) (inverse_weights sc (parameters_of g.q) (body_number g.drag)) =
    let g = c.args in
    let sc = scene_of g.solver.now.sheet.bytes.now g.solver.now.sheet.scene in
    let q = parameters_of g.q in
    ready_then g.solver.now.sheet.scene g.solver.now.parts g.s.now _ _ _ _ _ _ (judge sc q) (weighed_is sc g.solver.now.sheet.scene g.solver.now.parts q (body_number g.drag) g.s.now _ g.g (arranged_within c.args.solver.now.arranged c.requires.scratch) c.inverse_weights.ensures) c.judge-h.ensures in
    let g = c.args in
    record { scratch = (arranged_same (judged).size (arranged_within c.args.solver.now.arranged c.requires.scratch)).poses; q_value = c.requires.q_value; settled = ready_settled (scene_of g.solver.now.sheet.bytes.now g.solver.now.sheet.scene) g.solver.now.sheet.scene g.solver.now.parts (parameters_of g.q) g.s.now _ _ _ _ (judged) (judge_settled (scene_of g.solver.now.sheet.bytes.now g.solver.now.sheet.scene) (parameters_of g.q) (counts (parameters_of g.q) c.requires.q_value) _); s_value = ap all_finite (judged).weights ∙ weights_finite (scene_of g.solver.now.sheet.bytes.now g.solver.now.sheet.scene) (parameters_of g.q) (body_number g.drag) }

pub returns : goal.returns
returns c =
    let judged : let g = c.args in let sc = scene_of g.solver.now.sheet.bytes.now g.solver.now.sheet.scene in Ready g.solver.now.sheet.scene g.solver.now.parts g.s.now c.judge-h.new.s c.judge-h.result (judge sc (parameters_of g.q) (running_in g.solver.now.sheet.scene g.solver.now.parts g.s.now g.g)) (inverse_weights sc (parameters_of g.q) (body_number g.drag)) =
    let g = c.args in
    let sc = scene_of g.solver.now.sheet.bytes.now g.solver.now.sheet.scene in
    let q = parameters_of g.q in
    ready_then g.solver.now.sheet.scene g.solver.now.parts g.s.now _ _ _ _ _ _ (judge sc q) (weighed_is sc g.solver.now.sheet.scene g.solver.now.parts q (body_number g.drag) g.s.now _ g.g (arranged_within c.args.solver.now.arranged c.requires.scratch) c.inverse_weights.ensures) c.judge-h.ensures in
    let g = c.args in
    ready_gone (scene_of g.solver.now.sheet.bytes.now g.solver.now.sheet.scene) g.solver.now.sheet.scene g.solver.now.parts (parameters_of g.q) g.s.now _ _ _ _ _ _ _ g.portion (judged) c.go.ensures (on_is (scene_of g.solver.now.sheet.bytes.now g.solver.now.sheet.scene) (parameters_of g.q) (body_number g.drag) g.portion _)

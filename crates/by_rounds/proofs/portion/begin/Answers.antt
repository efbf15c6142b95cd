-- `by_rounds::portion::begin`: weights, zeros for the unknowns and for those of the first run, and their rows (`ready`); judged, that is the definition's start (`started`), from
-- which the rounds go on. Assumes nothing.
use mathlib.Core.Path.{ap, ◌∙◌}
use Rattle.scene.specs.Scene.{scene_of, parameters_of}
use Rattle.relations.specs.Model.{body_number}
use Rattle.least_squares.specs.Lm.{list_of, all_finite}
use Rattle.placement.proofs.SolveLaws.{weights_finite}
use Rattle.scene.specs.Solve.{unknowns, start_at}
use Rattle.portions.specs.Portions.{fresh, judged, start, inverse_weights}
use Rattle.portions.proofs.PortionLaws.{counts, start_settled}
use Rattle.rounds.proofs.RoundLaws.{arranged_same, arranged_within}
use Rattle.by_rounds.proofs.EndLaws.{none_made}
use Rattle.by_rounds.proofs.GoLaws.{Ready, begun_is, ready_then, ready_settled, ready_gone, begin_is}
use Rattle.by_rounds.proofs.portion.begin.Goals as goal

pub worked-fresh-requires : goal.worked-fresh-requires
worked-fresh-requires c = record { scratch = (arranged_same (c.put_start-2.ensures.kept.size ∙ c.put_start.ensures.kept.size ∙ c.inverse_weights.ensures.kept.size) (arranged_within c.args.solver.now.arranged c.requires.scratch)).poses }

pub judged-g-requires : goal.judged-g-requires
judged-g-requires c =
    let ready : let g = c.args in let sc = scene_of g.solver.now.sheet.bytes.now g.solver.now.sheet.scene in let zeros = list_of start_at (unknowns sc) in Ready g.solver.now.sheet.scene g.solver.now.parts g.s.now c.worked-fresh.new.s c.worked-fresh.result (fresh sc 1 zeros zeros) (inverse_weights sc (parameters_of g.q) (body_number g.drag)) =
    let g = c.args in
    begun_is (scene_of g.solver.now.sheet.bytes.now g.solver.now.sheet.scene) g.solver.now.sheet.scene g.solver.now.parts (parameters_of g.q) (body_number g.drag) g.s.now _ _ _ _ _ c.args.solver.now.sheet.laid.unknown_count (arranged_within c.args.solver.now.arranged c.requires.scratch) c.inverse_weights.ensures c.put_start.ensures
    c.put_start-2.ensures
    c.worked-fresh.ensures in
    record { scratch = (arranged_same (ready).size (arranged_within c.args.solver.now.arranged c.requires.scratch)).poses }

pub go-requires : goal.go-requires
go-requires c =
    let ready : let g = c.args in let sc = scene_of g.solver.now.sheet.bytes.now g.solver.now.sheet.scene in let zeros = list_of start_at (unknowns sc) in Ready g.solver.now.sheet.scene g.solver.now.parts g.s.now c.worked-fresh.new.s c.worked-fresh.result (fresh sc 1 zeros zeros) (inverse_weights sc (parameters_of g.q) (body_number g.drag)) =
    let g = c.args in
    begun_is (scene_of g.solver.now.sheet.bytes.now g.solver.now.sheet.scene) g.solver.now.sheet.scene g.solver.now.parts (parameters_of g.q) (body_number g.drag) g.s.now _ _ _ _ _ c.args.solver.now.sheet.laid.unknown_count (arranged_within c.args.solver.now.arranged c.requires.scratch) c.inverse_weights.ensures c.put_start.ensures
    c.put_start-2.ensures
    c.worked-fresh.ensures in
    let started : let g = c.args in let sc = scene_of g.solver.now.sheet.bytes.now g.solver.now.sheet.scene in Ready g.solver.now.sheet.scene g.solver.now.parts g.s.now c.judged-g.new.s c.judged-g.result (start sc (parameters_of g.q)) (inverse_weights sc (parameters_of g.q) (body_number g.drag)) =
    let g = c.args in
    let sc = scene_of g.solver.now.sheet.bytes.now g.solver.now.sheet.scene in
    let e = c.no_round-stop.ensures ∙ none_made g.solver.now.sheet.bytes.now g.solver.now.sheet.scene (parameters_of g.q) c.args.solver.now.sheet.laid in
    rw e at (ready_then g.solver.now.sheet.scene g.solver.now.parts g.s.now _ _ _ _ _ _ (judged sc (parameters_of g.q) c.no_round-stop.result) (ready) c.judged-g.ensures) in
    let g = c.args in
    record { scratch = (arranged_same (started).size (arranged_within c.args.solver.now.arranged c.requires.scratch)).poses; q_value = c.requires.q_value; settled = ready_settled (scene_of g.solver.now.sheet.bytes.now g.solver.now.sheet.scene) g.solver.now.sheet.scene g.solver.now.parts (parameters_of g.q) g.s.now _ _ _ _ (started) (start_settled (scene_of g.solver.now.sheet.bytes.now g.solver.now.sheet.scene) (parameters_of g.q) (counts (parameters_of g.q) c.requires.q_value)); s_value = ap all_finite (started).weights ∙ weights_finite (scene_of g.solver.now.sheet.bytes.now g.solver.now.sheet.scene) (parameters_of g.q) (body_number g.drag) }

pub shape_of-s : goal.shape_of-s
shape_of-s c =
    let ready : let g = c.args in let sc = scene_of g.solver.now.sheet.bytes.now g.solver.now.sheet.scene in let zeros = list_of start_at (unknowns sc) in Ready g.solver.now.sheet.scene g.solver.now.parts g.s.now c.worked-fresh.new.s c.worked-fresh.result (fresh sc 1 zeros zeros) (inverse_weights sc (parameters_of g.q) (body_number g.drag)) =
    let g = c.args in
    begun_is (scene_of g.solver.now.sheet.bytes.now g.solver.now.sheet.scene) g.solver.now.sheet.scene g.solver.now.parts (parameters_of g.q) (body_number g.drag) g.s.now _ _ _ _ _ c.args.solver.now.sheet.laid.unknown_count (arranged_within c.args.solver.now.arranged c.requires.scratch) c.inverse_weights.ensures c.put_start.ensures
    c.put_start-2.ensures
    c.worked-fresh.ensures in
    let started : let g = c.args in let sc = scene_of g.solver.now.sheet.bytes.now g.solver.now.sheet.scene in Ready g.solver.now.sheet.scene g.solver.now.parts g.s.now c.judged-g.new.s c.judged-g.result (start sc (parameters_of g.q)) (inverse_weights sc (parameters_of g.q) (body_number g.drag)) =
    let g = c.args in
    let sc = scene_of g.solver.now.sheet.bytes.now g.solver.now.sheet.scene in
    let e = c.no_round-stop.ensures ∙ none_made g.solver.now.sheet.bytes.now g.solver.now.sheet.scene (parameters_of g.q) c.args.solver.now.sheet.laid in
    rw e at (ready_then g.solver.now.sheet.scene g.solver.now.parts g.s.now _ _ _ _ _ _ (judged sc (parameters_of g.q) c.no_round-stop.result) (ready) c.judged-g.ensures) in
    c.go.ensures.went.size ∙ (started).size

pub returns : goal.returns
returns c =
    let ready : let g = c.args in let sc = scene_of g.solver.now.sheet.bytes.now g.solver.now.sheet.scene in let zeros = list_of start_at (unknowns sc) in Ready g.solver.now.sheet.scene g.solver.now.parts g.s.now c.worked-fresh.new.s c.worked-fresh.result (fresh sc 1 zeros zeros) (inverse_weights sc (parameters_of g.q) (body_number g.drag)) =
    let g = c.args in
    begun_is (scene_of g.solver.now.sheet.bytes.now g.solver.now.sheet.scene) g.solver.now.sheet.scene g.solver.now.parts (parameters_of g.q) (body_number g.drag) g.s.now _ _ _ _ _ c.args.solver.now.sheet.laid.unknown_count (arranged_within c.args.solver.now.arranged c.requires.scratch) c.inverse_weights.ensures c.put_start.ensures
    c.put_start-2.ensures
    c.worked-fresh.ensures in
    let started : let g = c.args in let sc = scene_of g.solver.now.sheet.bytes.now g.solver.now.sheet.scene in Ready g.solver.now.sheet.scene g.solver.now.parts g.s.now c.judged-g.new.s c.judged-g.result (start sc (parameters_of g.q)) (inverse_weights sc (parameters_of g.q) (body_number g.drag)) =
    let g = c.args in
    let sc = scene_of g.solver.now.sheet.bytes.now g.solver.now.sheet.scene in
    let e = c.no_round-stop.ensures ∙ none_made g.solver.now.sheet.bytes.now g.solver.now.sheet.scene (parameters_of g.q) c.args.solver.now.sheet.laid in
    rw e at (ready_then g.solver.now.sheet.scene g.solver.now.parts g.s.now _ _ _ _ _ _ (judged sc (parameters_of g.q) c.no_round-stop.result) (ready) c.judged-g.ensures) in
    let g = c.args in
    ready_gone (scene_of g.solver.now.sheet.bytes.now g.solver.now.sheet.scene) g.solver.now.sheet.scene g.solver.now.parts (parameters_of g.q) g.s.now _ _ _ _ _ _ _ g.portion (started) c.go.ensures (begin_is (scene_of g.solver.now.sheet.bytes.now g.solver.now.sheet.scene) (parameters_of g.q) (body_number g.drag) g.portion)

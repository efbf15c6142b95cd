-- `placement::solve::solved`: the weights and a start of zeros are written and the first run is made. What it leaves is one fact (`begun`); by it the first run is all where it
-- converged or nothing moves, and else the retry decides. Assumes nothing.
use mathlib.Core.Path.{ap, ◌∙◌}
use Rattle.relations.specs.Model.{body_number}
use Rattle.least_squares.specs.Lm.{all_finite}
use Rattle.scene.specs.Scene.{scene_of, parameters_of}
use Rattle.rounds.proofs.RoundLaws.{arranged_same, arranged_within}
use Rattle.placement.proofs.SolveLaws.{Begun, weights_finite, begun_weights, begun_is, first_converged, first_still, twice}
use Rattle.placement.proofs.solve.solved.Goals as goal

pub run-first-requires : goal.run-first-requires
run-first-requires c =
    let g = c.args in
    let w = begun_weights (scene_of g.solver.now.sheet.bytes.now g.solver.now.sheet.scene) g.solver.now.sheet.scene g.solver.now.parts (parameters_of g.q) (body_number g.drag) g.s.now _ _ (arranged_within c.args.solver.now.arranged c.requires.scratch) c.inverse_weights.ensures c.put_start.ensures in
    record { scratch = (arranged_same (c.put_start.ensures.kept.size ∙ c.inverse_weights.ensures.kept.size) (arranged_within c.args.solver.now.arranged c.requires.scratch)).poses; limit = c.requires.limit; s_value = ap all_finite w ∙ weights_finite (scene_of g.solver.now.sheet.bytes.now g.solver.now.sheet.scene) (parameters_of g.q) (body_number g.drag) }

pub returns-then-first : goal.returns-then-first
returns-then-first c =
    let begun : let g = c.args in Begun (scene_of g.solver.now.sheet.bytes.now g.solver.now.sheet.scene) g.solver.now.sheet.scene g.solver.now.parts (parameters_of g.q) (body_number g.drag) g.s.now c.run-first.new.s c.run-first.result.converged =
    let g = c.args in
    begun_is (scene_of g.solver.now.sheet.bytes.now g.solver.now.sheet.scene) g.solver.now.sheet.scene g.solver.now.parts (parameters_of g.q) (body_number g.drag) g.s.now _ _ _ _ c.args.solver.now.sheet.laid.unknown_count (arranged_within c.args.solver.now.arranged c.requires.scratch)
    c.inverse_weights.ensures
    c.put_start.ensures
    c.run-first.ensures in
    first_converged _ _ _ _ _ _ _ _ c.args.solver.now.sheet.laid.unknown_count (begun) c.if-first.true

pub returns-then-n-eq0 : goal.returns-then-n-eq0
returns-then-n-eq0 c =
    let begun : let g = c.args in Begun (scene_of g.solver.now.sheet.bytes.now g.solver.now.sheet.scene) g.solver.now.sheet.scene g.solver.now.parts (parameters_of g.q) (body_number g.drag) g.s.now c.run-first.new.s c.run-first.result.converged =
    let g = c.args in
    begun_is (scene_of g.solver.now.sheet.bytes.now g.solver.now.sheet.scene) g.solver.now.sheet.scene g.solver.now.parts (parameters_of g.q) (body_number g.drag) g.s.now _ _ _ _ c.args.solver.now.sheet.laid.unknown_count (arranged_within c.args.solver.now.arranged c.requires.scratch)
    c.inverse_weights.ensures
    c.put_start.ensures
    c.run-first.ensures in
    first_still _ _ _ _ _ _ _ _ c.args.solver.now.sheet.laid.unknown_count (begun) c.if-first.false c.if-n-eq0.true

pub retry-requires : goal.retry-requires
retry-requires c =
    let begun : let g = c.args in Begun (scene_of g.solver.now.sheet.bytes.now g.solver.now.sheet.scene) g.solver.now.sheet.scene g.solver.now.parts (parameters_of g.q) (body_number g.drag) g.s.now c.run-first.new.s c.run-first.result.converged =
    let g = c.args in
    begun_is (scene_of g.solver.now.sheet.bytes.now g.solver.now.sheet.scene) g.solver.now.sheet.scene g.solver.now.parts (parameters_of g.q) (body_number g.drag) g.s.now _ _ _ _ c.args.solver.now.sheet.laid.unknown_count (arranged_within c.args.solver.now.arranged c.requires.scratch)
    c.inverse_weights.ensures
    c.put_start.ensures
    c.run-first.ensures in
    let g = c.args in
    record { scratch = (arranged_same (begun).size (arranged_within c.args.solver.now.arranged c.requires.scratch)).poses; limit = c.requires.limit; s_value = ap all_finite (begun).weights_are ∙ weights_finite (scene_of g.solver.now.sheet.bytes.now g.solver.now.sheet.scene) (parameters_of g.q) (body_number g.drag) }

pub returns : goal.returns
returns c =
    let begun : let g = c.args in Begun (scene_of g.solver.now.sheet.bytes.now g.solver.now.sheet.scene) g.solver.now.sheet.scene g.solver.now.parts (parameters_of g.q) (body_number g.drag) g.s.now c.run-first.new.s c.run-first.result.converged =
    let g = c.args in
    begun_is (scene_of g.solver.now.sheet.bytes.now g.solver.now.sheet.scene) g.solver.now.sheet.scene g.solver.now.parts (parameters_of g.q) (body_number g.drag) g.s.now _ _ _ _ c.args.solver.now.sheet.laid.unknown_count (arranged_within c.args.solver.now.arranged c.requires.scratch)
    c.inverse_weights.ensures
    c.put_start.ensures
    c.run-first.ensures in
    twice _ _ _ _ _ _ _ _ c.args.solver.now.sheet.laid.unknown_count (begun) _ _ c.if-first.false c.if-n-eq0.false c.retry.ensures

-- `placement::solve::retry`: the first run's unknowns are set aside and a second run starts from a slight turn. Where it is not to be kept
-- (`better`), the unknowns set aside come back. What the second run leaves is one fact (`again`), and each of the two ends follows from it. Assumes nothing.
use mathlib.Core.Path.{ap, ◌∙◌}
use native.Mathlib.Omega.{arith}
use Rattle.least_squares.specs.Lm.{all_finite}
use Rattle.scene.specs.Scene.{scene_of, parameters_of}
use Rattle.rounds.proofs.RoundLaws.{arranged_same, arranged_within}
use Rattle.placement.proofs.SolveLaws.{Again, again_weights, again_is, retry_kept, retry_left}
use Rattle.placement.proofs.solve.retry.Goals as goal

pub run-again-requires : goal.run-again-requires
run-again-requires c =
    let g = c.args in
    let w = again_weights g.solver.now.sheet.scene g.solver.now.parts g.s.now _ _ _ (arranged_within c.args.solver.now.arranged c.requires.scratch) c.copy.ensures c.put_turn.ensures in
    record { scratch = (arranged_same (c.put_turn.ensures.kept.size ∙ c.copy.ensures.kept.size) (arranged_within c.args.solver.now.arranged c.requires.scratch)).poses; limit = c.requires.limit; s_value = ap all_finite w ∙ c.requires.s_value }

pub better-kept-requires : goal.better-kept-requires
better-kept-requires c =
    let again : let g = c.args in Again (scene_of g.solver.now.sheet.bytes.now g.solver.now.sheet.scene) g.solver.now.sheet.scene g.solver.now.parts (parameters_of g.q) g.s.now c.run-again.new.s c.run-again.result.converged =
    let g = c.args in
    again_is (scene_of g.solver.now.sheet.bytes.now g.solver.now.sheet.scene) g.solver.now.sheet.scene g.solver.now.parts (parameters_of g.q) g.s.now _ _ _ _ (arranged_within c.args.solver.now.arranged c.requires.scratch) c.copy.ensures c.put_turn.ensures c.run-again.ensures in
    record { scratch = (arranged_same (again).size (arranged_within c.args.solver.now.arranged c.requires.scratch)).poses }

pub returns-then-kept : goal.returns-then-kept
returns-then-kept c =
    let again : let g = c.args in Again (scene_of g.solver.now.sheet.bytes.now g.solver.now.sheet.scene) g.solver.now.sheet.scene g.solver.now.parts (parameters_of g.q) g.s.now c.run-again.new.s c.run-again.result.converged =
    let g = c.args in
    again_is (scene_of g.solver.now.sheet.bytes.now g.solver.now.sheet.scene) g.solver.now.sheet.scene g.solver.now.parts (parameters_of g.q) g.s.now _ _ _ _ (arranged_within c.args.solver.now.arranged c.requires.scratch) c.copy.ensures c.put_turn.ensures c.run-again.ensures in
    λ first h e.
    retry_kept _ _ _ _ _ _ _ _ _ first (arranged_within c.args.solver.now.arranged c.requires.scratch) (again) c.better-kept.ensures e c.if-kept.true

pub copy-requires-2 : goal.copy-requires-2
copy-requires-2 c =
    let again : let g = c.args in Again (scene_of g.solver.now.sheet.bytes.now g.solver.now.sheet.scene) g.solver.now.sheet.scene g.solver.now.parts (parameters_of g.q) g.s.now c.run-again.new.s c.run-again.result.converged =
    let g = c.args in
    again_is (scene_of g.solver.now.sheet.bytes.now g.solver.now.sheet.scene) g.solver.now.sheet.scene g.solver.now.parts (parameters_of g.q) g.s.now _ _ _ _ (arranged_within c.args.solver.now.arranged c.requires.scratch) c.copy.ensures c.put_turn.ensures c.run-again.ensures in
    let a = arranged_same (c.better-kept.ensures.size ∙ (again).size) (arranged_within c.args.solver.now.arranged c.requires.scratch) in
    record { k_bound = omega (arith, a.first); k_in_bounds = omega (arith, a.first, a.x, a.slopes, a.matrix, a.weights, a.damped, a.right, a.rows, a.next, a.ahead, a.poses) }

pub returns : goal.returns
returns c =
    let again : let g = c.args in Again (scene_of g.solver.now.sheet.bytes.now g.solver.now.sheet.scene) g.solver.now.sheet.scene g.solver.now.parts (parameters_of g.q) g.s.now c.run-again.new.s c.run-again.result.converged =
    let g = c.args in
    again_is (scene_of g.solver.now.sheet.bytes.now g.solver.now.sheet.scene) g.solver.now.sheet.scene g.solver.now.parts (parameters_of g.q) g.s.now _ _ _ _ (arranged_within c.args.solver.now.arranged c.requires.scratch) c.copy.ensures c.put_turn.ensures c.run-again.ensures in
    λ first h e.
    retry_left _ _ _ _ _ _ _ _ _ first (arranged_within c.args.solver.now.arranged c.requires.scratch) (again) c.better-kept.ensures e _ c.if-kept.false h c.copy-2.ensures

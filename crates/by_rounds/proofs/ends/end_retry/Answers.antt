-- `by_rounds::ends::end_retry`: the choice leaves the running state; where the retry is kept its rows are worked (`retry_stays`), else the first run's unknowns come back
-- before that (`retry_goes`). Assumes nothing.
use mathlib.Core.Path.{◌∙◌}
use native.Mathlib.Omega.{arith}
use Rattle.scene.specs.Scene.{scene_of}
use Rattle.rounds.proofs.RoundLaws.{arranged_same, arranged_within}
use Rattle.by_rounds.proofs.EndLaws.{retry_stays, retry_goes}
use Rattle.by_rounds.proofs.ends.end_retry.Goals as goal

pub worked-requires : goal.worked-requires
worked-requires c = record { scratch = (arranged_same c.better-kept.ensures.size (arranged_within c.args.solver.now.arranged c.requires.scratch)).poses }

pub returns-then-kept : goal.returns-then-kept
returns-then-kept c =
    let g = c.args in
    retry_stays (scene_of g.solver.now.sheet.bytes.now g.solver.now.sheet.scene) g.solver.now.sheet.scene g.solver.now.parts g.s.now _ g.g g.converged _ (arranged_within c.args.solver.now.arranged c.requires.scratch) c.better-kept.ensures _ _ c.if-kept.true c.worked.ensures

pub copy-requires : goal.copy-requires
copy-requires c =
    let a = arranged_same c.better-kept.ensures.size (arranged_within c.args.solver.now.arranged c.requires.scratch) in
    record { k_bound = omega (arith, a.first); k_in_bounds = omega (arith, a.first, a.x, a.slopes, a.matrix, a.weights, a.damped, a.right, a.rows, a.next, a.ahead, a.poses) }

pub worked-requires-2 : goal.worked-requires-2
worked-requires-2 c = record { scratch = (arranged_same (c.copy.ensures.kept.size ∙ c.better-kept.ensures.size) (arranged_within c.args.solver.now.arranged c.requires.scratch)).poses }

pub returns : goal.returns
returns c =
    let g = c.args in
    retry_goes (scene_of g.solver.now.sheet.bytes.now g.solver.now.sheet.scene) g.solver.now.sheet.scene g.solver.now.parts g.s.now _ g.g g.converged _ (arranged_within c.args.solver.now.arranged c.requires.scratch) c.better-kept.ensures _ _ _ c.if-kept.false c.copy.ensures c.worked-2.ensures

-- `placement::solve::better`: a retry that converged is kept with nothing worked; else the largest rows at `x` and at `first` are compared, and the working of each leaves
-- what stands below `ahead` (`better_smaller`). Assumes nothing.
use native.Mathlib.Omega.{arith}
use Rattle.scene.specs.Scene.{scene_of}
use Rattle.rounds.proofs.RoundLaws.{arranged_same, arranged_within}
use Rattle.placement.proofs.SolveLaws.{better_converged, better_smaller}
use Rattle.placement.proofs.solve.better.Goals as goal

pub returns-then-converged : goal.returns-then-converged
returns-then-converged c = better_converged _ _ _ _ _ c.if-converged.true

pub worst-before-requires : goal.worst-before-requires
worst-before-requires c = record { scratch = (arranged_same c.worst-now.ensures.size (arranged_within c.args.solver.now.arranged c.requires.scratch)).poses; n_bound = omega arith }

pub returns : goal.returns
returns c =
    let g = c.args in
    better_smaller (scene_of g.solver.now.sheet.bytes.now g.solver.now.sheet.scene) g.solver.now.sheet.scene g.solver.now.parts g.s.now _ _ g.converged c.worst-now.result c.worst-before.result (arranged_within c.args.solver.now.arranged c.requires.scratch) c.if-converged.false c.worst-now.ensures c.worst-before.ensures

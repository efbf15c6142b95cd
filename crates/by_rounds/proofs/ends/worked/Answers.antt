-- `by_rounds::ends::worked`: `rows_at` writes the rows at `rows`, and what stands before them is as it was (`worked_is`). Assumes nothing.
use Rattle.rounds.proofs.RoundLaws.{arranged_within}
use Rattle.scene.specs.Scene.{scene_of}
use Rattle.by_rounds.proofs.EndLaws.{worked_is}
use Rattle.by_rounds.proofs.ends.worked.Goals as goal

pub returns : goal.returns
returns c =
    let g = c.args in
    worked_is (scene_of g.solver.now.sheet.bytes.now g.solver.now.sheet.scene) g.solver.now.sheet.scene g.solver.now.parts g.s.now _ (arranged_within c.args.solver.now.arranged c.requires.scratch) c.rows_at.ensures g.g

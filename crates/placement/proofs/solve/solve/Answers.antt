-- `placement::solve::solve`: the scratch is arranged, both runs are made, and the answer is that for the unknowns that they leave (`filled_is`). Assumes nothing.
use Rattle.relations.specs.Model.{body_number}
use lib.ListN.{length}
use Rattle.scene.specs.Scene.{scene_of, parameters_of}
use Rattle.rounds.specs.Parts.{Arranged}
use Rattle.rounds.proofs.RoundLaws.{arranged_as, arranged_same}
use Rattle.placement.proofs.SolveLaws.{filled_is}
use Rattle.placement.proofs.solve.solve.Goals as goal

pub solved-converged-requires : goal.solved-converged-requires
solved-converged-requires c =
    let placed : let g = c.args in Arranged g.sheet.scene c.solve_parts-parts.result (length g.s.now) =
    arranged_as c.args.sheet.scene c.solve_parts-parts.result (length c.args.s.now) c.solve_parts-parts.ensures c.requires.scene_in_bounds in
    record { scratch = (placed).poses; limit = c.requires.limit }

pub put_answer-requires : goal.put_answer-requires
put_answer-requires c =
    let placed : let g = c.args in Arranged g.sheet.scene c.solve_parts-parts.result (length g.s.now) =
    arranged_as c.args.sheet.scene c.solve_parts-parts.result (length c.args.s.now) c.solve_parts-parts.ensures c.requires.scene_in_bounds in
    record { scratch = (arranged_same c.solved-converged.ensures.size (placed)).poses; m_in_bounds = c.requires.m_in_bounds; m_in_bounds_2 = c.requires.m_in_bounds_2; k_in_bounds = c.requires.k_in_bounds }

pub returns : goal.returns
returns c =
    let g = c.args in
    filled_is (scene_of g.sheet.bytes.now g.sheet.scene) g.sheet.scene _ (parameters_of g.q) (body_number g.drag) _ _ _ _ _ _ _ _ _ c.solved-converged.ensures c.put_answer.ensures

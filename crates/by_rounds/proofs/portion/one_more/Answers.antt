-- `by_rounds::portion::one_more`: a round from the sum of the rows' squares is the definition's, and what is judged of the state after it is too (`one_more_is`).
-- Assumes nothing.
use Rattle.scene.specs.Scene.{scene_of, parameters_of}
use Rattle.rounds.proofs.RoundLaws.{arranged_same, arranged_within}
use Rattle.by_rounds.proofs.GoLaws.{one_more_is}
use Rattle.by_rounds.proofs.portion.one_more.Goals as goal

pub one_round-t-requires : goal.one_round-t-requires
one_round-t-requires c = record { scratch = c.requires.scratch; rows_bound = c.requires.rows_bound.0; s_value = c.requires.s_value }

pub judged-requires : goal.judged-requires
judged-requires c = record { scratch = (arranged_same c.one_round-t.ensures.keeps.size (arranged_within c.args.solver.now.arranged c.requires.scratch)).poses }

pub returns : goal.returns
returns c =
    let g = c.args in
    one_more_is (scene_of g.solver.now.sheet.bytes.now g.solver.now.sheet.scene) g.solver.now.sheet.scene g.solver.now.parts (parameters_of g.q) g.s.now _ _ g.g _ c.squares-cost.result c.one_round-t.result c.last_round-stop.result c.squares-cost.ensures c.one_round-t.ensures
    c.last_round-stop.ensures
    c.judged.ensures

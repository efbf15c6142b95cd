-- `by_rounds::ends::begin_retry`: the first run's unknowns are set aside, and the rows of a slight turn are worked. What that leaves is one fact (`turned`); the retry then
-- ends at once, within the tolerance or with no round to make, or goes on. Assumes nothing.
use mathlib.Core.Path.{sym, ◌∙◌}
use Rattle.scene.specs.Scene.{scene_of, parameters_of}
use Rattle.scene.specs.Solve.{unknowns, slight_turn}
use Rattle.least_squares.specs.Lm.{list_of}
use Rattle.rounds.specs.Rounds.{unknowns_in}
use Rattle.portions.specs.Portions.{fresh}
use Rattle.by_rounds.specs.Running.{Went}
use Rattle.rounds.proofs.RoundLaws.{arranged_same, arranged_within}
use Rattle.by_rounds.proofs.EndLaws.{turned_is, none_made, retry_near, retry_none, retry_on}
use Rattle.by_rounds.proofs.ends.begin_retry.Goals as goal

pub worked-g-requires : goal.worked-g-requires
worked-g-requires c = record { scratch = (arranged_same (c.put_turn.ensures.kept.size ∙ c.copy.ensures.kept.size) (arranged_within c.args.solver.now.arranged c.requires.scratch)).poses }

pub end_retry-requires : goal.end_retry-requires
end_retry-requires c =
    let turned : let g = c.args in let sc = scene_of g.solver.now.sheet.bytes.now g.solver.now.sheet.scene in Went g.solver.now.sheet.scene g.solver.now.parts g.s.now c.worked-g.new.s c.worked-g.result (fresh sc 2 (unknowns_in g.solver.now.sheet.scene g.solver.now.parts g.s.now) (list_of slight_turn (unknowns sc))) =
    let g = c.args in
    turned_is (scene_of g.solver.now.sheet.bytes.now g.solver.now.sheet.scene) g.solver.now.sheet.scene g.solver.now.parts g.s.now _ _ _ _ c.args.solver.now.sheet.laid.unknown_count (arranged_within c.args.solver.now.arranged c.requires.scratch) c.copy.ensures c.put_turn.ensures c.worked-g.ensures in
    record { scratch = (arranged_same (turned).size (arranged_within c.args.solver.now.arranged c.requires.scratch)).poses }

pub returns-then-near : goal.returns-then-near
returns-then-near c =
    let turned : let g = c.args in let sc = scene_of g.solver.now.sheet.bytes.now g.solver.now.sheet.scene in Went g.solver.now.sheet.scene g.solver.now.parts g.s.now c.worked-g.new.s c.worked-g.result (fresh sc 2 (unknowns_in g.solver.now.sheet.scene g.solver.now.parts g.s.now) (list_of slight_turn (unknowns sc))) =
    let g = c.args in
    turned_is (scene_of g.solver.now.sheet.bytes.now g.solver.now.sheet.scene) g.solver.now.sheet.scene g.solver.now.parts g.s.now _ _ _ _ c.args.solver.now.sheet.laid.unknown_count (arranged_within c.args.solver.now.arranged c.requires.scratch) c.copy.ensures c.put_turn.ensures c.worked-g.ensures in
    let g = c.args in
    retry_near (scene_of g.solver.now.sheet.bytes.now g.solver.now.sheet.scene) (parameters_of g.q) _ g.solver.now.sheet.scene g.solver.now.parts g.s.now _ _ (turned) _ c.within-near.ensures _ _ c.if-near.true c.end_retry.ensures

pub end_retry-requires-then-no_round : goal.end_retry-requires-then-no_round
end_retry-requires-then-no_round c =
    let turned : let g = c.args in let sc = scene_of g.solver.now.sheet.bytes.now g.solver.now.sheet.scene in Went g.solver.now.sheet.scene g.solver.now.parts g.s.now c.worked-g.new.s c.worked-g.result (fresh sc 2 (unknowns_in g.solver.now.sheet.scene g.solver.now.parts g.s.now) (list_of slight_turn (unknowns sc))) =
    let g = c.args in
    turned_is (scene_of g.solver.now.sheet.bytes.now g.solver.now.sheet.scene) g.solver.now.sheet.scene g.solver.now.parts g.s.now _ _ _ _ c.args.solver.now.sheet.laid.unknown_count (arranged_within c.args.solver.now.arranged c.requires.scratch) c.copy.ensures c.put_turn.ensures c.worked-g.ensures in
    record { scratch = (arranged_same (turned).size (arranged_within c.args.solver.now.arranged c.requires.scratch)).poses }

pub returns-then-no_round : goal.returns-then-no_round
returns-then-no_round c =
    let turned : let g = c.args in let sc = scene_of g.solver.now.sheet.bytes.now g.solver.now.sheet.scene in Went g.solver.now.sheet.scene g.solver.now.parts g.s.now c.worked-g.new.s c.worked-g.result (fresh sc 2 (unknowns_in g.solver.now.sheet.scene g.solver.now.parts g.s.now) (list_of slight_turn (unknowns sc))) =
    let g = c.args in
    turned_is (scene_of g.solver.now.sheet.bytes.now g.solver.now.sheet.scene) g.solver.now.sheet.scene g.solver.now.parts g.s.now _ _ _ _ c.args.solver.now.sheet.laid.unknown_count (arranged_within c.args.solver.now.arranged c.requires.scratch) c.copy.ensures c.put_turn.ensures c.worked-g.ensures in
    let g = c.args in
    retry_none (scene_of g.solver.now.sheet.bytes.now g.solver.now.sheet.scene) (parameters_of g.q) _ g.solver.now.sheet.scene g.solver.now.parts g.s.now _ _ (turned) _ c.within-near.ensures _ _ c.if-near.false (sym (none_made g.solver.now.sheet.bytes.now g.solver.now.sheet.scene (parameters_of g.q) c.args.solver.now.sheet.laid) ∙ sym c.no_round.ensures ∙ c.if-no_round.true) c.end_retry-then-no_round.ensures

pub returns : goal.returns
returns c =
    let turned : let g = c.args in let sc = scene_of g.solver.now.sheet.bytes.now g.solver.now.sheet.scene in Went g.solver.now.sheet.scene g.solver.now.parts g.s.now c.worked-g.new.s c.worked-g.result (fresh sc 2 (unknowns_in g.solver.now.sheet.scene g.solver.now.parts g.s.now) (list_of slight_turn (unknowns sc))) =
    let g = c.args in
    turned_is (scene_of g.solver.now.sheet.bytes.now g.solver.now.sheet.scene) g.solver.now.sheet.scene g.solver.now.parts g.s.now _ _ _ _ c.args.solver.now.sheet.laid.unknown_count (arranged_within c.args.solver.now.arranged c.requires.scratch) c.copy.ensures c.put_turn.ensures c.worked-g.ensures in
    let g = c.args in
    retry_on (scene_of g.solver.now.sheet.bytes.now g.solver.now.sheet.scene) (parameters_of g.q) _ g.solver.now.sheet.scene g.solver.now.parts g.s.now _ _ (turned) _ c.within-near.ensures c.if-near.false (sym (none_made g.solver.now.sheet.bytes.now g.solver.now.sheet.scene (parameters_of g.q) c.args.solver.now.sheet.laid) ∙ sym c.no_round.ensures ∙ c.if-no_round.false)

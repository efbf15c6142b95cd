-- `rounds::parts::Solver::trial`, by whether there is an answer and whether the step is better: a step that is better is taken and the damping softened; in every other case the
-- unknowns and the rows stand as they were and the damping is stiffened. Assumes nothing.
use mathlib.Core.Path.{◌≡◌}
use mathlib.Core.Bool.{false, ◌&&◌}
use lib.Ieee.{lt}
use Rattle.rounds.proofs.RoundLaws.{arranged_same, arranged_within}
use Rattle.numbers.specs.Double.{is_finite}
use Rattle.scene.specs.Scene.{scene_of}
use Rattle.rounds.proofs.TrialLaws.{no_answer, not_better, better, both_hold, first_fails, second_fails}
use Rattle.rounds.proofs.parts.Solver.trial.Goals as goal
use Rattle.rounds.proofs.parts.Solver.trial.Goals.{then-ok+else-is_finite, else-is_finite-via-then-is_finite+else-next-cost, else-is_finite-via-else-is_finite, else-ok}

pub advance-next-requires : goal.advance-next-requires
advance-next-requires c = record { scratch = (arranged_same c.answer-ok.ensures.kept.size (arranged_within c.args.self.now.arranged c.requires.scratch)).poses; rows_bound = c.requires.rows_bound }

pub returns-then-next-cost : goal.returns-then-next-cost
returns-then-next-cost c =
    let g = c.args in
    rw c.softer.ensures
    (better (scene_of g.self.now.sheet.bytes.now g.self.now.sheet.scene) g.self.now.sheet.scene g.self.now.parts _ _ _ g.cost g.mu _ _ _ (arranged_within c.args.self.now.arranged c.requires.scratch) c.answer-ok.ensures c.if-ok.true c.advance-next.ensures _
    (both_hold c.is_finite.result _ _ c.is_finite.ensures c.if-is_finite.true c.if-next-cost.true)
    c.take_step.ensures)

pub returns : goal.returns
returns c =
    let g = c.args in
    let sc = scene_of g.self.now.sheet.bytes.now g.self.now.sheet.scene in
    let a = c.answer-ok.ensures in
    elim c.if-ok.branch [
      | then-ok+else-is_finite w ↦
          let test = w.is_finite in
          let e : (is_finite w.advance-next.result && lt w.advance-next.result g.cost) ≡ false =
          elim w.else-is_finite.branch [
            | else-is_finite-via-then-is_finite+else-next-cost y ↦ second_fails test.result _ _ test.ensures y.if-is_finite.true y.if-next-cost.false
            | else-is_finite-via-else-is_finite y ↦ first_fails test.result _ _ test.ensures y.if-is_finite.false
          ] in
          rw w.s-is (not_better sc g.self.now.sheet.scene g.self.now.parts _ _ _ g.cost g.mu _ _ _ (arranged_within c.args.self.now.arranged c.requires.scratch) a w.if-ok.true w.advance-next.ensures e)
      | else-ok w ↦ rw w.s-is (no_answer sc g.self.now.sheet.scene g.self.now.parts _ _ g.cost g.mu _ _ (arranged_within c.args.self.now.arranged c.requires.scratch) a w.if-ok.false)
    ]

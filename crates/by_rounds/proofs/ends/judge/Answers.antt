-- `by_rounds::ends::judge`: a run that goes on is judged by the definition's tests, with the scene's own row count; any other state stays. Assumes nothing.
use mathlib.Core.Path.{sym, ap, ◌∙◌}
use mathlib.Core.Bool.{◌||◌}
use Prim.Native.Nat.{ℕ}
use lib.Dec.{leb, ltb}
use Rattle.scene.specs.Scene.{scene_of, parameters_of}
use Rattle.by_rounds.specs.Running.{running_in}
use Rattle.by_rounds.proofs.EndLaws.{went_none, went_as, row_count_is, judge_running, judge_finished}
use Rattle.by_rounds.proofs.ends.judge.Goals as goal

pub returns-then-is_running : goal.returns-then-is_running
returns-then-is_running c =
    let g = c.args in
    went_as g.solver.now.sheet.scene g.solver.now.parts g.s.now _ _ _ _ c.judged.ensures (judge_running (scene_of g.solver.now.sheet.bytes.now g.solver.now.sheet.scene) (parameters_of g.q) (running_in g.solver.now.sheet.scene g.solver.now.parts g.s.now g.g) _ _ c.is_running.ensures c.if-is_running.true (c.is_over-stop.ensures ∙ ap (λ (k : ℕ). leb g.q.rounds g.g.done || ltb 800 k) (sym (row_count_is g.solver.now.sheet.bytes.now g.solver.now.sheet.scene c.args.solver.now.sheet.laid))))

pub returns : goal.returns
returns c =
    let g = c.args in
    went_none g.solver.now.sheet.scene g.solver.now.parts g.s.now _ _ (judge_finished (scene_of g.solver.now.sheet.bytes.now g.solver.now.sheet.scene) (parameters_of g.q) (running_in g.solver.now.sheet.scene g.solver.now.parts g.s.now g.g) _ c.is_running.ensures c.if-is_running.false)

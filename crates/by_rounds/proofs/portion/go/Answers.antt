-- `by_rounds::portion::go`. The invariant: the rounds that are left come to what all come to, with those made they are as many as the definition makes, and the run that goes on
-- has not ended by this set, so that it has few rows and has made few rounds (`few_left`). The measure is the rounds to come. Assumes nothing.
use mathlib.Core.Path.{ap, ◌∙◌}
use native.Mathlib.Omega.{arith}
use Rattle.least_squares.specs.Lm.{all_finite}
use Rattle.scene.specs.Scene.{scene_of, parameters_of}
use Rattle.rounds.proofs.RoundLaws.{arranged_same, arranged_within}
use Rattle.by_rounds.proofs.GoLaws.{gone_start, gone_on_lem, gone_stop, gone_end, few_left}
use Rattle.by_rounds.proofs.portion.go.Goals as goal

pub loop-i-init : goal.loop-i-init
loop-i-init c =
    let g = c.args in
    (gone_start (scene_of g.solver.now.sheet.bytes.now g.solver.now.sheet.scene) g.solver.now.sheet.scene g.solver.now.parts (parameters_of g.q) g.s.now g.g g.portion c.requires.settled, (omega arith, omega arith))

pub one_more-next-requires : goal.one_more-next-requires
one_more-next-requires c =
    let g = c.args in
    let few = few_left g.solver.now.sheet.bytes.now g.solver.now.sheet.scene g.solver.now.parts (parameters_of g.q) c.loop-i.s c.loop-i.e _ c.args.solver.now.sheet.laid c.requires.q_value c.loop-i.invariant.0.settled c.is_running.ensures c.if-is_running.true in
    record { scratch = (arranged_same c.loop-i.invariant.0.size (arranged_within c.args.solver.now.arranged c.requires.scratch)).poses; rows_bound = (few.rows, few.done); s_value = ap all_finite c.loop-i.invariant.0.weights ∙ c.requires.s_value }

pub shape_of-s-else-is_running : goal.shape_of-s-else-is_running
shape_of-s-else-is_running c = c.loop-i.invariant.0.size

pub returns-else-is_running : goal.returns-else-is_running
returns-else-is_running c =
    let g = c.args in
    gone_stop (scene_of g.solver.now.sheet.bytes.now g.solver.now.sheet.scene) g.solver.now.sheet.scene g.solver.now.parts (parameters_of g.q) g.s.now c.loop-i.s g.g c.loop-i.e g.portion c.loop-i.i c.loop-i.made _ c.loop-i.invariant.0 c.is_running.ensures c.if-is_running.false

pub loop-i-preserved : goal.loop-i-preserved
loop-i-preserved c =
    let g = c.args in
    (gone_on_lem (scene_of g.solver.now.sheet.bytes.now g.solver.now.sheet.scene) g.solver.now.sheet.scene g.solver.now.parts (parameters_of g.q) g.s.now c.loop-i.s g.g c.loop-i.e g.portion c.loop-i.i c.loop-i.made _ c.loop-i.invariant.0 c.is_running.ensures _ _ c.requires.q_value (omega arith) c.if-is_running.true c.one_more-next.ensures, (omega arith, omega arith))

pub shape_of-s : goal.shape_of-s
shape_of-s c = c.loop-i.invariant.0.size

pub returns : goal.returns
returns c =
    let g = c.args in
    gone_end (scene_of g.solver.now.sheet.bytes.now g.solver.now.sheet.scene) g.solver.now.sheet.scene g.solver.now.parts (parameters_of g.q) g.s.now c.loop-i.s g.g c.loop-i.e g.portion c.loop-i.i c.loop-i.made (omega arith) c.loop-i.invariant.0

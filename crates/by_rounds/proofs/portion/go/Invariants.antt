-- `by_rounds::portion::go`. The invariant: the rounds that are left come to what all come to, with those made they are as many as the definition makes, and the run that goes on
-- has not ended by this set, so that it has few rows and has made few rounds (`few_left`). The measure is the rounds to come. Assumes nothing.
use Prim.Native.Nat.{◌-◌, ◌≤◌}
use Rattle.scene.specs.Scene.{scene_of, parameters_of}
use Rattle.by_rounds.proofs.GoLaws.{Gone}
use Rattle.by_rounds.proofs.portion.go.Given as goal

abbrev pub invariant-loop-i : goal.invariant-loop-i
invariant-loop-i l = Gone (scene_of l.solver.sheet.bytes.now l.solver.sheet.scene) l.solver.sheet.scene l.solver.parts (parameters_of l.q) l.initial.s l.s l.initial.e l.e l.portion l.i l.made × ((l.i ≤ l.portion) × (l.made ≤ l.i))

abbrev pub decreases-loop-i : goal.decreases-loop-i
decreases-loop-i l = l.portion - l.i

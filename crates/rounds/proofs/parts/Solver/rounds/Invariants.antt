-- `rounds::parts::Solver::rounds`. The invariant: the rounds that are left come to what all come to, and the scratch that is not theirs is as it was. A round that ends the loop,
-- within the tolerance or not better, is the definition's last; the measure is the rounds to come. Assumes nothing.
use Prim.Native.Nat.{◌-◌, ◌≤◌}
use Rattle.scene.specs.Scene.{scene_of}
use Rattle.rounds.proofs.RunLaws.{Going}
use Rattle.rounds.proofs.parts.Solver.rounds.Given as goal

abbrev pub invariant-loop-i : goal.invariant-loop-i
invariant-loop-i l = (l.i ≤ l.most) × Going (scene_of l.self.sheet.bytes.now l.self.sheet.scene) l.self.sheet.scene l.self.parts l.initial.s l.s l.tolerance l.most l.cost l.mu l.c l.d l.i

abbrev pub decreases-loop-i : goal.decreases-loop-i
decreases-loop-i l = l.most - l.i

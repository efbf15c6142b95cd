-- `rounds::parts::Solver::trials` meets its contract. The invariant: the trials that are left come to what all come to, and the scratch that they read is as it was. The
-- measure is the trials to come. Assumes nothing.
use Prim.Native.Nat.{◌-◌, ◌≤◌}
use Rattle.scene.specs.Scene.{scene_of}
use Rattle.rounds.proofs.RoundLaws.{Trying}
use Rattle.rounds.proofs.parts.Solver.trials.Given as goal

abbrev pub invariant-loop-i : goal.invariant-loop-i
invariant-loop-i l = (l.i ≤ 12) × Trying (scene_of l.self.sheet.bytes.now l.self.sheet.scene) l.self.sheet.scene l.self.parts l.initial.s l.s l.cost l.mu l.stiffness l.i

abbrev pub decreases-loop-i : goal.decreases-loop-i
decreases-loop-i l = 12 - l.i

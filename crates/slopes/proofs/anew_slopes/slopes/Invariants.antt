-- `slopes::anew_slopes::slopes` meets its contract. The invariant: the columns of the bodies passed are worked, the others are +0, and outside the slopes nothing has changed. The measure
-- is the bodies to come. Assumes nothing.
use Prim.Native.Nat.{◌-◌, ◌≤◌}
use Rattle.scene.specs.Scene.{scene_of}
use Rattle.slopes.specs.AnewSlopes.{given}
use Rattle.slopes.proofs.BodyLaws.{Reached}
use Rattle.slopes.proofs.anew_slopes.slopes.Given as goal

abbrev pub invariant-loop-i : goal.invariant-loop-i
invariant-loop-i l = (l.i ≤ l.sheet.scene.m) × Reached (scene_of l.sheet.bytes.now l.sheet.scene) l.sheet.scene l.at l.initial.s l.s (given (scene_of l.sheet.bytes.now l.sheet.scene) l.i)

abbrev pub decreases-loop-i : goal.decreases-loop-i
decreases-loop-i l = l.sheet.scene.m - l.i

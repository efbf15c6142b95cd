-- `freedom::total::slopes` meets its contract. The invariant: the columns of the bodies passed are written, those to come are +0, and the poses are those at the unknowns. The measure is
-- the bodies to come. Assumes nothing.
use mathlib.Core.Path.{◌≡◌}
use Prim.Native.Nat.{◌-◌, ◌≤◌}
use lib.ListN.{length}
use Rattle.scene.specs.Scene.{scene_of}
use Rattle.slopes.specs.AnewSlopes.{given}
use Rattle.freedom.proofs.ColumnLaws.{Sloped}
use Rattle.freedom.proofs.total.slopes.Given as goal

abbrev pub invariant-loop-i : goal.invariant-loop-i
invariant-loop-i l = (l.i ≤ l.sheet.scene.m) × (length l.s ≡ length l.initial.s) × Sloped (scene_of l.sheet.bytes.now l.sheet.scene) l.sheet.scene l.parts l.s (given (scene_of l.sheet.bytes.now l.sheet.scene) l.i)

abbrev pub decreases-loop-i : goal.decreases-loop-i
decreases-loop-i l = l.sheet.scene.m - l.i

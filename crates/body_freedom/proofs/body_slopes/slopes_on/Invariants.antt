-- `body_freedom::body_slopes::slopes_on` meets its contract. The invariant: the slopes of the rows of the relations passed are written, these rows are the body's first, and no other
-- place has changed. The measure is the relations to come. Assumes nothing.
use Prim.Native.Nat.{◌-◌, ◌≤◌}
use Rattle.scene.specs.Scene.{scene_of, poses_in}
use Rattle.slopes.specs.Moved.{moved_slope, Block}
use Rattle.body_freedom.specs.BodySlopes.{rows_on}
use Rattle.body_freedom.proofs.BodySlopeLaws.{Passed}
use Rattle.body_freedom.proofs.body_slopes.slopes_on.Given as goal

abbrev pub invariant-loop-j : goal.invariant-loop-j
invariant-loop-j l = (l.j ≤ l.sheet.scene.k) × Passed l.sheet.bytes.now l.sheet.scene l.i l.j l.row × Block l.initial.s l.s 0 6 l.row 6 (moved_slope (rows_on (scene_of l.sheet.bytes.now l.sheet.scene) l.i) (poses_in l.initial.s l.p l.sheet.scene.m) l.i l.moved l.steps)

abbrev pub decreases-loop-j : goal.decreases-loop-j
decreases-loop-j l = l.sheet.scene.k - l.j

-- `body_freedom::body_slopes::put_starts` meets its contract. The invariant: the poses of the bodies passed stand from p on, and with those to come they are
-- all of them. The measure is the bodies to come. Assumes nothing.
use Prim.Native.Nat.{◌-◌, ◌*◌, ◌≤◌}
use Rattle.scene.specs.Scene.{scene_of, poses_doubles}
use Rattle.scene.proofs.SceneLaws.{Growing}
use Rattle.body_freedom.specs.BodySlopes.{starts}
use Rattle.body_freedom.proofs.BodySlopeLaws.{rest_starts}
use Rattle.body_freedom.proofs.body_slopes.put_starts.Given as goal

abbrev pub invariant-loop-i : goal.invariant-loop-i
invariant-loop-i l = (l.i ≤ l.sheet.scene.m) × Growing l.initial.s l.s l.p (12 * l.i) (rest_starts l.sheet.bytes.now l.sheet.scene l.i) (poses_doubles (starts (scene_of l.sheet.bytes.now l.sheet.scene)))

abbrev pub decreases-loop-i : goal.decreases-loop-i
decreases-loop-i l = l.sheet.scene.m - l.i

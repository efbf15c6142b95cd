-- `scene::scene::Sheet::poses_at` meets its contract. The invariant: the poses of the bodies passed stand from p on, and with those of the bodies to come they are
-- all of them. The measure is the bodies to come. Assumes nothing.
use Prim.Native.Nat.{◌-◌, ◌*◌, ◌≤◌}
use Rattle.scene.specs.Scene.{scene_of, poses_doubles}
use Rattle.scene.specs.Solve.{poses_at}
use Rattle.least_squares.specs.Memory.{part}
use Rattle.scene.proofs.SceneLaws.{Growing, rest_poses}
use Rattle.scene.proofs.scene.Sheet.poses_at.Given as goal

abbrev pub invariant-loop-i : goal.invariant-loop-i
invariant-loop-i l = (l.i ≤ l.self.scene.m) × Growing l.initial.s l.s l.p (12 * l.i) (rest_poses l.self.bytes.now l.self.scene (part l.initial.s l.x l.self.scene.n) l.i) (poses_doubles (poses_at (scene_of l.self.bytes.now l.self.scene) (part l.initial.s l.x l.self.scene.n)))

abbrev pub decreases-loop-i : goal.decreases-loop-i
decreases-loop-i l = l.self.scene.m - l.i

-- `scene::scene::Sheet::residuals` meets its contract. The invariant: the rows of the relations passed stand from r up to `at`, and with those to come they are all
-- of them. The measure is the relations to come. Assumes nothing.
use Prim.Native.Nat.{◌-◌, ◌≤◌}
use Rattle.scene.specs.Scene.{scene_of, poses_in}
use Rattle.scene.specs.Solve.{all_rows}
use Rattle.scene.proofs.SceneLaws.{Growing, rest_rows}
use Rattle.scene.proofs.scene.Sheet.residuals.Given as goal

abbrev pub invariant-loop-j : goal.invariant-loop-j
invariant-loop-j l = (l.j ≤ l.self.scene.k) × (l.r ≤ l.at) × (l.at ≤ l.p)
    × Growing l.initial.s l.s l.r (l.at - l.r) (rest_rows l.self.bytes.now l.self.scene (poses_in l.initial.s l.p l.self.scene.m) l.j) (all_rows (poses_in l.initial.s l.p l.self.scene.m) (scene_of l.self.bytes.now l.self.scene).rels)

abbrev pub decreases-loop-j : goal.decreases-loop-j
decreases-loop-j l = l.self.scene.k - l.j

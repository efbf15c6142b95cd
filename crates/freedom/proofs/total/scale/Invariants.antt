-- `freedom::total::scale` meets its contract. The loop's invariant: the bodies to come lead to the same unknowns. Assumes nothing.
use Rattle.freedom.proofs.TotalLaws.{rest_scaled}
use mathlib.Core.Path.{◌≡◌}
use Prim.Native.Nat.{◌+◌, ◌-◌, ◌≤◌}
use Rattle.least_squares.specs.Memory.{part, Kept}
use Rattle.scene.specs.Scene.{scene_of}
use Rattle.scene.specs.Solve.{layout}
use Rattle.body_freedom.specs.Dof.{scaled_from}
use Rattle.freedom.proofs.total.scale.Given as goal

abbrev pub invariant-loop-i : goal.invariant-loop-i
invariant-loop-i l = (l.i ≤ l.sheet.scene.m) × Kept l.initial.s l.s l.z (l.z + l.sheet.scene.n) × (rest_scaled l.sheet.bytes.now l.sheet.scene (part l.s l.z l.sheet.scene.n) l.i ≡ scaled_from (part l.initial.s l.z l.sheet.scene.n) (scene_of l.sheet.bytes.now l.sheet.scene).bodies (layout (scene_of l.sheet.bytes.now l.sheet.scene)))

abbrev pub decreases-loop-i : goal.decreases-loop-i
decreases-loop-i l = l.sheet.scene.m - l.i

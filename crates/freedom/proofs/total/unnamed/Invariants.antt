-- `freedom::total::unnamed` meets its contract. The loop's invariant: those counted and those to come are all. Assumes nothing.
use Rattle.freedom.proofs.TotalLaws.{rest_unnamed}
use mathlib.Core.Path.{◌≡◌}
use Prim.Native.Nat.{◌+◌, ◌-◌, ◌*◌, ◌≤◌}
use Rattle.scene.specs.Scene.{scene_of}
use Rattle.body_freedom.specs.Dof.{unnamed_from}
use Rattle.freedom.proofs.total.unnamed.Given as goal

abbrev pub invariant-loop-i : goal.invariant-loop-i
invariant-loop-i l = (l.i ≤ l.sheet.scene.m) × (l.count ≤ 6 * l.i) × (l.count + rest_unnamed l.sheet.bytes.now l.sheet.scene l.i ≡ unnamed_from (scene_of l.sheet.bytes.now l.sheet.scene).rels 0 (scene_of l.sheet.bytes.now l.sheet.scene).bodies)

abbrev pub decreases-loop-i : goal.decreases-loop-i
decreases-loop-i l = l.sheet.scene.m - l.i

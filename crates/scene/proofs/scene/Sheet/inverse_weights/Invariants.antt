-- `scene::scene::Sheet::inverse_weights` meets its contract. The invariant: the inverse weights of the bodies passed stand from w up to `at`, and with those to come
-- they are all of them. The measure is the bodies to come. Assumes nothing.
use mathlib.Core.List.{map}
use Prim.Native.Nat.{◌+◌, ◌-◌, ◌≤◌}
use Rattle.scene.specs.Scene.{scene_of}
use Rattle.scene.specs.Solve.{weights}
use Rattle.least_squares.specs.Lm.{inverse_weight}
use Rattle.relations.specs.Model.{body_number}
use Rattle.scene.proofs.SceneLaws.{Growing, rest_weights}
use Rattle.scene.proofs.scene.Sheet.inverse_weights.Given as goal

abbrev pub invariant-loop-i : goal.invariant-loop-i
invariant-loop-i l = (l.i ≤ l.self.scene.m) × (l.w ≤ l.at) × (l.at ≤ l.w + l.self.scene.n)
    × Growing l.initial.s l.s l.w (l.at - l.w) (rest_weights l.self.bytes.now l.self.scene l.weight (body_number l.drag) l.i) (map inverse_weight (weights (scene_of l.self.bytes.now l.self.scene) l.weight (body_number l.drag)))

abbrev pub decreases-loop-i : goal.decreases-loop-i
decreases-loop-i l = l.self.scene.m - l.i

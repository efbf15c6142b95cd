-- `slopes::moved::named_columns` meets its contract. The invariant: the slopes of the rows of the relations passed are written, these rows are the first of all, and no other place has
-- changed. The measure is the relations to come. Assumes nothing.
use Prim.Native.Nat.{◌-◌, ◌≤◌}
use Rattle.scene.specs.Solve.{all_rows}
use Rattle.scene.specs.Scene.{scene_of, poses_in}
use Rattle.slopes.specs.Moved.{moved_slope, Block}
use Rattle.slopes.proofs.MovedLaws.{Passed}
use Rattle.slopes.proofs.moved.named_columns.Given as goal

abbrev pub invariant-loop-j : goal.invariant-loop-j
invariant-loop-j l = (l.j ≤ l.sheet.scene.k) × Passed l.sheet.bytes.now l.sheet.scene l.j l.row × Block l.initial.s l.s l.o l.n l.row 6 (moved_slope (λ poses. all_rows poses (scene_of l.sheet.bytes.now l.sheet.scene).rels) (poses_in l.initial.s l.p l.sheet.scene.m) l.i l.moved l.steps)

abbrev pub decreases-loop-j : goal.decreases-loop-j
decreases-loop-j l = l.sheet.scene.k - l.j

-- `slopes::moved::rel_columns` meets its contract. The invariant: the slopes along the first e unknowns are written and no other place has changed, so the poses behind them are as at
-- entry. The measure is the unknowns to come. Assumes nothing.
use Prim.Native.Nat.{◌-◌, ◌≤◌}
use lib.ListN.{length}
use Rattle.relations.specs.Model.{rel_of}
use Rattle.scene.specs.Solve.{rows_at}
use Rattle.scene.specs.Scene.{poses_in}
use Rattle.slopes.specs.Moved.{moved_slope, Block}
use Rattle.slopes.proofs.moved.rel_columns.Given as goal

abbrev pub invariant-loop-e : goal.invariant-loop-e
invariant-loop-e l = (l.e ≤ 6) × Block l.initial.s l.s l.o l.n (length (rows_at (poses_in l.initial.s l.p l.m) (rel_of l.rel))) l.e (moved_slope (λ poses. rows_at poses (rel_of l.rel)) (poses_in l.initial.s l.p l.m) l.i l.moved l.steps)

abbrev pub decreases-loop-e : goal.decreases-loop-e
decreases-loop-e l = 6 - l.e

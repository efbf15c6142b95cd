-- `placement::solve::put_errors` meets its contract. The invariant: the errors of the relations passed stand at the front. The measure is the relations to come. Assumes
-- nothing.
use Prim.Native.Nat.{◌-◌, ◌≤◌}
use Rattle.least_squares.specs.Lm.{list_of}
use Rattle.scene.specs.Scene.{Put, poses_in}
use Rattle.placement.proofs.SolveLaws.{error_at}
use Rattle.placement.proofs.solve.put_errors.Given as goal

abbrev pub invariant-loop-j : goal.invariant-loop-j
invariant-loop-j l = (l.j ≤ l.k) × Put l.initial.errors l.errors 0 l.j (list_of (error_at l.sheet.bytes.now l.sheet.scene (poses_in l.s l.p l.sheet.scene.m)) l.j)

abbrev pub decreases-loop-j : goal.decreases-loop-j
decreases-loop-j l = l.k - l.j

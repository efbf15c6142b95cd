-- `slopes::anew_slopes::moved_poses` meets its contract. The invariant: the poses and the steps along the first e unknowns are made. The measure is the unknowns to come. Assumes
-- nothing.
use mathlib.Core.Path.{◌≡◌}
use Prim.Native.Nat.{◌-◌, ◌≤◌}
use lib.ListN.{length}
use Rattle.relations.specs.Model.{body_of}
use Rattle.slopes.specs.AnewSlopes.{MovedPoses}
use Rattle.slopes.proofs.anew_slopes.moved_poses.Given as goal

abbrev pub invariant-loop-e : goal.invariant-loop-e
invariant-loop-e l = (l.e ≤ 6) × (length l.moved ≡ length l.initial.moved) × (length l.steps ≡ 6) × MovedPoses (body_of l.b) l.x l.moved l.steps l.e

abbrev pub decreases-loop-e : goal.decreases-loop-e
decreases-loop-e l = 6 - l.e

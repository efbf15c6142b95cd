-- `body_freedom::body_slopes::moved_poses` writes the twelve poses. The invariant: those of the first e unknowns stand, ahead
-- and behind, and nothing behind the 144 doubles has changed. The measure is the unknowns to come. Assumes nothing.
use Prim.Native.Nat.{◌-◌, ◌≤◌}
use Rattle.relations.specs.Model.{body_of}
use Rattle.body_freedom.proofs.BodySlopeLaws.{Moving}
use Rattle.body_freedom.proofs.body_slopes.moved_poses.Given as goal

abbrev pub invariant-loop-e : goal.invariant-loop-e
invariant-loop-e l = (l.e ≤ 6) × Moving (body_of l.b) l.initial.moved l.moved l.e

abbrev pub decreases-loop-e : goal.decreases-loop-e
decreases-loop-e l = 6 - l.e

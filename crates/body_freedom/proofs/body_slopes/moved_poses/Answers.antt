-- `body_freedom::body_slopes::moved_poses` writes the twelve poses. The invariant: those of the first e unknowns stand, ahead
-- and behind, and nothing behind the 144 doubles has changed. The measure is the unknowns to come. Assumes nothing.
use native.Mathlib.Omega.{arith}
use Rattle.body_freedom.proofs.BodySlopeLaws.{moving_start, moving_step, moving_end}
use Rattle.body_freedom.proofs.body_slopes.moved_poses.Goals as goal

pub loop-e-init : goal.loop-e-init
loop-e-init c = (omega arith, moving_start _ _)

pub put_unknown-requires : goal.put_unknown-requires
put_unknown-requires c = let z = c.loop-e.invariant.1.kept.size in record { e_bound = omega arith; o_in_bounds = omega arith }

pub put_unknown-requires-in-loop-e : goal.put_unknown-requires-in-loop-e
put_unknown-requires-in-loop-e c =
    let z = c.loop-e.invariant.1.kept.size in
    let y = c.put_unknown.ensures.kept.size in
    record { e_bound = omega arith; o_in_bounds = omega arith }

pub loop-e-preserved : goal.loop-e-preserved
loop-e-preserved c =
    let l = c.loop-e in
    (omega arith, moving_step _ _ l.moved _ _ l.e _ (omega arith) c.step_of-h.ensures l.invariant.1 c.put_unknown.ensures c.put_unknown-in-loop-e.ensures)

pub shape_of-moved : goal.shape_of-moved
shape_of-moved c = c.loop-e.invariant.1.kept.size

pub returns : goal.returns
returns c = moving_end _ _ _ c.loop-e.e (omega arith) c.loop-e.invariant.1

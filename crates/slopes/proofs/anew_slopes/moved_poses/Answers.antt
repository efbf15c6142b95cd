-- `slopes::anew_slopes::moved_poses` meets its contract. The invariant: the poses and the steps along the first e unknowns are made. The measure is the unknowns to come. Assumes
-- nothing.
use mathlib.Core.Path.{◌≡◌, refl, ◌∙◌}
use native.Mathlib.Omega.{arith}
use lib.ListN.{length-set}
use Rattle.slopes.proofs.BodyLaws.{moved_start, moved_step, moved_end}
use Rattle.slopes.proofs.anew_slopes.moved_poses.Goals as goal

pub loop-e-init : goal.loop-e-init
loop-e-init c = (omega arith, refl, refl, moved_start _ _ _ _)

pub put_moved-requires : goal.put_moved-requires
put_moved-requires c = record { in_bounds = omega arith; e_bound = omega arith }

pub loop-e-preserved : goal.loop-e-preserved
loop-e-preserved c =
    let l = c.loop-e in
    let y = c.put_moved.ensures in
    (omega arith, y.size ∙ l.invariant.1, length-set l.steps l.e _ ∙ l.invariant.2, moved_step _ _ _ _ l.steps l.e _ (omega arith) (omega arith) y l.invariant.3)

pub shape_of-moved : goal.shape_of-moved
shape_of-moved c = c.loop-e.invariant.1

pub returns : goal.returns
returns c =
    let l = c.loop-e in
    let e : l.e ≡ 6 = omega arith in
    record { size = l.invariant.1; poses = moved_end _ _ _ _ l.e e l.invariant.3 }

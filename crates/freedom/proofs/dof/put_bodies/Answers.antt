-- `freedom::dof::put_bodies` meets its contract. The invariant: the freedoms of the bodies passed stand at the front, and the starting poses in scratch. The measure is the
-- bodies to come. Assumes nothing.
use mathlib.Core.Path.{◌∙◌}
use native.Mathlib.Omega.{arith}
use Rattle.body_freedom.proofs.BodySlopeLaws.{body_apart, still_apart}
use Rattle.freedom.proofs.DofLaws.{none_passed, one_passed, all_passed}
use Rattle.freedom.proofs.dof.put_bodies.Goals as goal

pub put_starts-requires : goal.put_starts-requires
put_starts-requires c = record { m_in_bounds = (body_apart c.args.sheet.scene _ _ c.body_parts-parts.ensures c.requires.scene_in_bounds).poses }

pub loop-i-init : goal.loop-i-init
loop-i-init c = none_passed _ _ _ _ _ _ c.put_starts.ensures

pub put_body-requires : goal.put_body-requires
put_body-requires c =
    let v = c.loop-i.invariant in
    let z = v.size ∙ c.put_starts.ensures.kept.size in
    let w = v.filled.kept.size in
    let h = c.loop-i-test.true in
    let p = body_apart _ _ _ c.body_parts-parts.ensures c.requires.scene_in_bounds in
    record { i_lt_m = (h, omega (arith, h, w, c.requires.m_in_bounds)); body_apart = still_apart _ _ _ _ z p; m_value = v.poses }

pub loop-i-preserved : goal.loop-i-preserved
loop-i-preserved c = one_passed _ _ _ _ _ _ _ _ _ _ c.loop-i-test.true c.loop-i.invariant c.put_body.ensures

pub returns : goal.returns
returns c = all_passed _ _ _ _ _ _ _ _ _ c.loop-i-test.false c.put_starts.ensures.kept.size c.loop-i.invariant

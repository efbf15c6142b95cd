-- `body_freedom::body_slopes::body_slopes`: the body's poses a step ahead and behind stand in an array of its own, and the slopes by them are those of the body's rows as a function of
-- its six unknowns. Assumes nothing.
use native.Mathlib.Omega.{arith}
use Rattle.scene.specs.Scene.{scene_of}
use Rattle.body_freedom.proofs.BodySlopeLaws.{body_slopes_is}
use Rattle.body_freedom.proofs.body_slopes.body_slopes.Goals as goal

pub slopes_on-requires : goal.slopes_on-requires
slopes_on-requires c =
    let apart = c.requires.body_apart in
    let z = c.moved_poses.ensures.kept.size in
    record { room = record { body = c.requires.i_lt_m; poses = apart.poses; twelve = omega arith; wide = omega arith; below = omega (arith, c.requires.m_len_bound) } }

pub returns : goal.returns
returns c =
    let g = c.args in
    let apart = c.requires.body_apart in
    body_slopes_is (scene_of g.sheet.bytes.now g.sheet.scene) g.s.now _ _ _ _ g.parts.poses g.sheet.scene.m g.i _ _ _ c.body-b.ensures c.six_steps.ensures c.requires.m_len_bound (omega arith)
    c.moved_poses.ensures
    c.slopes_on.ensures

-- `slopes::anew_slopes::body_columns` meets its contract: the body read from the sheet and its six unknowns are the definition's, so the poses that are made are the body's a step ahead
-- and a step behind (`moved_as`), and the slopes of the rows there are the body's columns (`body_columns_is`). Assumes nothing.
use Prim.Native.Nat.{◌+◌, ◌*◌}
use native.Mathlib.Omega.{arith}
use Rattle.records.specs.Record.{body_at}
use Rattle.slopes.specs.AnewSlopes.{MovedPoses}
use Rattle.slopes.proofs.BodyLaws.{moved_as, moved_steps, columns_clear, body_columns_is}
use Rattle.slopes.proofs.anew_slopes.body_columns.Goals as goal

pub overflow_add-at-2 : goal.overflow_add-at-2
overflow_add-at-2 c = let apart = c.requires.apart in omega arith

pub named_columns-requires : goal.named_columns-requires
named_columns-requires c =
    let made : let g = c.args in MovedPoses (body_at g.sheet.bytes.now (g.sheet.scene.bodies + 136 * g.i)) c.six_at-x.result c.moved_poses-steps.new.moved c.moved_poses-steps.result 6 =
    moved_as _ _ _ _ _ c.body-b.ensures c.moved_poses-steps.ensures.poses in
    let g = c.args in
    let laid = c.args.sheet.laid in
    let apart = c.requires.apart in
    let size = c.moved_poses-steps.ensures.size in record { room = record { body = c.requires.i_lt_m.0; poses = apart.poses; twelve = omega arith; wide = omega arith; below = omega arith }; clear = columns_clear g.sheet.bytes.now g.sheet.scene g.at g.s.now _ g.i g.k laid apart c.requires.i_lt_m.0 c.requires.i_lt_m.1 c.requires.none_value c.requires.standing; steps = moved_steps _ _ _ _ (made) }

pub returns : goal.returns
returns c =
    let made : let g = c.args in MovedPoses (body_at g.sheet.bytes.now (g.sheet.scene.bodies + 136 * g.i)) c.six_at-x.result c.moved_poses-steps.new.moved c.moved_poses-steps.result 6 =
    moved_as _ _ _ _ _ c.body-b.ensures c.moved_poses-steps.ensures.poses in
    let g = c.args in
    body_columns_is g.sheet.bytes.now g.sheet.scene g.at g.s.now _ g.i g.k c.args.sheet.laid c.requires.apart c.requires.i_lt_m.0 c.requires.i_lt_m.1 c.requires.none_value c.requires.standing
    _ _ _ c.six_at-x.ensures (made) _ c.named_columns.ensures

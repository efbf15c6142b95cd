-- `freedom::total::six_columns`: the body's poses a step ahead and behind stand in an array of its own, and the slopes by them are those of the scaled rows along the body's six unknowns.
-- Assumes nothing.
use native.Mathlib.Omega.{arith}
use Rattle.scene.specs.Scene.{scene_of}
use Rattle.freedom.proofs.ColumnLaws.{six_columns_is, six_clear, six_still}
use Rattle.freedom.proofs.total.six_columns.Goals as goal

pub named_columns-requires : goal.named_columns-requires
named_columns-requires c =
    let g = c.args in
    let apart = c.requires.total_apart in
    let z = c.moved_poses.ensures.kept.size in record { room = record { body = c.requires.i_lt_m.0; poses = apart.poses; twelve = omega arith; wide = omega arith; below = omega arith }; clear = six_clear (scene_of g.sheet.bytes.now g.sheet.scene) g.sheet.scene g.parts g.s.now g.k c.requires.i_lt_m.1 c.requires.waiting; steps = six_still _ c.six_steps.ensures }

pub returns : goal.returns
returns c =
    let g = c.args in
    six_columns_is g.sheet.bytes.now g.sheet.scene g.i g.k c.args.sheet.laid c.requires.i_lt_m.0 c.requires.none_value c.requires.i_lt_m.1 g.parts g.s.now _ _ _ _ _ c.body-b.ensures c.requires.waiting c.moved_poses.ensures
    c.six_steps.ensures
    c.named_columns.ensures

-- `body_freedom::body_slopes::body_square`: body i's slopes, then the six by six of the slopes, which stand below the poses. The slopes fit into the places of the whole assembly's
-- (`slopes-fit`). Assumes nothing.
use Prim.Native.Nat.{◌*◌, ◌≤◌}
use native.Mathlib.Omega.{arith}
use lib.ListN.{length}
use Rattle.scene.specs.Scene.{scene_of, poses_in}
use Rattle.body_freedom.specs.BodySlopes.{rows_on}
use Rattle.body_freedom.proofs.BodySlopeLaws.{on_fits, on_six, body_square_is}
use Rattle.body_freedom.proofs.SquareLaws.{slopes_finite}
use Rattle.body_freedom.proofs.body_slopes.body_square.Goals as goal

pub body_slopes-rows-requires : goal.body_slopes-rows-requires
body_slopes-rows-requires c =
    let slopes-fit : let g = c.args in length (rows_on (scene_of g.sheet.bytes.now g.sheet.scene) g.i (poses_in g.s.now g.parts.poses g.sheet.scene.m)) * 6 ≤ g.sheet.scene.rows * g.sheet.scene.n =
    let g = c.args in
    on_six g.sheet.bytes.now g.sheet.scene g.i (poses_in g.s.now g.parts.poses g.sheet.scene.m) c.args.sheet.laid c.requires.i_lt_m.0 c.requires.i_lt_m.1 in
    record { i_lt_m = c.requires.i_lt_m.0; body_apart = c.requires.body_apart; m_len_bound = omega (arith, slopes-fit, c.requires.body_apart.slopes) }

pub square-requires : goal.square-requires
square-requires c =
    let slopes-fit : let g = c.args in length (rows_on (scene_of g.sheet.bytes.now g.sheet.scene) g.i (poses_in g.s.now g.parts.poses g.sheet.scene.m)) * 6 ≤ g.sheet.scene.rows * g.sheet.scene.n =
    let g = c.args in
    on_six g.sheet.bytes.now g.sheet.scene g.i (poses_in g.s.now g.parts.poses g.sheet.scene.m) c.args.sheet.laid c.requires.i_lt_m.0 c.requires.i_lt_m.1 in
    let g = c.args in
    let n = slopes-fit in
    let k = c.body_slopes-rows.ensures.count in
    let z = c.body_slopes-rows.ensures.size in
    let f = on_fits g.sheet.bytes.now g.sheet.scene g.i (poses_in g.s.now g.parts.poses g.sheet.scene.m) c.args.sheet.laid in
    record { rows_in_bounds = omega arith; rows_bound = omega arith; finite_at = slopes_finite _ _ _ c.body_slopes-rows.result 6 (omega arith) c.body_slopes-rows.ensures.holds }

pub shape_of-s : goal.shape_of-s
shape_of-s c = c.body_slopes-rows.ensures.size

pub returns : goal.returns
returns c =
    let g = c.args in
    body_square_is g.sheet.bytes.now g.sheet.scene g.s.now _ g.parts.poses g.i _ _ c.requires.m_value c.body_slopes-rows.ensures c.square.ensures

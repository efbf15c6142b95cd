-- `body_freedom::body_slopes::slopes_on` meets its contract. The invariant: the slopes of the rows of the relations passed are written, these rows are the body's first, and no other
-- place has changed. The measure is the relations to come. Assumes nothing.
use mathlib.Core.Path.{◌≡◌}
use Prim.Native.Nat.{◌*◌}
use native.Mathlib.Omega.{arith}
use native.Mathlib.Nat.{zero-add, mul-le-mul_right}
use Rattle.scene.specs.Scene.{poses_in}
use Rattle.slopes.proofs.MovedLaws.{block_no_rows, room_next}
use Rattle.body_freedom.proofs.BodySlopeLaws.{passed_start, passed_room, passed_step, passed_slopes, passed_end}
use Rattle.body_freedom.proofs.body_slopes.slopes_on.Goals as goal

pub loop-j-init : goal.loop-j-init
loop-j-init c = (omega arith, passed_start _ _ _, block_no_rows _ _ _ _ _)

pub named_slopes-row-requires : goal.named_slopes-row-requires
named_slopes-row-requires c =
    let l = c.loop-j in
    let g = c.args in
    let fit = passed_room g.sheet.bytes.now g.sheet.scene g.i l.j l.row (omega arith) l.invariant.1 (poses_in l.s g.p g.sheet.scene.m) (poses_in g.s.now g.p g.sheet.scene.m) in
    record { place_in_bounds = omega arith; room = rw (zero-add (l.row * 6)) at (room_next g.s.now l.s _ _ _ _ _ _ _ l.row _ l.invariant.2.size fit c.requires.room) }

pub loop-j-preserved : goal.loop-j-preserved
loop-j-preserved c =
    let l = c.loop-j in
    let g = c.args in
    let y = c.named_slopes-row.ensures in
    let w = mul-le-mul_right 6 (l.invariant.1.rows.among (poses_in g.s.now g.p g.sheet.scene.m)) in (
      omega arith,
      passed_step g.sheet.bytes.now g.sheet.scene g.i l.j l.row (omega arith) l.invariant.1 _ _ y.next,
      passed_slopes g.sheet.bytes.now g.sheet.scene g.i l.j l.row (omega arith) l.invariant.1 g.s.now l.s _ _ _ g.p _ (omega arith) l.invariant.2 y,
    )

pub shape_of-s : goal.shape_of-s
shape_of-s c = c.loop-j.invariant.2.size

pub returns : goal.returns
returns c =
    let l = c.loop-j in
    let g = c.args in
    let e : l.j ≡ g.sheet.scene.k = omega arith in
    record { count = passed_end g.sheet.bytes.now g.sheet.scene g.i (poses_in g.s.now g.p g.sheet.scene.m) l.j l.row e l.invariant.1; block = l.invariant.2 }

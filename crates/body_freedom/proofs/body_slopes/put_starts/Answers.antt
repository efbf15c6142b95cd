-- `body_freedom::body_slopes::put_starts` meets its contract. The invariant: the poses of the bodies passed stand from p on, and with those to come they are
-- all of them. The measure is the bodies to come. Assumes nothing.
use mathlib.Core.Path.{◌≡◌, refl}
use native.Mathlib.Omega.{arith}
use Rattle.scene.proofs.SceneLaws.{growing_start, growing_end}
use Rattle.body_freedom.proofs.BodySlopeLaws.{starts_done, starts_step}
use Rattle.body_freedom.proofs.body_slopes.put_starts.Goals as goal

pub loop-i-init : goal.loop-i-init
loop-i-init c = (omega arith, growing_start _ _ _)

pub put_start-requires : goal.put_start-requires
put_start-requires c = let z = c.loop-i.invariant.1.kept.size in record { i_lt_m = omega arith; o_in_bounds = omega arith }

pub loop-i-preserved : goal.loop-i-preserved
loop-i-preserved c =
    let g = c.args in
    let l = c.loop-i in
    (omega arith, starts_step g.sheet.bytes.now g.sheet.scene g.s.now l.s _ g.p l.i _ (omega arith) l.invariant.1 c.put_start.ensures)

pub shape_of-s : goal.shape_of-s
shape_of-s c = c.loop-i.invariant.1.kept.size

pub returns : goal.returns
returns c =
    let g = c.args in
    let e : c.loop-i.i ≡ g.sheet.scene.m = omega arith in
    growing_end _ _ _ _ _ _ (starts_done g.sheet.bytes.now g.sheet.scene g.sheet.scene.m refl) (rw e at c.loop-i.invariant.1)

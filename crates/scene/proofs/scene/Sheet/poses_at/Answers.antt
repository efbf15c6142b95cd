-- `scene::scene::Sheet::poses_at` meets its contract. The invariant: the poses of the bodies passed stand from p on, and with those of the bodies to come they are
-- all of them. The measure is the bodies to come. Assumes nothing.
use mathlib.Core.Path.{◌≡◌, refl}
use native.Mathlib.Omega.{arith}
use Rattle.scene.proofs.SceneLaws.{growing_start, growing_end, poses_done, poses_step}
use Rattle.scene.proofs.scene.Sheet.poses_at.Goals as goal

pub loop-i-init : goal.loop-i-init
loop-i-init c = (omega arith, growing_start _ _ _)

pub put_body-requires : goal.put_body-requires
put_body-requires c = let z = c.loop-i.invariant.1.kept.size in record { i_lt_m = omega arith; n_in_bounds = omega arith; o_in_bounds = omega arith }

pub loop-i-preserved : goal.loop-i-preserved
loop-i-preserved c =
    let g = c.args in
    (omega arith, poses_step g.self.bytes.now g.self.scene g.s.now c.loop-i.s _ g.x g.p c.loop-i.i _ c.args.self.laid (omega arith) (omega arith) c.loop-i.invariant.1 c.put_body.ensures)

pub shape_of-s : goal.shape_of-s
shape_of-s c = c.loop-i.invariant.1.kept.size

pub returns : goal.returns
returns c =
    let g = c.args in
    let e : c.loop-i.i ≡ g.self.scene.m = omega arith in
    growing_end _ _ _ _ _ _ (poses_done g.self.bytes.now g.self.scene _ g.self.scene.m refl) (rw e at c.loop-i.invariant.1)

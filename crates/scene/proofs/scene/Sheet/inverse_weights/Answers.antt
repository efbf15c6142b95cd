-- `scene::scene::Sheet::inverse_weights` meets its contract. The invariant: the inverse weights of the bodies passed stand from w up to `at`, and with those to come
-- they are all of them. The measure is the bodies to come. Assumes nothing.
use mathlib.Core.Path.{◌≡◌}
use Prim.Native.Nat.{◌-◌}
use native.Mathlib.Omega.{arith}
use Rattle.relations.specs.Model.{body_number}
use Rattle.scene.proofs.SceneLaws.{growing_from, weights_room, weights_step, weights_done, weights_length, put_all}
use Rattle.scene.proofs.scene.Sheet.inverse_weights.Goals as goal

pub loop-i-init : goal.loop-i-init
loop-i-init c = (omega arith, omega arith, omega arith, growing_from _ _ _)

pub put_weights-at-requires : goal.put_weights-at-requires
put_weights-at-requires c =
    let g = c.args in
    let l = c.loop-i in
    let z = l.invariant.3.kept.size in
    let room = weights_room g.self.bytes.now g.self.scene g.weight (body_number g.drag) g.s.now l.s g.w l.at l.i c.args.self.laid (omega arith) l.invariant.1 l.invariant.2 (omega arith) l.invariant.3 in
    record { i_lt_m = omega arith; i_in_bounds = omega arith }

pub loop-i-preserved : goal.loop-i-preserved
loop-i-preserved c =
    let g = c.args in
    let l = c.loop-i in
    let z = l.invariant.3.kept.size in
    let room = weights_room g.self.bytes.now g.self.scene g.weight (body_number g.drag) g.s.now l.s g.w l.at l.i c.args.self.laid (omega arith) l.invariant.1 l.invariant.2 (omega arith) l.invariant.3 in
    let y = c.put_weights-at.ensures in
    let n = y.next in (
      omega arith,
      omega arith,
      omega arith,
      weights_step g.self.bytes.now g.self.scene g.weight (body_number g.drag) g.s.now l.s g.w l.at l.i c.args.self.laid (omega arith) l.invariant.1 l.invariant.2 (omega arith) l.invariant.3 _ _ y,
    )

pub shape_of-s : goal.shape_of-s
shape_of-s c = c.loop-i.invariant.3.kept.size

pub returns : goal.returns
returns c =
    let g = c.args in
    let l = c.loop-i in
    let e : l.i ≡ g.self.scene.m = omega arith in
    put_all _ _ g.w (l.at - g.w) g.self.scene.n _ _ (omega arith) (weights_done g.self.bytes.now g.self.scene g.weight (body_number g.drag) l.i e) (weights_length g.self.bytes.now g.self.scene g.weight (body_number g.drag) c.args.self.laid) l.invariant.3

-- `freedom::total::scale` meets its contract. The loop's invariant: the bodies to come lead to the same unknowns. Assumes nothing.
use Rattle.freedom.proofs.TotalLaws.{scaled_step, scaled_done}
use mathlib.Core.Path.{◌≡◌, refl, sym, ◌∙◌}
use native.Mathlib.Omega.{arith}
use Rattle.least_squares.specs.Memory.{part}
use Rattle.least_squares.proofs.MemoryLaws.{kept_refl}
use Rattle.freedom.proofs.total.scale.Goals as goal

pub loop-i-init : goal.loop-i-init
loop-i-init c = (omega arith, kept_refl _ _ _, refl)

pub scale_body-requires : goal.scale_body-requires
scale_body-requires c = let z = c.loop-i.invariant.1.size in record { i_lt_m = omega arith; n_in_bounds = omega arith }

pub loop-i-preserved : goal.loop-i-preserved
loop-i-preserved c =
    let g = c.args in
    let l = c.loop-i in
    let r = scaled_step g.sheet.bytes.now g.sheet.scene g.s.now l.s _ g.z l.i _ c.args.sheet.laid (omega arith) l.invariant.1 l.invariant.2 c.scale_body.ensures in
    (omega arith, r.0, r.1)

pub shape_of-s : goal.shape_of-s
shape_of-s c = c.loop-i.invariant.1.size

pub returns : goal.returns
returns c =
    let g = c.args in
    let l = c.loop-i in
    let e : l.i ≡ g.sheet.scene.m = omega arith in
    record { holds = sym (scaled_done g.sheet.bytes.now g.sheet.scene (part l.s g.z g.sheet.scene.n) l.i e) ∙ l.invariant.2; kept = l.invariant.1 }

-- `slopes::anew_slopes::slopes` meets its contract. The invariant: the columns of the bodies passed are worked, the others are +0, and outside the slopes nothing has changed. The measure
-- is the bodies to come. Assumes nothing.
use mathlib.Core.Path.{◌≡◌, subst, ◌∙◌}
use Prim.Native.Nat.{◌+◌}
use native.Mathlib.Omega.{arith}
use lib.ListN.{length}
use Rattle.scene.specs.Scene.{scene_of}
use Rattle.slopes.proofs.AnewLaws.{given_more, given_among, given_all}
use Rattle.slopes.proofs.BodyLaws.{Reached, apart_same, poses_start, reached_start, reached_standing, reached_step, slopes_is}
use Rattle.slopes.proofs.anew_slopes.slopes.Goals as goal

pub poses_at-requires : goal.poses_at-requires
poses_at-requires c =
    let size = c.clear.ensures.kept.size in
    record { n_bound = omega arith; m_in_bounds = omega arith }

pub loop-i-init : goal.loop-i-init
loop-i-init c =
    let g = c.args in
    (omega arith, reached_start g.sheet.bytes.now g.sheet.scene g.at g.s.now _ _ c.requires.apart c.clear.ensures c.poses_at.ensures)

pub anew_body-requires : goal.anew_body-requires
anew_body-requires c =
    let sized : length c.poses_at.new.s ≡ length c.args.s.now =
    c.poses_at.ensures.kept.size ∙ c.clear.ensures.kept.size in
    let l = c.loop-i in
    let g = c.args in
    let start = poses_start g.sheet.bytes.now g.sheet.scene g.at g.s.now _ _ c.requires.apart c.clear.ensures c.poses_at.ensures in
    record { apart = apart_same (l.invariant.1.size ∙ sized) c.requires.apart; i_lt_m = omega arith; standing = reached_standing _ g.sheet.scene g.at _ c.requires.apart _ l.s _ start l.invariant.1 }

pub loop-i-preserved : goal.loop-i-preserved
loop-i-preserved c =
    let l = c.loop-i in
    let g = c.args in
    let sc = scene_of g.sheet.bytes.now g.sheet.scene in (
      omega arith,
      reached_step sc g.sheet.scene g.at _ c.requires.apart _ l.s _ _ _ (given_among g.sheet.bytes.now g.sheet.scene (l.i + 1) c.args.sheet.laid) (given_more sc l.i) l.invariant.1 c.anew_body.ensures,
    )

pub shape_of-s : goal.shape_of-s
shape_of-s c =
    let sized : length c.poses_at.new.s ≡ length c.args.s.now =
    c.poses_at.ensures.kept.size ∙ c.clear.ensures.kept.size in
    c.loop-i.invariant.1.size ∙ sized

pub returns : goal.returns
returns c =
    let l = c.loop-i in
    let g = c.args in
    let sc = scene_of g.sheet.bytes.now g.sheet.scene in
    let e : l.i ≡ g.sheet.scene.m = omega arith in
    slopes_is g.sheet.bytes.now g.sheet.scene g.at g.s.now _ _ c.requires.apart c.clear.ensures c.poses_at.ensures l.s
    (subst (Reached sc g.sheet.scene g.at _ l.s) (given_all g.sheet.bytes.now g.sheet.scene l.i c.args.sheet.laid e) l.invariant.1)

-- `freedom::total::slopes` meets its contract. The invariant: the columns of the bodies passed are written, those to come are +0, and the poses are those at the unknowns. The measure is
-- the bodies to come. Assumes nothing.
use mathlib.Core.Path.{◌≡◌, refl, ◌∙◌}
use native.Mathlib.Omega.{arith}
use lib.ListN.{length}
use Rattle.scene.specs.Scene.{scene_of}
use Rattle.slopes.specs.AnewSlopes.{given}
use Rattle.slopes.proofs.AnewLaws.{given_all}
use Rattle.freedom.proofs.TotalLaws.{still_apart}
use Rattle.freedom.proofs.ColumnLaws.{sloped_start, sloped_step, sloped_end}
use Rattle.freedom.proofs.total.slopes.Goals as goal

pub scale-requires : goal.scale-requires
scale-requires c = record { n_in_bounds = omega arith }

pub poses_at-requires : goal.poses_at-requires
poses_at-requires c =
    let z = c.scale.ensures.kept.size in
    record { n_bound = omega arith; m_in_bounds = omega arith }

pub loop-i-init : goal.loop-i-init
loop-i-init c =
    let g = c.args in
    (omega arith, refl, sloped_start g.sheet.bytes.now g.sheet.scene g.parts g.s.now _ _ c.args.sheet.laid c.requires.total_apart c.requires.n_value c.requires.n_value_2 c.scale.ensures c.poses_at.ensures)

pub body_columns-requires : goal.body_columns-requires
body_columns-requires c =
    let posed-size : length c.poses_at.new.s ≡ length c.args.s.now =
    c.poses_at.ensures.kept.size ∙ c.scale.ensures.kept.size in
    let l = c.loop-i in
    record { total_apart = still_apart _ _ _ _ (l.invariant.1 ∙ posed-size) c.requires.total_apart; i_lt_m = omega arith; waiting = l.invariant.2.waiting }

pub loop-i-preserved : goal.loop-i-preserved
loop-i-preserved c =
    let l = c.loop-i in
    let g = c.args in
    let y = c.body_columns.ensures in
    (omega arith, y.size ∙ l.invariant.1, sloped_step (scene_of g.sheet.bytes.now g.sheet.scene) g.sheet.scene g.parts _ c.requires.total_apart l.s _ _ _ y l.invariant.2)

pub shape_of-s : goal.shape_of-s
shape_of-s c =
    let posed-size : length c.poses_at.new.s ≡ length c.args.s.now =
    c.poses_at.ensures.kept.size ∙ c.scale.ensures.kept.size in
    c.loop-i.invariant.1 ∙ posed-size

pub returns : goal.returns
returns c =
    let posed-size : length c.poses_at.new.s ≡ length c.args.s.now =
    c.poses_at.ensures.kept.size ∙ c.scale.ensures.kept.size in
    let l = c.loop-i in
    let g = c.args in
    let sc = scene_of g.sheet.bytes.now g.sheet.scene in
    let e : l.i ≡ g.sheet.scene.m = omega arith in
    sloped_end sc g.sheet.scene g.parts g.s.now l.s (given sc l.i) c.requires.total_apart c.requires.n_value (l.invariant.1 ∙ posed-size) (given_all g.sheet.bytes.now g.sheet.scene l.i c.args.sheet.laid e) l.invariant.2

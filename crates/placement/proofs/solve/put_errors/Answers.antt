-- `placement::solve::put_errors` meets its contract. The invariant: the errors of the relations passed stand at the front. The measure is the relations to come. Assumes
-- nothing.
use mathlib.Core.Path.{◌≡◌}
use native.Mathlib.Omega.{arith}
use Rattle.scene.specs.Scene.{poses_in}
use Rattle.placement.proofs.SolveLaws.{put_none, put_entry, list_none, list_more, error_at, error_is, errors_are}
use Rattle.scene.proofs.SceneLaws.{put_front}
use Rattle.placement.proofs.solve.put_errors.Goals as goal

pub loop-j-init : goal.loop-j-init
loop-j-init c = (omega arith, rw (list_none (error_at _ _ _)) (put_none _ _))

pub offset_bounds-errors-j : goal.offset_bounds-errors-j
offset_bounds-errors-j c = let z = c.loop-j.invariant.1.kept.size in omega arith

pub bounds-errors-j : goal.bounds-errors-j
bounds-errors-j c = let z = c.loop-j.invariant.1.kept.size in omega arith

pub loop-j-preserved : goal.loop-j-preserved
loop-j-preserved c =
    let at = c.loop-j in
    let g = c.args in
    let q = poses_in g.s.now g.p g.sheet.scene.m in
    let y = at.invariant.1 in
    let z = y.kept.size in
    let e = error_is g.sheet.bytes.now g.sheet.scene q at.j _ _ _ c.relation-rel.ensures c.rel_rows.ensures c.max_abs.ensures in
    (omega arith, put_entry _ at.errors 0 at.j at.j _ _ _ (omega arith) (omega arith) (list_more (error_at g.sheet.bytes.now g.sheet.scene q) at.j _ e) y)

pub shape_of-errors : goal.shape_of-errors
shape_of-errors c = c.loop-j.invariant.1.kept.size

pub returns : goal.returns
returns c =
    let g = c.args in
    let e : c.loop-j.j ≡ g.sheet.scene.k = omega arith in
    put_front _ _ _ _ (rw (errors_are g.sheet.bytes.now g.sheet.scene (poses_in g.s.now g.p g.sheet.scene.m)) at (rw e at c.loop-j.invariant.1))

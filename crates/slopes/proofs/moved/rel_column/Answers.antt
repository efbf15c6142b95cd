-- `slopes::moved::rel_column` meets its contract: the rows ahead and the rows behind are the relation's at the two poses (`up`, `down`), as many as at any poses, and at most seven,
-- so the slopes that are put are those of its rows. Assumes nothing.
use mathlib.Core.Path.{◌≡◌, sym, ap, ◌∙◌}
use native.Mathlib.Omega.{arith}
use lib.Ieee.{Float, nan}
use lib.ListN.{length, get_or, set}
use Rattle.relations.specs.Geometry.{Pose}
use Rattle.relations.specs.Model.{rel_of}
use Rattle.relations.specs.Rows.{pack}
use Rattle.least_squares.specs.Lm.{slope_of}
use Rattle.least_squares.proofs.TableLaws.{in_rows}
use Rattle.scene.specs.Solve.{rows_at}
use Rattle.scene.specs.Scene.{poses_in}
use Rattle.slopes.specs.Moved.{poses_ahead, poses_behind}
use Rattle.slopes.proofs.MovedLaws.{few_rows, packed_count, packed_rows, strided_as}
use Rattle.slopes.proofs.moved.rel_column.Goals as goal

pub overflow_add-o : goal.overflow_add-o
overflow_add-o c = let r = c.requires.room in omega arith

pub put_slopes-requires : goal.put_slopes-requires
put_slopes-requires c =
    let down : let g = c.args in c.rel_rows_moved-minus.result ≡ pack (rows_at (poses_behind (poses_in g.s.now g.p g.m) g.i g.moved.now g.e) (rel_of g.rel)) =
    let g = c.args in
    c.rel_rows_moved-minus.ensures ∙ ap (λ (q : Pose Float). pack (rows_at (set (poses_in g.s.now g.p g.m) g.i q) (rel_of g.rel))) c.pose_at-2.ensures in
    let up : let g = c.args in c.rel_rows_moved-plus.result ≡ pack (rows_at (poses_ahead (poses_in g.s.now g.p g.m) g.i g.moved.now g.e) (rel_of g.rel)) =
    let g = c.args in
    c.rel_rows_moved-plus.ensures ∙ ap (λ (q : Pose Float). pack (rows_at (set (poses_in g.s.now g.p g.m) g.i q) (rel_of g.rel))) c.pose_at.ensures in
    let g = c.args in
    let room = c.requires.room in
    let poses = poses_in g.s.now g.p g.m in
    let a = packed_count _ _ poses (rel_of g.rel) (up) in
    let b = packed_count _ _ poses (rel_of g.rel) (down) in
    let few = few_rows poses (rel_of g.rel) in
    record { n_bound = (omega arith, b ∙ sym a, omega arith); by_index = λ r h. let w = in_rows r g.e g.n (length (rows_at poses (rel_of g.rel))) (omega arith) (omega arith) in omega arith }

pub returns : goal.returns
returns c =
    let down : let g = c.args in c.rel_rows_moved-minus.result ≡ pack (rows_at (poses_behind (poses_in g.s.now g.p g.m) g.i g.moved.now g.e) (rel_of g.rel)) =
    let g = c.args in
    c.rel_rows_moved-minus.ensures ∙ ap (λ (q : Pose Float). pack (rows_at (set (poses_in g.s.now g.p g.m) g.i q) (rel_of g.rel))) c.pose_at-2.ensures in
    let up : let g = c.args in c.rel_rows_moved-plus.result ≡ pack (rows_at (poses_ahead (poses_in g.s.now g.p g.m) g.i g.moved.now g.e) (rel_of g.rel)) =
    let g = c.args in
    c.rel_rows_moved-plus.ensures ∙ ap (λ (q : Pose Float). pack (rows_at (set (poses_in g.s.now g.p g.m) g.i q) (rel_of g.rel))) c.pose_at.ensures in
    let g = c.args in
    let poses = poses_in g.s.now g.p g.m in
    let a = packed_rows _ _ (rel_of g.rel) (up) in
    let b = packed_rows _ _ (rel_of g.rel) (down) in
    strided_as _ _ _ _ _ _ _ _ (packed_count _ _ poses (rel_of g.rel) (up)) (λ r h z. slope_of (get_or (a z) r nan) (get_or (b z) r nan) g.h) c.put_slopes.ensures

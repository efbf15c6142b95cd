-- `slopes::moved::named_rel` meets its contract: where the relation names the body, the slopes are `rel_columns`'; where it does not, its rows stay as the body moves, and +0 is their
-- slope (`named_not`). Assumes nothing.
use mathlib.Core.Path.{refl, sym, ap, ◌∙◌}
use lib.ListN.{length}
use Rattle.relations.specs.Model.{Rel}
use Rattle.scene.specs.Solve.{rows_at}
use Rattle.scene.specs.Scene.{poses_in}
use Rattle.slopes.proofs.MovedLaws.{named_not, rel_columns_is, room_as}
use Rattle.slopes.proofs.moved.named_rel.Goals as goal

pub rel_columns-requires : goal.rel_columns-requires
rel_columns-requires c =
    let g = c.args in
    room_as g.s.now _ _ _ _ _ _ _ _ _ refl (ap (λ (w : Rel). length (rows_at (poses_in g.s.now g.p g.m) w)) c.rel_at-rel.ensures) c.requires.room

pub returns-then-names : goal.returns-then-names
returns-then-names c = rel_columns_is _ _ _ _ _ _ _ _ _ _ _ _ c.rel_at-rel.ensures c.row_count.ensures c.rel_columns.ensures

pub returns : goal.returns
returns c =
    let g = c.args in
    let poses = poses_in g.s.now g.p g.m in
    let e = c.rel_at-rel.ensures in
    let other = sym c.names.ensures ∙ c.if-names.false in
    rel_columns_is _ _ _ _ _ _ _ _ _ _ _ _ e c.row_count-2.ensures
    (named_not g.s.now g.moved.now g.steps g.o g.n g.i poses _ other c.requires.steps (λ r d h l. c.requires.clear r d (rw (ap (λ (w : Rel). length (rows_at poses w)) (sym e)) h) l))

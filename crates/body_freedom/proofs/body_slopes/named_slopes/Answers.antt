-- `body_freedom::body_slopes::named_slopes` meets its contract: where the relation names the body, the slopes are `rel_columns`'; where it does not, it has no rows here. Assumes nothing.
use mathlib.Core.Path.{◌≡◌, refl, sym, ap, ◌∙◌}
use mathlib.Core.Bool.{true}
use mathlib.Core.List.{List}
use Prim.Native.Nat.{ℕ}
use native.Mathlib.Omega.{arith}
use lib.Ieee.{Float}
use Rattle.relations.specs.Geometry.{Pose}
use lib.ListN.{length}
use Rattle.relations.specs.Model.{Rel, rel_of}
use Rattle.judging.proofs.CountLaws.{residual_length}
use Rattle.records.specs.Record.{rel_at}
use Rattle.scene.specs.Solve.{names, rows_at}
use Rattle.scene.specs.Scene.{poses_in}
use Rattle.slopes.proofs.MovedLaws.{room_as}
use Rattle.body_freedom.specs.BodySlopes.{named_rows}
use Rattle.body_freedom.proofs.BodySlopeLaws.{named_yes, named_slopes_yes, named_slopes_no}
use Rattle.body_freedom.proofs.body_slopes.named_slopes.Goals as goal

-- the rows of a relation that names the body are all that it has
rows_are : (r w : Rel) (i : ℕ) (poses : List (Pose Float)) → r ≡ w → names r i ≡ true → length (rows_at poses r) ≡ length (named_rows w i poses)
rows_are r w i poses h e = ap length (sym (named_yes r i poses e)) ∙ ap (λ (q : Rel). length (named_rows q i poses)) h

pub rel_columns-requires : goal.rel_columns-requires
rel_columns-requires c =
    let g = c.args in
    room_as g.s.now _ _ _ _ _ _ _ _ _ refl (rows_are (rel_of c.rel_at-rel.result) (rel_at c.args.sheet.now c.args.place) c.args.i (poses_in c.args.s.now c.args.p c.args.m) c.rel_at-rel.ensures (sym c.names.ensures ∙ c.if-names.true)) c.requires.room

pub overflow_add-result : goal.overflow_add-result
overflow_add-result c =
    let n = rows_are (rel_of c.rel_at-rel.result) (rel_at c.args.sheet.now c.args.place) c.args.i (poses_in c.args.s.now c.args.p c.args.m) c.rel_at-rel.ensures (sym c.names.ensures ∙ c.if-names.true) in
    let k : c.row_count.result ≡ length (rows_at (poses_in c.args.s.now c.args.p c.args.m) (rel_of c.rel_at-rel.result)) = c.row_count.ensures ∙ sym (residual_length _ _ _ _ _ _) in
    omega arith

pub returns-then-names : goal.returns-then-names
returns-then-names c = named_slopes_yes _ _ _ _ _ _ _ _ _ _ _ c.rel_at-rel.ensures (sym c.names.ensures ∙ c.if-names.true) c.row_count.ensures c.rel_columns.ensures

pub returns : goal.returns
returns c = named_slopes_no _ _ _ _ _ _ _ _ _ c.rel_at-rel.ensures (sym c.names.ensures ∙ c.if-names.false)

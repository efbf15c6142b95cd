-- `scene::scene::Sheet::put_relation` meets its contract: the rows are those of the definition, packed. They are at most seven (`rel_small`), so packing loses none, and what
-- `put_rows` puts is the list itself (`packed_next`). Assumes nothing.
use mathlib.Core.Path.{ap, ◌∙◌}
use native.Mathlib.Omega.{arith}
use Rattle.scene.specs.Scene.{poses_in}
use Rattle.scene.specs.Solve.{rows_at}
use Rattle.relations.specs.Rows.{pack}
use Rattle.relations.specs.Model.{Rel}
use Rattle.scene.proofs.SceneLaws.{rel_small, packed, packed_next}
use Rattle.scene.proofs.scene.Sheet.put_relation.Goals as goal

pub put_rows-requires : goal.put_rows-requires
put_rows-requires c =
    let g = c.args in
    let q = poses_in g.s.now g.p g.self.scene.m in
    let e = c.rel_rows-rows.ensures ∙ ap (λ (w : Rel). pack (rows_at q w)) c.relation-rel.ensures in
    let n = packed _ _ e in
    let h = rel_small g.self.bytes.now g.self.scene q g.j in
    record { n_bound = omega arith; n_in_bounds = omega (arith, c.requires) }

pub shape_of-s : goal.shape_of-s
shape_of-s c = c.put_rows.ensures.put.kept.size

pub returns : goal.returns
returns c =
    let g = c.args in
    let q = poses_in g.s.now g.p g.self.scene.m in
    let e = c.rel_rows-rows.ensures ∙ ap (λ (w : Rel). pack (rows_at q w)) c.relation-rel.ensures in
    packed_next _ _ _ _ _ _ e (rel_small g.self.bytes.now g.self.scene q g.j) c.put_rows.ensures

-- `scene::scene::named` meets its contract. The invariant: no relation passed names the body, so the relations to come decide. The measure is the relations
-- to come. Assumes nothing.
use mathlib.Core.Path.{refl, sym, ap, ◌∙◌}
use native.Mathlib.Omega.{arith}
use Rattle.scene.specs.Solve.{names}
use Rattle.relations.specs.Model.{Rel}
use Rattle.scene.proofs.LayoutLaws.{named_hit, named_miss, named_done}
use Rattle.scene.proofs.scene.named.Goals as goal

pub loop-j-init : goal.loop-j-init
loop-j-init c = (omega arith, refl)

pub returns-then-names : goal.returns-then-names
returns-then-names c =
    let g = c.args in
    let e = ap (λ (q : Rel). names q g.i) (sym c.rel_at-rel.ensures) ∙ sym c.names.ensures ∙ c.if-names.true in
    sym (named_hit g.sheet.now g.rels g.k g.i c.loop-j.j (omega arith) e c.loop-j.invariant.1)

pub loop-j-preserved : goal.loop-j-preserved
loop-j-preserved c =
    let g = c.args in
    let e = ap (λ (q : Rel). names q g.i) (sym c.rel_at-rel.ensures) ∙ sym c.names.ensures ∙ c.if-names.false in
    (omega arith, named_miss g.sheet.now g.rels g.k g.i c.loop-j.j (omega arith) e c.loop-j.invariant.1)

pub returns : goal.returns
returns c = let g = c.args in sym (named_done g.sheet.now g.rels g.k g.i c.loop-j.j (omega arith) c.loop-j.invariant.1)

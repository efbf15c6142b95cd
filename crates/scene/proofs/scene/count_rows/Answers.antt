-- `scene::scene::count_rows` meets its contract. The invariant: the rows counted and the rows to come are all rows, wherever the bodies stand. The measure is
-- the relations to come. Assumes nothing.
use mathlib.Core.Path.{ap, ◌∙◌}
use Prim.Native.Nat.{◌≤◌}
use native.Mathlib.Omega.{arith}
use Rattle.judging.proofs.CountLaws.{row_count_le}
use Rattle.judging.specs.Count.{row_count}
use Rattle.relations.specs.Model.{Rel}
use Rattle.scene.proofs.LayoutLaws.{count_step, count_end}
use Rattle.scene.proofs.scene.count_rows.Goals as goal

pub loop-j-init : goal.loop-j-init
loop-j-init c = (omega arith, omega arith, λ poses. omega arith)

pub overflow_add-rows : goal.overflow_add-rows
overflow_add-rows c = let h : c.row_count-rows.result ≤ 7 = rw c.row_count-rows.ensures (row_count_le _ _ _) in omega arith

pub loop-j-preserved : goal.loop-j-preserved
loop-j-preserved c =
    let g = c.args in
    let l = c.loop-j in
    let h : c.row_count-rows.result ≤ 7 = rw c.row_count-rows.ensures (row_count_le _ _ _) in
    let e = c.row_count-rows.ensures ∙ ap (λ (q : Rel). row_count q.law q.a.prim q.b.prim) c.rel_at-rel.ensures in
    (omega arith, omega arith, count_step g.sheet.now g.rels g.k l.j l.rows c.row_count-rows.result (omega arith) e l.invariant.2)

pub returns : goal.returns
returns c = let g = c.args in count_end g.sheet.now g.rels g.k c.loop-j.j c.loop-j.rows (omega arith) c.loop-j.invariant.2

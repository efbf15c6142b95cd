-- `span::without` meets its contract. The loop's invariant: u and the vectors left give what all do. Assumes nothing.
use native.Mathlib.Omega.{arith}
use mathlib.Core.Path.{refl, sym, ◌∙◌}
use Rattle.vectors.specs.Vec.{vec}
use Rattle.spans.proofs.SpanLaws.{without_step, without_end}
use Rattle.spans.proofs.span.without.Goals as goal

pub loop-b-init : goal.loop-b-init
loop-b-init c = refl

pub loop-b-preserved : goal.loop-b-preserved
loop-b-preserved c =
    let l = c.loop-b in
    let e = without_step _ l.b-index (vec l.u) (vec c.mul.result) (vec c.sub-u.result) c.dot.result (omega arith) c.dot.ensures c.mul.ensures c.sub-u.ensures in
    sym e ∙ l.invariant

pub returns : goal.returns
returns c =
    let l = c.loop-b in
    sym (without_end _ l.b-index (vec l.u) (omega arith)) ∙ l.invariant

-- `span::longest` meets its contract. The loop's invariant: m and the vectors left give what all do. Assumes nothing.
use native.Mathlib.Omega.{arith}
use mathlib.Core.Path.{sym, ◌∙◌}
use Rattle.spans.proofs.SpanLaws.{longest_step, longest_end}
use Rattle.spans.proofs.span.longest.Goals as goal

pub loop-v-preserved : goal.loop-v-preserved
loop-v-preserved c =
    let l = c.loop-v in
    let e = longest_step c.args.vs.now l.v-index l.m (omega arith) in
    rw (c.max-m.ensures, c.len.ensures) (sym e ∙ l.invariant)

pub returns : goal.returns
returns c =
    let l = c.loop-v in
    sym (longest_end c.args.vs.now l.v-index l.m (omega arith)) ∙ l.invariant

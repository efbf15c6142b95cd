-- `span::span_basis` meets its contract. The loop's invariant: `out` is the basis after the first vectors of the sorted ones. Assumes nothing.
use native.Mathlib.Omega.{arith}
use mathlib.Core.Path.{refl, sym}
use mathlib.Core.List.{[]}
use lib.ListN.{take}
use lib.Ieee.{binary64, mul}
use Rattle.spans.specs.Span.{joined}
use Rattle.spans.specs.Basis.{first}
use Rattle.spans.proofs.SpanLaws.{whole_of, span_step, span_none, span_some}
use Rattle.spans.proofs.span.span_basis.Goals as goal

pub returns-then-most : goal.returns-then-most
returns-then-most c = sym (span_none (first c.args.k c.args.vs) c.args.rel c.longest-most.result c.longest-most.ensures c.if-most.true)

pub loop-v-init : goal.loop-v-init
unfolding joined
loop-v-init c = refl

pub join-out-requires : goal.join-out-requires
join-out-requires c =
    let l = c.loop-v in
    whole_of l.out (joined (mul binary64 c.args.rel c.longest-most.result) [] (first l.v-index c.sort.new.vs)) l.invariant

pub loop-v-preserved : goal.loop-v-preserved
loop-v-preserved c =
    let l = c.loop-v in
    let least = mul binary64 c.args.rel c.longest-most.result in
    span_step least c.sort.new.vs l.v-index l.out c.join-out.result (omega arith) l.invariant c.join-out.ensures

pub returns : goal.returns
returns c =
    let l = c.loop-v in
    let most = c.longest-most in
    span_some (take c.args.k c.args.vs) c.sort.new.vs c.args.rel most.result l.out l.v-index most.ensures c.if-most.false c.sort.ensures (omega arith) l.invariant

-- `span::sort` meets its contract. The loop's invariant: the first i vectors are sorted, the others untouched. Assumes nothing.
use Prim.Native.Nat.{◌≤◌}
use native.Mathlib.Omega.{arith}
use mathlib.Core.Path.{◌≡◌, ◌∙◌}
use mathlib.Core.List.{append-nil}
use lib.ListN.{length, drop_of_length-le}
use lib.Seq.{take_all}
use Rattle.spans.specs.Basis.{longer3, past3}
use Rattle.eigen.proofs.Sorting.{sorted_start, sorted_step, sorted_end}
use Rattle.spans.proofs.span.sort.Goals as goal

pub loop-i-init : goal.loop-i-init
loop-i-init c = sorted_start longer3 past3 c.args.vs.now

pub loop-i-preserved : goal.loop-i-preserved
loop-i-preserved c =
    c.sink.ensures ∙ rw c.loop-i.invariant (sorted_step longer3 past3 c.args.vs.now c.loop-i.i (omega arith))

pub returns : goal.returns
returns c =
    let vs = c.args.vs.now in
    let e : c.loop-i.i ≡ length vs = omega arith in
    let all : length vs ≤ length vs = omega arith in
    rw (c.loop-i.invariant, e, sorted_end longer3 past3 vs (length vs), take_all (length vs) vs all, drop_of_length-le vs all, append-nil)

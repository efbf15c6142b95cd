-- `freedom::total::largest` meets its contract. The loop's invariant: the values to come lead to the same largest. Assumes nothing.
use Rattle.freedom.proofs.TotalLaws.{largest_step, largest_done}
use mathlib.Core.Path.{◌≡◌, refl, sym, ap, ◌∙◌}
use Prim.Native.Nat.{◌+◌}
use native.Mathlib.Omega.{arith}
use lib.ListN.{length, drop}
use Rattle.freedom.specs.Total.{largest_of}
use Rattle.freedom.proofs.total.largest.Goals as goal

pub loop-v-init : goal.loop-v-init
loop-v-init c = (omega arith, refl)

pub loop-v-preserved : goal.loop-v-preserved
loop-v-preserved c =
    let l = c.loop-v in
    let v = c.args.vals.now in
    (omega arith, ap (λ m. largest_of m (drop (l.v-index + 1) v)) c.max-m.ensures ∙ sym (largest_step l.m v l.v-index (omega arith)) ∙ l.invariant.1)

pub returns : goal.returns
returns c =
    let l = c.loop-v in
    let v = c.args.vals.now in
    let e : l.v-index ≡ length v = omega arith in
    sym (largest_done l.m v l.v-index e) ∙ l.invariant.1

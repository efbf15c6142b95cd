-- `eigen::forward`: the pair changes places with the one before it, as long as it stands before that. The loop's invariant: moving the pair at j on leads to the same end. Assumes nothing.
use mathlib.Core.Path.{◌≡◌, refl, sym, ◌∙◌}
use Prim.Native.Nat.{◌+◌, ◌-◌}
use native.Mathlib.Omega.{arith}
use lib.Ieee.{nan}
use Rattle.std.proofs.lemmas.List.Edits.{swap_is}
use Rattle.eigen.specs.EigenMemory.{held, forward}
use Rattle.eigen.proofs.EigenLaws.{swap_rows_of}
use Rattle.eigen.proofs.EigenSortLaws.{forward_stop, forward_on}
use Rattle.eigen.proofs.eigen.forward.Goals as goal

pub loop-j-init : goal.loop-j-init
loop-j-init c = refl

pub loop-j-preserved : goal.loop-j-preserved
loop-j-preserved c =
    let l = c.loop-j in
    let rows = c.requires.rows in
    let k : l.j - 1 + 1 ≡ l.j = omega arith in
    let t = c.swap_columns in
    let moved = swap_rows_of _ _ (record { size = l.auto.v ∙ rows.size; within = rows.within }) t.ensures in
    let swapped = swap_is l.vals (l.j - 1) (l.j - 1 + 1) nan (omega (arith, l.auto.vals)) (omega (arith, l.auto.vals)) in
    let h = forward_on c.args.n l.j (held l.vals l.v) c.loop-j-test.true (rw k at (sym c.before-in-loop-j.ensures ∙ c.if-not-before.false)) in
    rw (moved, c.swap.ensures.after, ← swapped, k) (sym h ∙ l.invariant)

pub returns-then-not-before : goal.returns-then-not-before
returns-then-not-before c =
    let l = c.loop-j in
    let k : l.j - 1 + 1 ≡ l.j = omega arith in
    sym (forward_stop c.args.n l.j (held l.vals l.v) c.loop-j-test.true (rw k at (sym c.before-in-loop-j.ensures ∙ c.if-not-before.true))) ∙ l.invariant

pub returns-after-loop-j : goal.returns-after-loop-j
unfolding forward
returns-after-loop-j c =
    let e : c.loop-j.j ≡ 0 = omega arith in
    rw e at c.loop-j.invariant

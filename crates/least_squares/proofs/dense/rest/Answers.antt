-- `rest` is `rest_to` on the system in memory. The loop's invariant: t is what is left after the columns before c. Assumes nothing.
use mathlib.Core.Path.{◌≡◌, sym}
use Prim.Native.Nat.{suc, ◌+◌, ◌-◌}
use native.Mathlib.Omega.{arith}
use Rattle.least_squares.proofs.DenseLaws.{rest_first, rest_next}
use Rattle.least_squares.proofs.dense.rest.Goals as goal

pub loop-c-init : goal.loop-c-init
loop-c-init c =
    let a = c.args in
    let e : a.r + 1 - (a.r + 1) ≡ 0 = omega arith in
    (omega arith, omega arith, rw e (sym (rest_first a.s.now a.n a.r (omega arith))))

pub loop-c-preserved : goal.loop-c-preserved
loop-c-preserved c =
    let a = c.args in
    let e : c.loop-c.c + 1 - (a.r + 1) ≡ suc (c.loop-c.c - (a.r + 1)) = omega arith in
    let g : a.r + 1 + (c.loop-c.c - (a.r + 1)) ≡ c.loop-c.c = omega arith in
    (omega arith, omega arith, rw (e, rest_next a.s.now a.n a.r (c.loop-c.c - (a.r + 1)) (omega arith), g, ← c.loop-c.invariant.2))

pub returns : goal.returns
returns c =
    let a = c.args in
    let e : c.loop-c.c - (a.r + 1) ≡ a.n - (a.r + 1) = omega arith in
    rw (← e) c.loop-c.invariant.2

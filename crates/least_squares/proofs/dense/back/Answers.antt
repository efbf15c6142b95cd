-- `back` is `back_to`. The loop's invariant: memory holds the system with the last k unknowns found. Assumes nothing.
use mathlib.Core.Path.{◌≡◌, refl, subst}
use Prim.Native.Nat.{ℕ}
use native.Mathlib.Omega.{arith}
use native.Mathlib.Numerals.{add-one}
use Rattle.least_squares.specs.Lm.{back_to}
use Rattle.least_squares.specs.Dense.{system_at, Became}
use Rattle.least_squares.proofs.MemoryLaws.{kept_refl}
use Rattle.least_squares.proofs.DenseLaws.{backed}
use Rattle.least_squares.proofs.dense.back.Goals as goal

pub loop-k-init : goal.loop-k-init
unfolding back_to
loop-k-init c = (omega arith, record { system = refl; kept = kept_refl _ 0 _ })

pub loop-k-preserved : goal.loop-k-preserved
loop-k-preserved c =
    let a = c.args in
    let e = add-one c.loop-k.k in
    (omega arith, rw e (backed a.s.now c.loop-k.s a.n c.loop-k.k c.rest-t.result (omega arith) c.loop-k.invariant.1 (rw e at c.rest-t.ensures)))

pub returns : goal.returns
returns c =
    let a = c.args in
    let e : c.loop-k.k ≡ a.n = omega arith in
    subst (λ (w : ℕ). Became a.s.now c.loop-k.s a.n (back_to (system_at a.s.now a.n) a.n w)) e c.loop-k.invariant.1

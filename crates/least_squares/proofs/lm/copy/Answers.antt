-- `least_squares::lm::copy`: after i turns the first i doubles are copied and all else is kept, so the double read next is still the one at entry. Assumes nothing.
use Rattle.least_squares.proofs.LmLaws.{copy_step}
use Rattle.least_squares.proofs.MemoryLaws.{kept_refl, kept_set}
use native.Mathlib.Omega.{arith}
use native.Mathlib.Numerals.{add-one}
use mathlib.Core.Path.{◌≡◌, refl}
use Prim.Native.Nat.{◌+◌}
use Rattle.least_squares.proofs.lm.copy.Goals as goal

pub loop-i-init : goal.loop-i-init
loop-i-init c = (omega arith, kept_refl _ _ _, refl)

pub loop-i-preserved : goal.loop-i-preserved
loop-i-preserved c =
    let s = c.loop-i.s in
    let i = c.loop-i.i in
    let o = c.args.s.now in
    let a = c.args.a in
    let b = c.args.b in
    let k = c.args.k in
    let kept = c.loop-i.invariant.1 in (
      omega arith,
      kept_set o s b (b + k) (b + i) _ (omega arith) (omega arith) kept,
      rw add-one (copy_step o s a b k i (omega arith) (omega arith) (omega arith) kept c.loop-i.invariant.2),
    )

pub returns : goal.returns
returns c =
    let e : c.loop-i.i ≡ c.args.k = omega arith in
    record { copy = rw e at c.loop-i.invariant.2; kept = c.loop-i.invariant.1 }

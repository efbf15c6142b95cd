-- `eigen::diagonal` meets its contract. The loop's invariant: the first i entries are copied. Assumes nothing.
use mathlib.Core.Path.{◌≡◌, refl}
use Prim.Native.Nat.{◌≤◌}
use native.Mathlib.Omega.{arith}
use native.Mathlib.Numerals.{add-one}
use lib.ListN.{length, length-set, drop_of_length-le}
use mathlib.Core.List.{[], append-nil}
use Rattle.eigen.specs.EigenMemory.{diagonal}
use Rattle.eigen.proofs.EigenLaws.{write_next, length_grows}
use Rattle.eigen.proofs.EigenSortLaws.{diagonal_grows}
use Rattle.eigen.proofs.eigen.diagonal.Goals as goal

pub loop-i-init : goal.loop-i-init
unfolding diagonal
loop-i-init c = (omega arith, refl, refl)

pub loop-i-preserved : goal.loop-i-preserved
unfolding diagonal
loop-i-preserved c =
    let l = c.loop-i in
    let a = c.args in
    let d = diagonal a.m.now a.n l.i in (
      omega arith,
      simp length-set (omega arith),
      rw (add-one, l.invariant.2) (write_next [] d a.vals.now l.i _ (omega (arith, length_grows (diagonal_grows a.m.now a.n) l.i)) (omega arith)),
    )

pub returns : goal.returns
returns c =
    let e : c.loop-i.i ≡ c.args.n = omega arith in
    let h : length c.args.vals.now ≤ c.args.n = omega arith in
    rw (e, drop_of_length-le c.args.vals.now h, append-nil) at c.loop-i.invariant.2

-- `eigen::unit_row` meets its contract. The loop's invariant: the first j entries of the row are written. Assumes nothing.
use mathlib.Core.Path.{◌≡◌, refl, sym}
use Prim.Native.Nat.{suc, ◌+◌}
use native.Mathlib.Omega.{arith}
use native.Mathlib.Numerals.{add-one}
use lib.ListN.{length-set, take-append-drop}
use native.Mathlib.Nat.{add-zero}
use Rattle.eigen.specs.Eigen.{unit_row}
use Rattle.eigen.proofs.EigenLaws.{unit_row_next}
use Rattle.eigen.proofs.eigen.unit_row.Goals as goal

pub loop-j-init : goal.loop-j-init
unfolding unit_row
loop-j-init c = (omega arith, refl, rw add-zero (sym (take-append-drop c.args.o c.args.v.now)))

pub loop-j-preserved : goal.loop-j-preserved
loop-j-preserved c =
    let l = c.loop-j in
    let a = c.args in
    let e : a.o + (l.j + 1) ≡ suc (a.o + l.j) = omega arith in
    (omega arith, simp length-set (omega arith), rw (e, add-one, c.one_at.ensures, l.invariant.2) (unit_row_next a.o a.i l.j a.v.now (omega arith)))

pub returns : goal.returns
returns c =
    let e : c.loop-j.j ≡ c.args.n = omega arith in
    rw e at c.loop-j.invariant.2

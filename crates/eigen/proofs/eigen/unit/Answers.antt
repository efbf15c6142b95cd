-- `eigen::unit` meets its contract. The loop's invariant: the first i rows are written. Assumes nothing.
use mathlib.Core.Path.{◌≡◌, refl, ◌∙◌}
use native.Mathlib.Omega.{arith}
use native.Mathlib.Numerals.{add-one}
use native.Mathlib.Nat.{zero-mul}
use mathlib.Core.List.{append-nil}
use lib.Seq.{drop-length}
use Rattle.eigen.specs.Eigen.{unit_to}
use Rattle.eigen.proofs.EigenLaws.{row_within, unit_next}
use Rattle.eigen.proofs.eigen.unit.Goals as goal

pub loop-i-init : goal.loop-i-init
unfolding unit_to
loop-i-init c = (omega arith, refl, rw (zero-mul))

pub unit_row-requires : goal.unit_row-requires
unit_row-requires c = omega (arith, row_within c.loop-i-test.true)

pub loop-i-preserved : goal.loop-i-preserved
loop-i-preserved c =
    let l = c.loop-i in
    let a = c.args in
    let r = c.unit_row in
    (omega arith, r.auto.v ∙ l.invariant.1, rw add-one (r.ensures ∙ rw l.invariant.2 (unit_next a.n l.i a.v.now)))

pub returns : goal.returns
returns c =
    let e : c.loop-i.i ≡ c.args.n = omega arith in
    rw (e, ← c.requires, drop-length, append-nil) at c.loop-i.invariant.2

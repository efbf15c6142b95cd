-- `eigen::sweep_row`: one rotation after another, from the diagonal on. The loop's invariant: the columns up to q are cleared. Assumes nothing.
use mathlib.Core.Path.{◌≡◌, refl, ◌∙◌}
use native.Mathlib.Omega.{arith}
use Rattle.eigen.specs.Eigen.{turned}
use Rattle.eigen.proofs.SweepLaws.{row_start, row_step}
use Rattle.eigen.proofs.eigen.sweep_row.Goals as goal

pub loop-q-init : goal.loop-q-init
loop-q-init c =
    let a = c.args in
    (omega arith, omega arith, refl, refl, row_start a.n a.p (turned a.m.now a.v.now))

pub loop-q-preserved : goal.loop-q-preserved
loop-q-preserved c =
    let l = c.loop-q in
    let a = c.args in
    let r = c.rotate in
    let next = row_step a.n a.p l.q (turned a.m.now a.v.now) (turned l.m l.v) (turned r.new.m r.new.v) in
    (omega arith, omega arith, r.auto.m ∙ l.invariant.2, r.auto.v ∙ l.invariant.3, next l.invariant.0 l.invariant.4 r.ensures)

pub returns : goal.returns
returns c =
    let e : c.loop-q.q ≡ c.args.n = omega arith in
    rw e at c.loop-q.invariant.4

-- `eigen::sweeps`: the sweeps end where what is off the diagonal is too small to count, or with the hundredth. The loop's invariant: what is left of the hundred leads to the same
-- end. Assumes nothing.
use mathlib.Core.Path.{refl, sym, ◌∙◌}
use Prim.Native.Nat.{◌-◌}
use native.Mathlib.Omega.{arith}
use Rattle.eigen.specs.Eigen.{turned, sweeps}
use Rattle.eigen.proofs.SweepLaws.{sweeps_stop, sweeps_step, sweeps_end}
use Rattle.eigen.proofs.eigen.sweeps.Goals as goal

pub loop-i-init : goal.loop-i-init
loop-i-init c = (omega arith, refl, refl, refl)

pub returns-then-settled : goal.returns-then-settled
returns-then-settled c =
    let l = c.loop-i in
    let a = c.args in
    sym (sweeps_stop a.n (100 - l.i) (turned l.m l.v) (sym c.settled.ensures ∙ c.if-settled.true)) ∙ l.invariant.3

pub loop-i-preserved : goal.loop-i-preserved
loop-i-preserved c =
    let l = c.loop-i in
    let a = c.args in
    let r = c.sweep in
    let end = sweeps a.n 100 (turned a.m.now a.v.now) in
    let unsettled = sym c.settled.ensures ∙ c.if-settled.false in
    let next = sweeps_step a.n l.i (turned l.m l.v) (turned r.new.m r.new.v) end c.loop-i-test.true unsettled in
    (omega arith, r.auto.m ∙ l.invariant.1, r.auto.v ∙ l.invariant.2, next r.ensures l.invariant.3)

pub returns : goal.returns
returns c =
    let l = c.loop-i in
    let a = c.args in
    sweeps_end a.n l.i (turned l.m l.v) (sweeps a.n 100 (turned a.m.now a.v.now)) c.loop-i-test.false l.invariant.3

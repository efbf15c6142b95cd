-- `least_squares::lm::step` meets its contract. The invariant: the first c unknowns at z are the definition's for the parts at entry, and nothing but the places of z
-- is changed. Those parts stand before z, so `stepped_at` reads them as at entry (`step_step`); all n are the step (`step_all`). The measure is the unknowns to come.
-- Assumes nothing.
use Rattle.least_squares.proofs.LmLaws.{step_all}
use Rattle.least_squares.proofs.LmLaws.{step_step}
use Rattle.least_squares.proofs.MemoryLaws.{kept_refl}
use native.Mathlib.Nat.{not-suc-le-zero}
use native.Mathlib.Omega.{arith}
use mathlib.Core.Path.{◌≡◌, refl}
use Rattle.least_squares.proofs.lm.step.Goals as goal

pub loop-c-init : goal.loop-c-init
loop-c-init c = (omega arith, kept_refl _ _ _, λ j l. absurd (not-suc-le-zero l))

pub stepped_at-requires : goal.stepped_at-requires
stepped_at-requires c = let z = c.loop-c.invariant.1.size in omega arith

pub loop-c-preserved : goal.loop-c-preserved
loop-c-preserved c =
    let g = c.args in
    let r = step_step g.s.now c.loop-c.s _ g.n g.rows g.x g.j g.w g.y g.z c.loop-c.c c.stepped_at.result (omega arith) (omega arith) (omega arith) (omega arith) (omega arith) (omega arith) c.loop-c.invariant.1 c.loop-c.invariant.2 c.stepped_at.ensures refl in
    (omega arith, r.0, r.1)

pub returns : goal.returns
returns c =
    let g = c.args in
    let e : c.loop-c.c ≡ g.n = omega arith in
    let u = c.loop-c.invariant.1.size in
    record { unknowns = step_all g.s.now c.loop-c.s g.n g.rows g.x g.j g.w g.y g.z (omega arith) (omega arith) (rw e at c.loop-c.invariant.2); kept = c.loop-c.invariant.1 }

-- `Free::parts_at` meets its contract. The loop's invariant: the parts of the first motions stand. Assumes nothing.
use native.Mathlib.Omega.{arith}
use Prim.Native.Nat.{◌≤◌}
use mathlib.Core.Path.{◌≡◌, refl, ◌∙◌}
use mathlib.Core.List.{List}
use lib.ListN.{length, length-set, length-take, take}
use lib.Seq.{take_all}
use lib.Ieee.{Float}
use Rattle.scene.specs.Solve.{three}
use Rattle.body_freedom.proofs.BodyLaws.{parts_step}
use Rattle.body_freedom.proofs.body.Free.parts_at.Goals as goal

pub loop-i-init : goal.loop-i-init
loop-i-init c = (refl, refl)

pub bounds-parts-i : goal.bounds-parts-i
bounds-parts-i c =
    let ps = c.free_pairs-p-items in
    let few : length ps.result.now ≤ 6 = rw ps.ensures (omega (arith, length-take c.args.self.count c.args.self.pairs)) in
    omega arith

pub loop-i-preserved : goal.loop-i-preserved
loop-i-preserved c =
    let l = c.loop-i in
    let ps = c.free_pairs-p-items in
    let few : length ps.result.now ≤ 6 = rw ps.ensures (omega (arith, length-take c.args.self.count c.args.self.pairs)) in (
      length-set l.parts l.i c.part_at.result ∙ l.invariant.0,
      parts_step (λ (e : List Float). three e c.args.o) ps.result.now l.parts l.i c.part_at.result (omega arith) (omega arith) c.part_at.ensures l.invariant.1,
    )

pub returns : goal.returns
returns c =
    let l = c.loop-i in
    let f = c.args.self in
    let ps = c.free_pairs-p-items in
    let n : length ps.result.now ≡ f.count = rw ps.ensures (omega (arith, length-take f.count f.pairs, f.within)) in
    let all : l.i ≡ f.count = omega arith in
    let whole : take f.count ps.result.now ≡ ps.result.now = take_all f.count ps.result.now (omega arith) in
    rw (all, whole, ps.ensures) at l.invariant.1

-- `Free::of` meets its contract. The loop's invariant: the free motions of the first pairs are held. Assumes nothing.
use native.Mathlib.Omega.{arith}
use lib.ListN.{take, length, length-take}
use lib.Seq.{take_all}
use mathlib.Core.Path.{◌≡◌}
use Rattle.body_freedom.specs.Dof.{free_of}
use Rattle.body_freedom.proofs.BodyLaws.{free_step}
use Rattle.body_freedom.proofs.body.Free.of.Goals as goal

pub loop-p-init : goal.loop-p-init
unfolding free_of
loop-p-init c = (omega (arith, c.none-f.ensures), rw c.none-f.ensures)

pub with-f-requires : goal.with-f-requires
with-f-requires c = omega (arith, length-take c.args.n c.args.e, c.loop-p.invariant.0, c.loop-p-test.true)

pub loop-p-preserved : goal.loop-p-preserved
loop-p-preserved c =
    let l = c.loop-p in
    (omega (arith, l.invariant.0, c.with-f.ensures.few), free_step c.args.most (take c.args.n c.args.e) l.p-index l.f c.with-f.result (omega arith) l.invariant.1 c.with-f.ensures.joined)

pub returns : goal.returns
returns c =
    let ps = take c.args.n c.args.e in
    let all : c.loop-p.p-index ≡ length ps = omega arith in
    rw (all, take_all (length ps) ps (omega arith)) at c.loop-p.invariant.1

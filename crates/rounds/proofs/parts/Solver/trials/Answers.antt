-- `rounds::parts::Solver::trials` meets its contract. The invariant: the trials that are left come to what all come to, and the scratch that they read is as it was. The
-- measure is the trials to come. Assumes nothing.
use native.Mathlib.Omega.{arith}
use Rattle.scene.specs.Scene.{scene_of}
use Rattle.rounds.proofs.RoundLaws.{arranged_same, trying_start, trying_better, trying_worse, trying_end, arranged_within}
use Rattle.rounds.proofs.parts.Solver.trials.Goals as goal

pub loop-i-init : goal.loop-i-init
loop-i-init c = (omega arith, trying_start _ _ _ _ _ _)

pub trial-t-requires : goal.trial-t-requires
trial-t-requires c = record { scratch = (arranged_same c.loop-i.invariant.1.leaves.keeps.size (arranged_within c.args.self.now.arranged c.requires.scratch)).poses; rows_bound = c.requires.rows_bound }

pub shape_of-s-then-t : goal.shape_of-s-then-t
shape_of-s-then-t c = let x = c.trial-t in omega (arith, x.ensures.leaves.keeps.size, c.loop-i.invariant.1.leaves.keeps.size)

pub returns-then-t : goal.returns-then-t
returns-then-t c =
    let o = c.args in
    let x = c.trial-t in
    trying_better (scene_of o.self.now.sheet.bytes.now o.self.now.sheet.scene) o.self.now.sheet.scene o.self.now.parts o.s.now c.loop-i.s _ o.cost o.mu c.loop-i.stiffness c.loop-i.i x.result (omega arith) c.loop-i.invariant.1 x.ensures c.if-t.true

pub loop-i-preserved : goal.loop-i-preserved
loop-i-preserved c =
    let o = c.args in
    let x = c.trial-t in (
      omega arith,
      trying_worse (scene_of o.self.now.sheet.bytes.now o.self.now.sheet.scene) o.self.now.sheet.scene o.self.now.parts o.s.now c.loop-i.s _ o.cost o.mu c.loop-i.stiffness c.loop-i.i x.result (omega arith) c.loop-i.invariant.1 x.ensures c.if-t.false,
    )

pub shape_of-s : goal.shape_of-s
shape_of-s c = c.loop-i.invariant.1.leaves.keeps.size

pub returns : goal.returns
returns c =
    let o = c.args in
    trying_end (scene_of o.self.now.sheet.bytes.now o.self.now.sheet.scene) o.self.now.sheet.scene o.self.now.parts o.s.now c.loop-i.s o.cost o.mu c.loop-i.stiffness c.loop-i.i (omega arith) c.loop-i.invariant.1

-- `rounds::parts::Solver::rounds`. The invariant: the rounds that are left come to what all come to, and the scratch that is not theirs is as it was. A round that ends the loop,
-- within the tolerance or not better, is the definition's last; the measure is the rounds to come. Assumes nothing.
use mathlib.Core.Path.{ap, ◌∙◌}
use native.Mathlib.Omega.{arith}
use Rattle.least_squares.specs.Lm.{all_finite}
use Rattle.scene.specs.Scene.{scene_of}
use Rattle.rounds.proofs.RoundLaws.{arranged_same, arranged_within}
use Rattle.rounds.proofs.RunLaws.{going_start, going_in, going_stop, going_on, going_end}
use Rattle.rounds.proofs.parts.Solver.rounds.Goals as goal

pub loop-i-init : goal.loop-i-init
loop-i-init c = (omega arith, going_start _ _ _ _ _ _ _ _)

pub one_round-t-requires : goal.one_round-t-requires
one_round-t-requires c = record { scratch = (arranged_same c.loop-i.invariant.1.keeps.size (arranged_within c.args.self.now.arranged c.requires.scratch)).poses; rows_bound = c.requires.rows_bound; s_value = ap all_finite c.loop-i.invariant.1.keeps.weights ∙ c.requires.s_value }

pub within-requires : goal.within-requires
within-requires c = arranged_same (c.one_round-t.ensures.keeps.size ∙ c.loop-i.invariant.1.keeps.size) (arranged_within c.args.self.now.arranged c.requires.scratch)

pub shape_of-s-then-within : goal.shape_of-s-then-within
shape_of-s-then-within c = c.one_round-t.ensures.keeps.size ∙ c.loop-i.invariant.1.keeps.size

pub returns-then-within : goal.returns-then-within
returns-then-within c =
    let g = c.args in
    let l = c.loop-i in
    going_in (scene_of g.self.now.sheet.bytes.now g.self.now.sheet.scene) g.self.now.sheet.scene g.self.now.parts g.s.now l.s _ g.tolerance g.most g.cost g.mu l.c l.d l.i c.one_round-t.result (omega arith) l.invariant.1 c.one_round-t.ensures
    c.within.result
    c.within.ensures
    c.if-within.true

pub shape_of-s-else-t : goal.shape_of-s-else-t
shape_of-s-else-t c = c.one_round-t.ensures.keeps.size ∙ c.loop-i.invariant.1.keeps.size

pub returns-else-t : goal.returns-else-t
returns-else-t c =
    let g = c.args in
    let l = c.loop-i in
    going_stop (scene_of g.self.now.sheet.bytes.now g.self.now.sheet.scene) g.self.now.sheet.scene g.self.now.parts g.s.now l.s _ g.tolerance g.most g.cost g.mu l.c l.d l.i c.one_round-t.result (omega arith) l.invariant.1 c.one_round-t.ensures
    c.within.result
    c.within.ensures
    c.if-within.false
    c.if-t.false

pub loop-i-preserved : goal.loop-i-preserved
loop-i-preserved c =
    let g = c.args in
    let l = c.loop-i in
    let on = going_on (scene_of g.self.now.sheet.bytes.now g.self.now.sheet.scene) g.self.now.sheet.scene g.self.now.parts g.s.now l.s _ g.tolerance g.most g.cost g.mu l.c l.d l.i c.one_round-t.result (omega arith) l.invariant.1 c.one_round-t.ensures in
    (omega arith, on c.within.result c.within.ensures c.if-within.false c.if-t.true)

pub within-requires-2 : goal.within-requires-2
within-requires-2 c = arranged_same c.loop-i.invariant.1.keeps.size (arranged_within c.args.self.now.arranged c.requires.scratch)

pub shape_of-s : goal.shape_of-s
shape_of-s c = c.loop-i.invariant.1.keeps.size

pub returns : goal.returns
returns c =
    let g = c.args in
    let l = c.loop-i in
    going_end (scene_of g.self.now.sheet.bytes.now g.self.now.sheet.scene) g.self.now.sheet.scene g.self.now.parts g.s.now l.s g.tolerance g.most g.cost g.mu l.c l.d l.i c.within-2.result (omega arith) l.invariant.1 c.within-2.ensures

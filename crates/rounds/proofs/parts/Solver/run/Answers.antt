-- `rounds::parts::Solver::run`: once the rows at the unknowns are worked, a run ends at once where there are none, where they are within the tolerance, where nothing moves or where
-- they are too many; else the rounds make it. Four of the five ends are each one law of RunLaws over the scratch with those rows; the check finds the end where nothing
-- moves by `still_end`, which the function names. Assumes nothing.
use mathlib.Core.Path.{ap, ◌∙◌}
use native.Mathlib.Nat.{le_trans}
use native.Mathlib.Omega.{arith}
use Rattle.least_squares.specs.Lm.{all_finite}
use Rattle.scene.specs.Scene.{scene_of}
use Rattle.rounds.proofs.RoundLaws.{arranged_same, arranged_within}
use Rattle.rounds.proofs.RunLaws.{run_keeps, ran_empty, ran_within, ran_large, ran_rounds}
use Rattle.rounds.proofs.parts.Solver.run.Goals as goal

pub rows_at-requires : goal.rows_at-requires
rows_at-requires c =
    let a = (arranged_within c.args.self.now.arranged c.requires.scratch) in
    record { n_bound = omega arith; rows_bound = omega arith; m_in_bounds = omega arith }

pub shape_of-s-then-rows-eq0 : goal.shape_of-s-then-rows-eq0
shape_of-s-then-rows-eq0 c = c.rows_at.ensures.size

pub returns-then-rows-eq0 : goal.returns-then-rows-eq0
returns-then-rows-eq0 c =
    let g = c.args in
    ran_empty (scene_of g.self.now.sheet.bytes.now g.self.now.sheet.scene) g.self.now.sheet.scene g.self.now.parts g.s.now _ g.q.tolerance g.q.rounds g.q.limit (arranged_within c.args.self.now.arranged c.requires.scratch) c.rows_at.ensures c.if-rows-eq0.true

pub within-requires : goal.within-requires
within-requires c = arranged_same c.rows_at.ensures.size (arranged_within c.args.self.now.arranged c.requires.scratch)

pub shape_of-s-then-within : goal.shape_of-s-then-within
shape_of-s-then-within c = c.rows_at.ensures.size

pub returns-then-within : goal.returns-then-within
returns-then-within c =
    let g = c.args in
    ran_within (scene_of g.self.now.sheet.bytes.now g.self.now.sheet.scene) g.self.now.sheet.scene g.self.now.parts g.s.now _ g.q.tolerance g.q.rounds g.q.limit (arranged_within c.args.self.now.arranged c.requires.scratch) c.rows_at.ensures c.within.result c.within.ensures c.if-rows-eq0.false c.if-within.true

pub shape_of-s-then-rows-q : goal.shape_of-s-then-rows-q
shape_of-s-then-rows-q c = c.rows_at.ensures.size

pub returns-then-rows-q : goal.returns-then-rows-q
returns-then-rows-q c =
    let g = c.args in
    ran_large (scene_of g.self.now.sheet.bytes.now g.self.now.sheet.scene) g.self.now.sheet.scene g.self.now.parts g.s.now _ g.q.tolerance g.q.rounds g.q.limit (arranged_within c.args.self.now.arranged c.requires.scratch) c.rows_at.ensures c.within.result c.within.ensures c.if-rows-eq0.false c.if-within.false (λ z. omega arith) c.if-rows-q.true

pub squares-cost-requires : goal.squares-cost-requires
squares-cost-requires c =
    let a = (arranged_within c.args.self.now.arranged c.requires.scratch) in
    let z = c.rows_at.ensures.size in
    omega arith

pub rounds-requires : goal.rounds-requires
rounds-requires c =
    let g = c.args in
    let k = run_keeps (scene_of g.self.now.sheet.bytes.now g.self.now.sheet.scene) g.self.now.sheet.scene g.self.now.parts g.s.now _ g.q.tolerance g.q.rounds g.q.limit (arranged_within c.args.self.now.arranged c.requires.scratch) c.rows_at.ensures in
    record { scratch = (arranged_same c.rows_at.ensures.size (arranged_within c.args.self.now.arranged c.requires.scratch)).poses; rows_bound = le_trans c.if-rows-q.false c.requires.limit; s_value = ap all_finite k.weights ∙ c.requires.s_value }

pub shape_of-s : goal.shape_of-s
shape_of-s c = c.rounds.ensures.keeps.size ∙ c.rows_at.ensures.size

pub returns : goal.returns
returns c =
    let g = c.args in
    ran_rounds (scene_of g.self.now.sheet.bytes.now g.self.now.sheet.scene) g.self.now.sheet.scene g.self.now.parts g.s.now _ g.q.tolerance g.q.rounds g.q.limit (arranged_within c.args.self.now.arranged c.requires.scratch) c.rows_at.ensures c.within.result c.within.ensures c.if-rows-eq0.false c.if-within.false _
    c.squares-cost.result
    c.rounds.result
    c.squares-cost.ensures
    (λ z. omega arith)
    c.if-rows-q.false
    c.rounds.ensures

-- `rounds::parts::Solver::answer`: the whole matrix is laid out and damped, the rows are copied behind it, and the scratch from the damped matrix on is lent to `solve_dense`. What that
-- leaves, put behind what stood before, is the answer's part of the whole scratch (`answer_is`). Assumes nothing.
use mathlib.Core.Path.{◌∙◌}
use Prim.Native.Nat.{◌≤◌}
use native.Mathlib.Omega.{arith}
use lib.ListN.{length}
use Rattle.rounds.proofs.RoundLaws.{arranged_within}
use Rattle.least_squares.proofs.MemoryLaws.{put_tail}
use Rattle.rounds.proofs.TrialLaws.{rest_lent, answer_is}
use Rattle.rounds.proofs.parts.Solver.answer.Goals as goal

pub returns : goal.returns
returns c =
    let g = c.args in
    let w = c.copy.new.s in
    let q = c.solve_dense.new.s in
    let x = c.spread.ensures in
    let y = c.damp.ensures in
    let z = c.copy.ensures in
    let sizes = z.kept.size ∙ y.kept.size ∙ x.kept.size in
    let h : g.self.now.parts.damped ≤ length w = omega arith in
    rw (put_tail g.self.now.parts.damped w q h)
    (answer_is g.self.now.sheet.scene g.self.now.parts _ _ _ w q g.mu _ _ _ (arranged_within c.args.self.now.arranged c.requires.scratch) h c.diag_max-most.ensures x y z (rest_lent g.self.now.parts.damped w _ _ _ c.solve_dense.ensures))

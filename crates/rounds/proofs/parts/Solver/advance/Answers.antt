-- `rounds::parts::Solver::advance` meets its contract: the unknowns are written at `next` and their rows at `ahead`, behind them, so those unknowns stand and the rows are
-- theirs; nothing before `next` has changed, and `squares` promises the sum (`advanced`). Assumes nothing.
use native.Mathlib.Omega.{arith}
use Rattle.rounds.proofs.RoundLaws.{arranged_within}
use Rattle.scene.specs.Scene.{scene_of}
use Rattle.rounds.proofs.TrialLaws.{advanced}
use Rattle.rounds.proofs.parts.Solver.advance.Goals as goal

pub rows_at-requires : goal.rows_at-requires
rows_at-requires c =
    let z = c.step.ensures.kept.size in
    record { n_bound = omega arith; rows_bound = omega arith; m_in_bounds = omega arith }

pub returns : goal.returns
returns c =
    advanced (scene_of c.args.self.now.sheet.bytes.now c.args.self.now.sheet.scene) c.args.self.now.sheet.scene c.args.self.now.parts _ _ _ c.squares.result _ (arranged_within c.args.self.now.arranged c.requires.scratch)
    c.step.ensures
    c.rows_at.ensures
    c.squares.ensures

-- `rounds::parts::Solver::take_step` meets its contract: the arrangement sets the places of both copies apart. The first leaves the rows at `ahead`, the second the unknowns at
-- `x`, and neither writes the weights, the slopes, the matrix or the first run's unknowns (`step_taken`). Assumes nothing.
use Rattle.rounds.proofs.RoundLaws.{arranged_within}
use Rattle.rounds.proofs.TrialLaws.{step_taken}
use Rattle.rounds.proofs.parts.Solver.take_step.Goals as goal

pub returns : goal.returns
returns c = step_taken c.args.self.now.sheet.scene c.args.self.now.parts _ _ _ _ (arranged_within c.args.self.now.arranged c.requires.scratch) c.copy.ensures c.copy-2.ensures

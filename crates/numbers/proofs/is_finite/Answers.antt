-- `numbers::is_finite` meets its contract: a double less itself equals itself just where the double is finite (`finite_by_itself`). Assumes nothing.
use Rattle.numbers.proofs.DoubleLaws.{finite_by_itself}
use Rattle.numbers.proofs.is_finite.Goals as goal

pub returns : goal.returns
returns c = finite_by_itself c.args.x

-- `by_rounds::ends::is_running`: the two tests are the definition's. Assumes nothing.
use borrow.Author.Tests.{eq-eqb, ne_eqb}
use Rattle.by_rounds.proofs.ends.is_running.Goals as goal

pub returns-then-run-eq1 : goal.returns-then-run-eq1
returns-then-run-eq1 c = rw (eq-eqb _ _ c.if-run-eq1.true)

pub returns : goal.returns
returns c = rw (ne_eqb _ _ c.if-run-eq1.false)

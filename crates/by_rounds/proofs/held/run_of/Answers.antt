-- `by_rounds::held::run_of`: the test is the definition's. Assumes nothing.
use mathlib.Core.Path.{sym, ◌∙◌}
use Rattle.by_rounds.proofs.held.run_of.Goals as goal

pub returns-then-is_running : goal.returns-then-is_running
returns-then-is_running c = rw (sym c.is_running.ensures ∙ c.if-is_running.true)

pub returns : goal.returns
returns c = rw (sym c.is_running.ensures ∙ c.if-is_running.false)

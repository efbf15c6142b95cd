-- `by_rounds::held::all_within` meets its contract: `all` asks of each error what the definition asks (`within_list`). Assumes nothing.
use mathlib.Core.Path.{◌∙◌}
use lib.Ieee.{le}
use Rattle.std.proofs.Common.{rules, tests}
use Rattle.std.proofs.lemmas.Iterator.{YieldsList-from_slice}
use Rattle.std.proofs.lemmas.Iterator.Search.{all_from_yields_List}
use Rattle.by_rounds.proofs.HeldLaws.{within_list}
use Rattle.by_rounds.proofs.held.all_within.Goals as goal

pub returns : goal.returns
returns c =
    let tol = c.args.tolerance in
    let errors = c.args.errors.now in
    all_from_yields_List (λ e. le e tol) _ _ _ c.all.ensures.ran (YieldsList-from_slice errors cc) (λ x b q k. search (rules, tests)) ∙ within_list tol errors

-- `body_freedom::body::largest_value` meets its contract: the fold over the pairs is the definition's (`largest_fold`). Assumes nothing.
use native.Mathlib.Omega.{arith}
use mathlib.Core.Path.{◌∙◌}
use lib.Seq.{take_all}
use Rattle.std.proofs.Common.{rules, tests}
use Rattle.std.proofs.lemmas.Iterator.{YieldsList-from_slice}
use Rattle.std.proofs.lemmas.Iterator.Consumers.{fold_from_yields_List}
use Rattle.numbers.specs.Double.{zero64, fmax}
use Rattle.body_freedom.proofs.BodyLaws.{largest_fold}
use Rattle.body_freedom.proofs.body.largest_value.Goals as goal

pub returns : goal.returns
returns c =
    let e = c.args.e in
    rw (take_all 6 e (omega arith))
    (fold_from_yields_List _ (λ m p. fmax m p.value) zero64 _ c.fold.ensures.ran (YieldsList-from_slice e cc) (λ a x b q k. search (rules, tests)) ∙ largest_fold zero64 e)

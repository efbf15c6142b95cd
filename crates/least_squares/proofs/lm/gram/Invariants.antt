-- `least_squares::lm::gram` is the entry of the definition, over all columns. The invariant: t is the sum over the columns so far; over all of the list it is the
-- definition's (`gram_columns`). Assumes nothing.
use mathlib.Core.Path.{◌≡◌}
use lib.ListN.{take}
use Rattle.numbers.specs.Double.{zero64}
use Rattle.numbers.specs.Ops.{doubles}
use Rattle.numbers.specs.Zeros.{sum_over}
use Rattle.least_squares.proofs.ColumnLaws.{weighted_term}
use Rattle.least_squares.proofs.lm.gram.Given as goal

abbrev pub invariant-loop-c : goal.invariant-loop-c
invariant-loop-c l = l.t ≡ sum_over doubles zero64 (weighted_term l.s l.k l.i l.w) (take l.c-index l.list)

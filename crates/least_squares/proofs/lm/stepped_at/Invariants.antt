-- `least_squares::lm::stepped_at` meets its contract. The invariant: t is the sum of the first i products of column c of the slopes and y, read from the scratch. At
-- the end that sum, read from the parts, is the definition's (`stepped_is`); the measure is the rows to come. Assumes nothing.
use Rattle.least_squares.proofs.LmLaws.{column_term}
use Rattle.numbers.specs.Double.{zero64}
use Rattle.numbers.specs.Ops.{doubles}
use Rattle.numbers.specs.Sum.{sum_from}
use mathlib.Core.Path.{◌≡◌}
use Prim.Native.Nat.{◌≤◌}
use Rattle.least_squares.proofs.lm.stepped_at.Given as goal

abbrev pub invariant-loop-i : goal.invariant-loop-i
invariant-loop-i l = (l.i ≤ l.rows) × (l.t ≡ sum_from doubles zero64 (column_term l.s l.j l.n l.y l.c) l.i)

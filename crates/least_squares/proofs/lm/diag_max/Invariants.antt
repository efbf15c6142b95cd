-- `least_squares::lm::diag_max` meets its contract. The invariant: m is the largest of 0 and the first i entries of the diagonal (`diag_to`), each read from the triangle's place
-- (`diagonal_at`). The measure is the rows to come; the last call of `max` is the definition's bound from below. Assumes nothing.
use mathlib.Core.Path.{◌≡◌}
use Prim.Native.Nat.{◌≤◌}
use Rattle.least_squares.specs.Lm.{diag_to}
use Rattle.least_squares.specs.Memory.{part}
use Rattle.least_squares.specs.Triangle.{triangle, spread}
use Rattle.least_squares.proofs.lm.diag_max.Given as goal

abbrev pub invariant-loop-i : goal.invariant-loop-i
invariant-loop-i l = (l.i ≤ l.rows) × (l.m ≡ diag_to (spread (part l.s l.a (triangle l.rows)) l.rows) l.rows l.i)

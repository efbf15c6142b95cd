-- `least_squares::triangle::spread`. The invariant: the first i rows of the square are those of the whole matrix, and nothing outside the square is changed, so that the triangle is as at
-- entry. One more row is what is copied of it and what `across` adds (`square_step`); all rows are the matrix (`square_all`). Assumes
-- nothing.
use Prim.Native.Nat.{◌+◌, ◌*◌, ◌≤◌}
use Rattle.least_squares.specs.Memory.{part, Kept}
use Rattle.least_squares.specs.Triangle.{triangle, entry_of}
use Rattle.least_squares.proofs.SpreadLaws.{Square}
use Rattle.least_squares.proofs.triangle.spread.Given as goal

abbrev pub invariant-loop-i : goal.invariant-loop-i
invariant-loop-i l = (l.i ≤ l.rows) × Kept l.initial.s l.s l.b (l.b + l.rows * l.rows) × Square l.s l.b l.rows (entry_of (part l.initial.s l.a (triangle l.rows))) l.i

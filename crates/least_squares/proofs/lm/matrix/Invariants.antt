-- `least_squares::lm::matrix` meets its contract. The invariant: the first i rows up to the diagonal are the definition's for the slopes and weights at entry, and nothing outside
-- the triangle is changed, so that the next row has the same slopes and weights (`lower_step`). From all rows the whole matrix is read (`lower_all`). Assumes nothing.
use mathlib.Core.Path.{◌≡◌}
use Prim.Native.Nat.{◌+◌, ◌*◌, ◌≤◌}
use lib.ListN.{length}
use Rattle.least_squares.specs.Lm.{normal_at}
use Rattle.least_squares.specs.Memory.{part, Kept}
use Rattle.least_squares.specs.Triangle.{triangle}
use Rattle.least_squares.proofs.LmLaws.{Lower}
use Rattle.least_squares.proofs.lm.matrix.Given as goal

abbrev pub invariant-loop-i : goal.invariant-loop-i
invariant-loop-i l = (l.i ≤ l.rows) × (l.w ≡ l.a + triangle l.rows) × Kept l.initial.s l.s l.a (l.a + triangle l.rows) × Lower l.s l.a (normal_at (part l.initial.s 0 (l.rows * l.n)) (part l.initial.s (l.a + triangle l.rows) l.n) l.n) l.i × (length l.list ≡ 384)

-- `least_squares::triangle::across`. The invariant: the entries right of the diagonal up to k are those below it, and all else is as at entry; k places on from `at` stands the
-- entry in row k of the triangle. Assumes nothing.
use mathlib.Core.Path.{◌≡◌}
use Prim.Native.Nat.{ℕ, ◌+◌, ◌≤◌, ◌<◌}
use lib.ListN.{get_or}
use lib.Ieee.{nan}
use Rattle.least_squares.specs.Memory.{Kept}
use Rattle.least_squares.specs.Triangle.{triangle}
use Rattle.least_squares.proofs.triangle.across.Given as goal

abbrev pub invariant-loop-k : goal.invariant-loop-k
invariant-loop-k l = (l.i < l.k) × (l.k ≤ l.rows) × (l.at + l.k ≡ l.a + triangle l.k + l.i) × Kept l.initial.s l.s (l.b + (l.i + 1)) (l.b + l.rows) × ((j : ℕ) → l.i < j → j < l.k → get_or l.s (l.b + j) nan ≡ get_or l.initial.s (l.a + triangle j + l.i) nan)

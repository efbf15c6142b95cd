-- `least_squares::lm::damp` meets its contract. The invariant: the matrix is the one at entry with the first i entries of its diagonal damped (`damp_to`), and what
-- stands outside it is kept. A place of the diagonal in the scratch is one of the matrix (`entry_at`, `set_entry`); the measure is the rows to come. Assumes nothing.
use Rattle.least_squares.specs.Lm.{damp_to}
use Rattle.least_squares.specs.Memory.{part, Kept}
use mathlib.Core.Path.{◌≡◌}
use Prim.Native.Nat.{◌+◌, ◌*◌, ◌≤◌}
use Rattle.least_squares.proofs.lm.damp.Given as goal

abbrev pub invariant-loop-i : goal.invariant-loop-i
invariant-loop-i l = (l.i ≤ l.rows) × Kept l.initial.s l.s l.a (l.a + l.rows * l.rows) × (part l.s l.a (l.rows * l.rows) ≡ damp_to (part l.initial.s l.a (l.rows * l.rows)) l.rows l.d l.i)

-- `least_squares::lm::step` meets its contract. The invariant: the first c unknowns at z are the definition's for the parts at entry, and nothing but the places of z
-- is changed. Those parts stand before z, so `stepped_at` reads them as at entry (`step_step`); all n are the step (`step_all`).
-- Assumes nothing.
use Rattle.least_squares.specs.Lm.{stepped_at}
use Rattle.least_squares.specs.Memory.{part, Kept}
use lib.Ieee.{nan}
use lib.ListN.{get_or}
use mathlib.Core.Path.{◌≡◌}
use Prim.Native.Nat.{ℕ, ◌+◌, ◌*◌, ◌≤◌, ◌<◌}
use Rattle.least_squares.proofs.lm.step.Given as goal

abbrev pub invariant-loop-c : goal.invariant-loop-c
invariant-loop-c l = (l.c ≤ l.n) × Kept l.initial.s l.s l.z (l.z + l.n) × ((j : ℕ) → j < l.c → get_or l.s (l.z + j) nan ≡ stepped_at (part l.initial.s l.x l.n) (part l.initial.s l.j (l.rows * l.n)) (part l.initial.s l.w l.n) (part l.initial.s l.y l.rows) l.rows j)

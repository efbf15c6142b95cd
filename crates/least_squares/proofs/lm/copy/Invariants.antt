-- `least_squares::lm::copy`: after i turns the first i doubles are copied and all else is kept, so the double read next is still the one at entry. Assumes nothing.
use Rattle.least_squares.specs.Memory.{part, Kept}
use mathlib.Core.Path.{◌≡◌}
use Prim.Native.Nat.{◌+◌, ◌≤◌}
use Rattle.least_squares.proofs.lm.copy.Given as goal

abbrev pub invariant-loop-i : goal.invariant-loop-i
invariant-loop-i l = (l.i ≤ l.k) × Kept l.initial.s l.s l.b (l.b + l.k) × (part l.s l.b l.i ≡ part l.initial.s l.a l.i)

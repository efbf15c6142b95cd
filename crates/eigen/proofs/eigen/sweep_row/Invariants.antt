-- `eigen::sweep_row`: one rotation after another, from the diagonal on. The loop's invariant: the columns up to q are cleared. Assumes nothing.
use mathlib.Core.Path.{◌≡◌}
use Prim.Native.Nat.{◌+◌, ◌-◌, ◌≤◌}
use lib.ListN.{length}
use Rattle.eigen.specs.Eigen.{turned, sweep_row}
use Rattle.eigen.proofs.eigen.sweep_row.Given as goal

abbrev pub invariant-loop-q : goal.invariant-loop-q
invariant-loop-q l = (l.p + 1 ≤ l.q) × (l.q ≤ l.n) × (length l.m ≡ length l.initial.m) × (length l.v ≡ length l.initial.v) × (turned l.m l.v ≡ sweep_row l.n l.p (turned l.initial.m l.initial.v) (l.q - (l.p + 1)))

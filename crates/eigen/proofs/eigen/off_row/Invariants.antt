-- `eigen::off_row` meets its contract. The loop's invariant: t is the sum after the first j columns. Assumes nothing.
use mathlib.Core.Path.{◌≡◌}
use Prim.Native.Nat.{◌≤◌}
use Rattle.eigen.specs.Eigen.{off_row}
use Rattle.eigen.proofs.eigen.off_row.Given as goal

abbrev pub invariant-loop-j : goal.invariant-loop-j
invariant-loop-j l = (l.j ≤ l.n) × (l.t ≡ off_row l.m l.n l.i l.s l.j)

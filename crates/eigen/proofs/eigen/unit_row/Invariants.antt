-- `eigen::unit_row` meets its contract. The loop's invariant: the first j entries of the row are written. Assumes nothing.
use mathlib.Core.Path.{◌≡◌}
use Prim.Native.Nat.{◌+◌, ◌≤◌}
use lib.ListN.{length, take, drop}
use mathlib.Core.List.{◌++◌}
use Rattle.eigen.specs.Eigen.{unit_row}
use Rattle.eigen.proofs.eigen.unit_row.Given as goal

abbrev pub invariant-loop-j : goal.invariant-loop-j
invariant-loop-j l = (l.j ≤ l.n) × (length l.v ≡ length l.initial.v) × (l.v ≡ take l.o l.initial.v ++ (unit_row l.i l.j ++ drop (l.o + l.j) l.initial.v))

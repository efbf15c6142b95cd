-- `eigen::turn_columns`: the rows are gone through one after another. The loop's invariant: the first k rows are turned. Assumes nothing.
use mathlib.Core.Path.{◌≡◌}
use Prim.Native.Nat.{◌≤◌}
use lib.ListN.{length}
use Rattle.eigen.specs.Eigen.{turn_columns}
use Rattle.eigen.proofs.eigen.turn_columns.Given as goal

abbrev pub invariant-loop-k : goal.invariant-loop-k
invariant-loop-k l = (l.k ≤ l.rows) × (length l.l ≡ length l.initial.l) × (l.l ≡ turn_columns l.n l.c l.s l.p l.q l.initial.l l.k)

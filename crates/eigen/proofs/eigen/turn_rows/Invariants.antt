-- `eigen::turn_rows` meets its contract. The loop's invariant: the first k columns are turned. Assumes nothing.
use mathlib.Core.Path.{◌≡◌}
use Prim.Native.Nat.{◌≤◌}
use lib.ListN.{length}
use Rattle.eigen.specs.Eigen.{turn_rows}
use Rattle.eigen.proofs.eigen.turn_rows.Given as goal

abbrev pub invariant-loop-k : goal.invariant-loop-k
invariant-loop-k l = (l.k ≤ l.n) × (length l.l ≡ length l.initial.l) × (l.l ≡ turn_rows l.n l.c l.s l.p l.q l.initial.l l.k)

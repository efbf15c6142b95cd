-- `eigen::diagonal` meets its contract. The loop's invariant: the first i entries are copied. Assumes nothing.
use mathlib.Core.Path.{◌≡◌}
use Prim.Native.Nat.{◌≤◌}
use lib.ListN.{length, drop}
use mathlib.Core.List.{◌++◌}
use Rattle.eigen.specs.EigenMemory.{diagonal}
use Rattle.eigen.proofs.eigen.diagonal.Given as goal

abbrev pub invariant-loop-i : goal.invariant-loop-i
invariant-loop-i l = (l.i ≤ l.n) × (length l.vals ≡ length l.initial.vals) × (l.vals ≡ diagonal l.m l.n l.i ++ drop l.i l.initial.vals)

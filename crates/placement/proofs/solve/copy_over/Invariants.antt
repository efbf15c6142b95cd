-- `placement::solve::copy_over` meets its contract. The invariant: the doubles passed stand in d from `at` on. Assumes nothing.
use Prim.Native.Nat.{◌≤◌}
use Rattle.least_squares.specs.Memory.{part}
use Rattle.scene.specs.Scene.{Put}
use Rattle.placement.proofs.solve.copy_over.Given as goal

abbrev pub invariant-loop-i : goal.invariant-loop-i
invariant-loop-i l = (l.i ≤ l.k) × Put l.initial.d l.d l.at l.i (part l.s l.o l.i)

-- `placement::solve::put_turn` meets its contract. The invariant: the unknowns passed stand from x on. The measure is the unknowns to come. Assumes nothing.
use Prim.Native.Nat.{◌-◌, ◌≤◌}
use Rattle.least_squares.specs.Lm.{list_of}
use Rattle.scene.specs.Scene.{Put}
use Rattle.scene.specs.Solve.{slight_turn}
use Rattle.placement.proofs.solve.put_turn.Given as goal

abbrev pub invariant-loop-i : goal.invariant-loop-i
invariant-loop-i l = (l.i ≤ l.n) × Put l.initial.s l.s l.x l.i (list_of slight_turn l.i)

abbrev pub decreases-loop-i : goal.decreases-loop-i
decreases-loop-i l = l.n - l.i

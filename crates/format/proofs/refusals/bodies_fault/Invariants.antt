-- `format::refusals::bodies_fault` meets its contract. The invariant: the bodies that are passed have no fault. Assumes nothing.
use mathlib.Core.Path.{◌≡◌}
use Rattle.format.specs.Faults.{bodies_fault}
use Rattle.format.proofs.refusals.bodies_fault.Given as goal

abbrev pub invariant-loop-i : goal.invariant-loop-i
invariant-loop-i l = bodies_fault l.s l.i ≡ 0

-- `freedom::dof::put_bodies` meets its contract. The invariant: the freedoms of the bodies passed stand at the front, and the starting poses in scratch. The measure is the
-- bodies to come. Assumes nothing.
use Prim.Native.Nat.{◌-◌}
use Rattle.freedom.proofs.DofLaws.{Passed}
use Rattle.freedom.proofs.dof.put_bodies.Given as goal

abbrev pub invariant-loop-i : goal.invariant-loop-i
invariant-loop-i l = Passed l.sheet.bytes.now l.sheet.scene l.initial.s l.s l.initial.freedoms l.freedoms l.parts.poses l.i

abbrev pub decreases-loop-i : goal.decreases-loop-i
decreases-loop-i l = l.sheet.scene.m - l.i

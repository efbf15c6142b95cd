-- `Free::points_of` meets its contract. The loop's invariant: the points of the first turns stand, the others are zero. Assumes nothing.
use mathlib.Core.Path.{◌≡◌}
use Rattle.vectors.specs.Vec.{vec}
use Rattle.body_freedom.specs.Motions.{motions}
use Rattle.body_freedom.proofs.BodyLaws.{points_to}
use Rattle.body_freedom.proofs.body.Free.points_of.Given as goal

abbrev pub invariant-loop-i : goal.invariant-loop-i
invariant-loop-i l = l.points ≡ points_to (vec l.center) l.l (motions l.self) l.axis-items l.i

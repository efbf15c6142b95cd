-- `body_freedom::body::most_about` meets its contract. The loop's invariant: `best` and the motions left give what all do. Assumes nothing.
use mathlib.Core.Path.{◌≡◌}
use mathlib.Core.List.{map}
use lib.ListN.{drop}
use Rattle.vectors.specs.Vec.{vec}
use Rattle.body_freedom.specs.Dof.{most_about}
use Rattle.body_freedom.specs.BodyFreedom.{motion_of}
use Rattle.body_freedom.proofs.body.most_about.Given as goal

abbrev pub invariant-loop-p : goal.invariant-loop-p
invariant-loop-p l = most_about (vec l.axis) l.best (map motion_of (drop l.p-index l.others)) ≡ most_about (vec l.axis) l.initial.best (map motion_of l.others)

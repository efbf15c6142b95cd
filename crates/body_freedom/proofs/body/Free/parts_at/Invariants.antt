-- `Free::parts_at` meets its contract. The loop's invariant: the parts of the first motions stand. Assumes nothing.
use mathlib.Core.Path.{◌≡◌}
use mathlib.Core.List.{List, map}
use lib.ListN.{length, take}
use lib.Ieee.{Float}
use Rattle.spans.specs.Basis.{first}
use Rattle.scene.specs.Solve.{three}
use Rattle.body_freedom.specs.BodyFreedom.{motion_of}
use Rattle.body_freedom.proofs.body.Free.parts_at.Given as goal

abbrev pub invariant-loop-i : goal.invariant-loop-i
invariant-loop-i l = (length l.parts ≡ 6) × (first l.i l.parts ≡ map (λ (e : List Float). three e l.o) (map motion_of (take l.i l.p-items)))

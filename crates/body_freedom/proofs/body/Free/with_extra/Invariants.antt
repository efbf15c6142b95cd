-- `Free::with_extra` meets its contract. The loop's invariant: the first slide of its own is among the motions left. Assumes nothing.
use mathlib.Core.Path.{◌≡◌}
use mathlib.Core.List.{map}
use lib.ListN.{drop}
use Rattle.spans.specs.Basis.{basis}
use Rattle.body_freedom.specs.Dof.{extra_slide}
use Rattle.body_freedom.specs.BodyFreedom.{motion_of}
use Rattle.body_freedom.proofs.body.Free.with_extra.Given as goal

abbrev pub invariant-loop-p : goal.invariant-loop-p
invariant-loop-p l = extra_slide (basis l.slides) (map motion_of (drop l.p-index l.p-items)) ≡ extra_slide (basis l.slides) (map motion_of l.p-items)

-- `scene::scene::layout` meets its contract. The invariant: the bodies passed have their entries, and the layout goes on from the next free unknown. The
-- measure is the bodies to come. Assumes nothing.
use Prim.Native.Nat.{◌+◌, ◌-◌, ◌*◌, ◌≤◌}
use Rattle.scene.specs.Scene.{rels_in}
use Rattle.records.specs.Record.{body_at}
use Rattle.least_squares.specs.Lm.{list_of}
use Rattle.scene.proofs.LayoutLaws.{Laying}
use Rattle.scene.proofs.scene.layout.Given as goal

abbrev pub invariant-loop-i : goal.invariant-loop-i
invariant-loop-i l = (l.i ≤ l.m) × Laying (rels_in l.sheet l.rels l.k) (list_of (λ q. body_at l.sheet (l.bodies + 136 * q)) l.m) l.l l.i

abbrev pub decreases-loop-i : goal.decreases-loop-i
decreases-loop-i l = l.m - l.i

-- `scene::scene::count_rows` meets its contract. The invariant: the rows counted and the rows to come are all rows, wherever the bodies stand. The measure is
-- the relations to come. Assumes nothing.
use mathlib.Core.List.{List}
use mathlib.Core.Path.{◌≡◌}
use Prim.Native.Nat.{◌+◌, ◌-◌, ◌*◌, ◌≤◌}
use lib.Ieee.{Float}
use lib.ListN.{length, drop}
use Rattle.scene.specs.Scene.{rels_in}
use Rattle.scene.specs.Solve.{all_rows}
use Rattle.relations.specs.Geometry.{Pose}
use Rattle.scene.proofs.scene.count_rows.Given as goal

abbrev pub invariant-loop-j : goal.invariant-loop-j
invariant-loop-j l = (l.j ≤ l.k) × (l.rows ≤ 7 * l.j) × ((poses : List (Pose Float)) → length (all_rows poses (rels_in l.sheet l.rels l.k)) ≡ l.rows + length (all_rows poses (drop l.j (rels_in l.sheet l.rels l.k))))

abbrev pub decreases-loop-j : goal.decreases-loop-j
decreases-loop-j l = l.k - l.j

-- `scene::scene::named` meets its contract. The invariant: no relation passed names the body, so the relations to come decide. The measure is the relations
-- to come. Assumes nothing.
use mathlib.Core.Path.{◌≡◌}
use Prim.Native.Nat.{◌-◌, ◌≤◌}
use lib.ListN.{drop}
use Rattle.scene.specs.Scene.{rels_in}
use Rattle.scene.specs.Solve.{named}
use Rattle.scene.proofs.scene.named.Given as goal

abbrev pub invariant-loop-j : goal.invariant-loop-j
invariant-loop-j l = (l.j ≤ l.k) × (named (rels_in l.sheet l.rels l.k) l.i ≡ named (drop l.j (rels_in l.sheet l.rels l.k)) l.i)

abbrev pub decreases-loop-j : goal.decreases-loop-j
decreases-loop-j l = l.k - l.j

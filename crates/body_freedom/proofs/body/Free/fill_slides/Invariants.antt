-- `body_freedom::body::fill_slides` meets its contract. The loop's invariant: `out` filled in the rounds left is `slides` filled in three. Assumes nothing.
use Prim.Native.Nat.{◌≤◌, ◌-◌}
use mathlib.Core.Path.{◌≡◌}
use lib.ListN.{length}
use Rattle.spans.specs.Basis.{basis, basis_of}
use Rattle.body_freedom.specs.Dof.{fill_slides}
use Rattle.body_freedom.specs.Motions.{motions}
use Rattle.body_freedom.proofs.body.Free.fill_slides.Given as goal

abbrev pub invariant-loop-k : goal.invariant-loop-k
invariant-loop-k l = (l.k ≤ 3) × (length l.self.pairs ≡ 6) × (l.out ≡ basis_of (basis l.out)) × (l.out.count ≤ 3) × (basis_of (fill_slides (motions l.self) l.turns (3 - l.k) (basis l.out)) ≡ basis_of (fill_slides (motions l.self) l.turns 3 (basis l.initial.out)))

abbrev pub decreases-loop-k : goal.decreases-loop-k
decreases-loop-k l = 3 - l.k

-- `Free::of` meets its contract. The loop's invariant: the free motions of the first pairs are held. Assumes nothing.
use Prim.Native.Nat.{◌≤◌}
use mathlib.Core.Path.{◌≡◌}
use Rattle.body_freedom.specs.Dof.{free_of}
use Rattle.body_freedom.specs.Motions.{motions}
use Rattle.body_freedom.specs.BodyFreedom.{eigens_of}
use Rattle.body_freedom.proofs.body.Free.of.Given as goal

abbrev pub invariant-loop-p : goal.invariant-loop-p
invariant-loop-p l = (l.f.count ≤ l.p-index) × (motions l.f ≡ free_of l.most (eigens_of l.p-index l.p-items))

-- `saving::save::Scene::put_bodies` meets its contract. The invariant: the records of the bodies passed stand from `at` on. Assumes nothing.
use Rattle.std.proofs.Common.{◌≡◌, ◌+◌, ◌*◌, length}
use Rattle.writing.specs.Bytes.{joined, Put}
use Rattle.writing.specs.Writing.{body_bytes}
use Rattle.saving.specs.Saving.{body_parts}
use Rattle.saving.specs.Saved.{body_in}
use Rattle.saving.proofs.save.Scene.put_bodies.Given as goal

abbrev pub invariant-loop-i : goal.invariant-loop-i
invariant-loop-i l =
    (length l.out ≡ length l.initial.out)
    × ((l.next ≡ l.at + 136 * l.i) × Put l.initial.out l.out l.at l.next (joined (λ n. body_bytes (body_parts (body_in l.self n))) l.i))

-- `saving::save::Scene::put_rels` meets its contract. The invariant: the records of the relations passed stand from `at` on. Assumes nothing.
use Rattle.std.proofs.Common.{◌≡◌, ◌+◌, ◌*◌, length}
use Rattle.writing.specs.Bytes.{joined, Put}
use Rattle.writing.specs.Writing.{rel_bytes}
use Rattle.saving.specs.Saving.{rel_parts}
use Rattle.saving.specs.Saved.{rel_in}
use Rattle.saving.proofs.save.Scene.put_rels.Given as goal

abbrev pub invariant-loop-j : goal.invariant-loop-j
invariant-loop-j l =
    (length l.out ≡ length l.initial.out)
    × ((l.next ≡ l.at + 264 * l.j) × Put l.initial.out l.out l.at l.next (joined (λ n. rel_bytes (rel_parts (rel_in l.self n))) l.j))

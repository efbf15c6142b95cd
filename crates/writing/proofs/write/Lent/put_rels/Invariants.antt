-- `writing::write::Lent::put_rels` meets its contract. The invariant: the records of the relations passed stand from `at` on. Assumes nothing.
use Rattle.std.proofs.Common.{◌≡◌, ◌+◌, ◌*◌, length}
use Rattle.writing.specs.Bytes.{joined, Put}
use Rattle.writing.specs.Writing.{rel_bytes}
use Rattle.writing.specs.Lent.{lent_rel}
use Rattle.writing.proofs.write.Lent.put_rels.Given as goal

abbrev pub invariant-loop-j : goal.invariant-loop-j
invariant-loop-j l =
    (length l.out ≡ length l.initial.out)
    × ((l.next ≡ l.at + 264 * l.j) × Put l.initial.out l.out l.at l.next (joined (λ n. rel_bytes (lent_rel l.self.m l.self.bytes.now l.self.words.now l.self.numbers.now n)) l.j))

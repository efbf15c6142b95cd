-- `writing::write::Lent::rels_fault` meets its contract. The invariant: the relations that are passed have no fault. Assumes nothing.
use Rattle.std.proofs.Common.{◌≡◌}
use Rattle.writing.specs.Writing.{rel_parts_fault, first_fault}
use Rattle.writing.specs.Lent.{lent_rel}
use Rattle.writing.proofs.write.Lent.rels_fault.Given as goal

abbrev pub invariant-loop-j : goal.invariant-loop-j
invariant-loop-j l = first_fault (λ n. rel_parts_fault l.self.m (lent_rel l.self.m l.self.bytes.now l.self.words.now l.self.numbers.now n)) l.j ≡ 0

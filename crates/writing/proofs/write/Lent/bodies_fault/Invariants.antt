-- `writing::write::Lent::bodies_fault` meets its contract. The invariant: the bodies that are passed have no fault. Assumes nothing.
use Rattle.std.proofs.Common.{◌≡◌}
use Rattle.writing.specs.Writing.{body_parts_fault, first_fault}
use Rattle.writing.specs.Lent.{lent_body}
use Rattle.writing.proofs.write.Lent.bodies_fault.Given as goal

abbrev pub invariant-loop-i : goal.invariant-loop-i
invariant-loop-i l = first_fault (λ n. body_parts_fault (lent_body l.self.bytes.now l.self.numbers.now n)) l.i ≡ 0

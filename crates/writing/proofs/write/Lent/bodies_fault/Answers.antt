-- `writing::write::Lent::bodies_fault` meets its contract: one more record is one more test in a row (`first_in_row`). Assumes nothing.
use Rattle.std.proofs.Common.{ℕ, ◌≡◌, rules}
use Rattle.faults.specs.Fault.{number}
use Rattle.format.proofs.RefusalLaws.{pass_more, refuses_at}
use Rattle.writing.specs.Writing.{body_parts_fault, first_fault}
use Rattle.writing.specs.Lent.{lent_body}
use Rattle.writing.proofs.LentLaws.{first_in_row}
use Rattle.writing.proofs.write.Lent.bodies_fault.Goals as goal

pub loop-i-init : goal.loop-i-init
loop-i-init c = (first_in_row _).none_yet

pub returns-in_err-body_fault : goal.returns-in_err-body_fault
returns-in_err-body_fault c =
    let s = c.args.self.now in
    let test : ℕ → ℕ = λ n. body_parts_fault (lent_body s.bytes.now s.numbers.now n) in
    let e : number c.in_err-body_fault.field-0.0 ≡ first_fault test s.m =
    refuses_at test _ (first_in_row test) _ c.loop-i.i s.m c.loop-i.invariant c.in_err-body_fault.ensures c.loop-i-test.true in
    search rules

pub loop-i-preserved : goal.loop-i-preserved
loop-i-preserved c = pass_more _ _ (first_in_row _) c.loop-i.i c.loop-i.invariant (search rules)

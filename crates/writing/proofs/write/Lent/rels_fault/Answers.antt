-- `writing::write::Lent::rels_fault` meets its contract: one more record is one more test in a row (`first_in_row`). Assumes nothing.
use Rattle.std.proofs.Common.{ℕ, ◌≡◌, rules}
use Rattle.faults.specs.Fault.{number}
use Rattle.format.proofs.RefusalLaws.{pass_more, refuses_at}
use Rattle.writing.specs.Writing.{rel_parts_fault, first_fault}
use Rattle.writing.specs.Lent.{lent_rel}
use Rattle.writing.proofs.LentLaws.{first_in_row}
use Rattle.writing.proofs.write.Lent.rels_fault.Goals as goal

pub loop-j-init : goal.loop-j-init
loop-j-init c = (first_in_row _).none_yet

pub returns-in_err-rel_fault : goal.returns-in_err-rel_fault
returns-in_err-rel_fault c =
    let s = c.args.self.now in
    let test : ℕ → ℕ = λ n. rel_parts_fault s.m (lent_rel s.m s.bytes.now s.words.now s.numbers.now n) in
    let e : number c.in_err-rel_fault.field-0.0 ≡ first_fault test s.k =
    refuses_at test _ (first_in_row test) _ c.loop-j.j s.k c.loop-j.invariant c.in_err-rel_fault.ensures c.loop-j-test.true in
    search rules

pub loop-j-preserved : goal.loop-j-preserved
loop-j-preserved c = pass_more _ _ (first_in_row _) c.loop-j.j c.loop-j.invariant (search rules)

-- `format::refusals::rels_fault` meets its contract: one more relation is one more test in a row (`rels_in_row`). Assumes nothing.
use Rattle.std.proofs.Common.{◌≡◌, rules}
use Rattle.faults.specs.Fault.{number}
use Rattle.format.specs.Faults.{rels_fault}
use Rattle.format.proofs.RefusalLaws.{rels_in_row, pass_more, refuses_at}
use Rattle.format.proofs.refusals.rels_fault.Goals as goal

pub loop-j-init : goal.loop-j-init
loop-j-init c = (rels_in_row _).none_yet

pub returns-in_err-rel_fault : goal.returns-in_err-rel_fault
returns-in_err-rel_fault c =
    let e : number c.in_err-rel_fault.field-0.0 ≡ rels_fault c.args.s.now c.args.k =
    refuses_at _ _ (rels_in_row c.args.s.now) _ c.loop-j.j c.args.k c.loop-j.invariant (rw (← c.requires.0) c.in_err-rel_fault.ensures) c.loop-j-test.true in
    search rules

pub loop-j-preserved : goal.loop-j-preserved
loop-j-preserved c = pass_more _ _ (rels_in_row c.args.s.now) c.loop-j.j c.loop-j.invariant (rw (← c.requires.0) (search rules))

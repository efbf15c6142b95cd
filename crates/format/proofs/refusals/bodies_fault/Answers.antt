-- `format::refusals::bodies_fault` meets its contract: one more body is one more test in a row (`bodies_in_row`). Assumes nothing.
use Rattle.std.proofs.Common.{◌≡◌, rules}
use Rattle.faults.specs.Fault.{number}
use Rattle.format.specs.Faults.{bodies_fault}
use Rattle.format.proofs.RefusalLaws.{bodies_in_row, pass_more, refuses_at}
use Rattle.format.proofs.refusals.bodies_fault.Goals as goal

pub loop-i-init : goal.loop-i-init
loop-i-init c = (bodies_in_row _).none_yet

pub returns-in_err-body_fault : goal.returns-in_err-body_fault
returns-in_err-body_fault c =
    let e : number c.in_err-body_fault.field-0.0 ≡ bodies_fault c.args.s.now c.args.m =
    refuses_at _ _ (bodies_in_row c.args.s.now) _ c.loop-i.i c.args.m c.loop-i.invariant c.in_err-body_fault.ensures c.loop-i-test.true in
    search rules

pub loop-i-preserved : goal.loop-i-preserved
loop-i-preserved c = pass_more _ _ (bodies_in_row c.args.s.now) c.loop-i.i c.loop-i.invariant (search rules)

-- `sheet::calls::snapped` answers as `SnapAnswer` says: the slice holds the motion before its own rest (`motion_done`), or where a test refuses it is as it was
-- (`motion_kept`). The check finds the end with fewer than twelve doubles by `snap_short` and `motion_short`, which the function names. Assumes nothing.
use Rattle.std.proofs.Common.{◌≡◌, length, sym, rules, arith}
use Rattle.faults.specs.Fault.{number}
use Rattle.faults.proofs.FaultLaws.{number_nonzero}
use Rattle.format.proofs.RefusalLaws.{or_else_fault}
use Rattle.refusals.specs.Refusals.{snap_fault}
use Rattle.sheet.proofs.CallLaws.{motion_done, motion_kept, snap_parts, twelve_lent}
use Rattle.sheet.proofs.calls.snapped.Goals as goal

pub returns-in_err-relation_fault : goal.returns-in_err-relation_fault
returns-in_err-relation_fault c =
    let g = c.args in
    let f = c.in_err-relation_fault.field-0.0 in
    let n : number f ≡ snap_fault g.sheet.now g.relation (length g.motion.now) =
    rw (snap_parts g.sheet.now g.relation (length g.motion.now), ← c.in_err-relation_fault.ensures) (sym (or_else_fault f _)) in
    record { number = search rules; motion = motion_kept _ _ _ _ n (number_nonzero f) }

pub returns : goal.returns
returns c =
    let g = c.args in
    let n : 0 ≡ snap_fault g.sheet.now g.relation (length g.motion.now) =
    rw (snap_parts g.sheet.now g.relation (length g.motion.now), ← c.in_ok-relation_fault.ensures) (twelve_lent (length g.motion.now) (omega arith)) in
    record { number = n; motion = motion_done _ _ _ _ _ n c.motion_of.ensures c.fill.ensures }

-- `sheet::calls::sheet_joint_reading` answers as `ReadingAnswer` says: the two places hold the reading (`reading_done`), or where a test refuses they are as they were
-- (`reading_kept`). Assumes nothing.
use Rattle.std.proofs.Common.{◌∙◌, refl}
use Rattle.faults.proofs.FaultLaws.{refusal_nonzero}
use Rattle.sheet.proofs.CallLaws.{reading_done, reading_kept}
use Rattle.sheet.proofs.calls.sheet_joint_reading.Goals as goal

pub returns-in-Ok : goal.returns-in-Ok
returns-in-Ok c = record { number = c.in-Ok.ensures.number; reading = reading_done _ _ _ _ _ c.in-Ok.ensures.number refl c.in-Ok.ensures.value }

pub returns-in-Err : goal.returns-in-Err
returns-in-Err c =
    let n = c.number.ensures ∙ c.in-Err.ensures.number in
    record { number = n; reading = reading_kept _ _ _ _ n (refusal_nonzero c.in-Err.fault _ c.number.ensures) }

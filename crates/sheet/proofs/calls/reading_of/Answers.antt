-- `sheet::calls::reading_of` meets its contract: where the tests pass, all bodies stand within the sheet (`reading_passes`), as the reading of poses asks. Relation and
-- poses put into what `joint_reading` promises are the definition (`reading_is`). Assumes nothing.
use native.Mathlib.Omega.{arith}
use Rattle.sheet.proofs.CallLaws.{reading_is, reading_passes}
use Rattle.sheet.proofs.calls.reading_of.Goals as goal

pub pose_in-qa-requires : goal.pose_in-qa-requires
pose_in-qa-requires c = omega (arith, (reading_passes _ _ c.requires).whole)

pub pose_in-qb-requires : goal.pose_in-qb-requires
pose_in-qb-requires c = omega (arith, (reading_passes _ _ c.requires).whole)

pub returns : goal.returns
returns c = reading_is _ _ _ _ _ _ c.relation_of-rel.ensures c.pose_in-qa.ensures c.pose_in-qb.ensures c.joint_reading.ensures

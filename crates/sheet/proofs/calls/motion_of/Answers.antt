-- `sheet::calls::motion_of` meets its contract: where the tests pass, all bodies stand within the sheet (`reading_passes`), as the reading of poses and centre asks.
-- Relation, poses and centre put into what `snap` promises are the definition (`motion_is`). Assumes nothing.
use native.Mathlib.Omega.{arith}
use Rattle.sheet.proofs.CallLaws.{motion_is, reading_passes}
use Rattle.sheet.proofs.calls.motion_of.Goals as goal

pub pose_in-qa-requires : goal.pose_in-qa-requires
pose_in-qa-requires c = omega (arith, (reading_passes _ _ c.requires).whole)

pub pose_in-qb-requires : goal.pose_in-qb-requires
pose_in-qb-requires c = omega (arith, (reading_passes _ _ c.requires).whole)

pub center_in-center-requires : goal.center_in-center-requires
center_in-center-requires c = omega (arith, (reading_passes _ _ c.requires).whole)

pub returns : goal.returns
returns c = motion_is _ _ _ _ _ _ _ c.relation_of-rel.ensures c.pose_in-qa.ensures c.pose_in-qb.ensures c.center_in-center.ensures c.snap.ensures

-- `sheet::calls::relation_of` meets its contract: where the tests pass, the sheet is as long as its header says and has this relation (`reading_passes`), so the record
-- stands within it. With the count of bodies that is read, its place is the definition's. Assumes nothing.
use native.Mathlib.Omega.{arith}
use Rattle.sheet.proofs.CallLaws.{reading_passes}
use Rattle.sheet.proofs.calls.relation_of.Goals as goal

pub u16_at-m-requires : goal.u16_at-m-requires
u16_at-m-requires c = omega (arith, (reading_passes _ _ c.requires).header)

pub rel_at-requires : goal.rel_at-requires
rel_at-requires c = omega (arith, (reading_passes _ _ c.requires).whole, (reading_passes _ _ c.requires).below, c.u16_at-m.ensures)

pub returns : goal.returns
returns c = rw (c.rel_at.ensures, c.u16_at-m.ensures)

-- `report::run::answer` meets its contract: a sheet without fault has a whole header (`sheet_passes`) and at most 64 bodies and 128 relations (`counted`), as
-- `answer_text` asks. The counts read are the sheet's, and the text with them is the definition's (`put_counted`). Assumes nothing.
use native.Mathlib.Omega.{arith}
use lib.Dec.{eqb}
use Rattle.format.proofs.RefusalLaws.{sheet_passes}
use Rattle.refusals.proofs.FigureLaws.{counted}
use Rattle.report.proofs.RunLaws.{put_counted}
use Rattle.report.proofs.run.answer.Goals as goal

pub u16_at-m-requires : goal.u16_at-m-requires
u16_at-m-requires c = omega (arith, (sheet_passes _ c.requires.sheet_value).header)

pub u16_at-k-requires : goal.u16_at-k-requires
u16_at-k-requires c = omega (arith, (sheet_passes _ c.requires.sheet_value).header)

pub answer_text-requires : goal.answer_text-requires
answer_text-requires c =
    let n = counted _ c.requires.sheet_value in
    let k = c.u16_at-k.ensures in
    let m = c.u16_at-m.ensures in
    record { k_bound = omega (arith, n.1, k); k_in_bounds = omega (arith, n.1, k, c.requires.errors_len); free_bound = omega (arith, c.requires.free_bound); m_bound = omega (arith, n.0, m); m_in_bounds = omega (arith, n.0, m, c.requires.freedoms_len); in_bounds = c.requires.in_bounds }

pub returns : goal.returns
returns c =
    let g = c.args in
    put_counted _ _ _ _ (eqb g.converged 1) g.errors.now _ _ g.free g.freedoms.now _ _ c.u16_at-k.ensures c.u16_at-m.ensures c.answer_text.ensures

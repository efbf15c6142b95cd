-- `placement::solve::put_answer`: the poses of the unknowns at `x` are worked at the end of the scratch, from where poses, frames and errors are filled in (`shown_is`). Assumes
-- nothing.
use native.Mathlib.Omega.{arith}
use Rattle.rounds.proofs.RoundLaws.{arranged_within}
use Rattle.placement.proofs.SolveLaws.{shown_is}
use Rattle.placement.proofs.solve.put_answer.Goals as goal

pub put_errors-requires : goal.put_errors-requires
put_errors-requires c =
    let y = c.poses_at.ensures.kept.size in
    record { m_in_bounds = omega (arith, (arranged_within c.args.solver.now.arranged c.requires.scratch).poses, y); k_in_bounds = c.requires.k_in_bounds }

pub returns : goal.returns
returns c =
    let g = c.args in
    shown_is g.solver.now.sheet.bytes.now g.solver.now.sheet.scene g.solver.now.parts _ _ _ _ _ _ _ _ c.poses_at.ensures c.copy_over.ensures c.put_frames.ensures c.put_errors.ensures

-- `placement::solve::worst` meets its contract: `rows_at` promises that the rows at the unknowns from x on stand at `ahead` and that nothing before `ahead` has
-- changed, and `largest` promises the largest magnitude among those rows (`worst_is`). Assumes nothing.
use native.Mathlib.Omega.{arith}
use Rattle.scene.specs.Scene.{scene_of}
use Rattle.placement.proofs.SolveLaws.{worst_is}
use Rattle.placement.proofs.solve.worst.Goals as goal

pub rows_at-requires : goal.rows_at-requires
rows_at-requires c = record { n_bound = omega arith; rows_bound = omega arith; m_in_bounds = omega arith }

pub returns : goal.returns
returns c =
    let g = c.args in
    worst_is (scene_of g.solver.now.sheet.bytes.now g.solver.now.sheet.scene) g.solver.now.sheet.scene g.solver.now.parts g.s.now _ g.x _ c.rows_at.ensures c.largest.ensures

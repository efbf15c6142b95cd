-- `scene::scene::Sheet::rows_at` meets its contract: the poses read from p on are those that were written there, so the rows at them are the rows at the unknowns. Neither
-- call changes a place below p outside the rows (`rows_at_is`). Assumes nothing.
use mathlib.Core.Path.{◌∙◌}
use native.Mathlib.Omega.{arith}
use Rattle.scene.proofs.SceneLaws.{rows_at_is}
use Rattle.scene.proofs.scene.Sheet.rows_at.Goals as goal

pub poses_at-requires : goal.poses_at-requires
poses_at-requires c = record { n_bound = omega arith; m_in_bounds = omega arith }

pub residuals-requires : goal.residuals-requires
residuals-requires c = let z = c.poses_at.ensures.kept.size in record { rows_bound = omega arith; m_in_bounds = omega arith }

pub shape_of-s : goal.shape_of-s
shape_of-s c = c.residuals.ensures.kept.size ∙ c.poses_at.ensures.kept.size

pub returns : goal.returns
returns c = let g = c.args in rows_at_is g.self.bytes.now g.self.scene _ _ _ g.x g.r g.p (omega arith) c.poses_at.ensures c.residuals.ensures

-- The table and the flags of specs/Cases.antt hold. By computation. Assumes nothing.
use mathlib.Core.Path.{refl}
use lib.Ieee.{add, sub, mul, div, rem, neg, lt, le, eq, of_bits, is_nan}
use Rattle.numbers.specs.Double.{negative, is_finite, abs, fmax, rem_euclid}
use Rattle.numbers.specs.Horner.{horner}
use Rattle.numbers.specs.MaxAbs.{max_abs}
use Rattle.arcs.specs.Root.{root}
use Rattle.arcs.specs.Arcs.{arctangent, series}
use Rattle.relations.specs.Geometry.{placed}
use Rattle.relations.specs.Rows.{wrap, tangent_gap, plane_gap, round_gap, mate_prim, mate_rows, formula_rows, residual}
use Rattle.least_squares.specs.Lm.{list_of, table_of, jacobian, run}
use Rattle.scene.specs.Solve.{third_body, names, named, moves, layout_from, unknowns_in, pose_at, poses_from, all_rows, half_size, weights_from, solved, solve_with}
use Rattle.body_freedom.specs.Dof.{scaled_from, rank_rel, unnamed_from, total_freedom, dof}
use Rattle.sheet.specs.Cases.{table, Marked}

pub marked_cases : Marked
unfolding table wrap rem_euclid half_size fmax tangent_gap plane_gap round_gap abs root max_abs arctangent series horner negative add sub mul div rem neg lt le eq of_bits is_nan is_finite solve_with solved unknowns_in layout_from moves named names third_body pose_at poses_from all_rows residual formula_rows placed mate_prim mate_rows list_of weights_from run dof total_freedom unnamed_from scaled_from rank_rel jacobian table_of
marked_cases = record { numbers = refl; flags = record { none_asked = refl; at_limit = refl; past_limit = refl; unnamed = refl } }

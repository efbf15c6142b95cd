-- `body_freedom::body_slopes::square`: six rows of six make the table. The list has room for 896 rows at each call, as its length stays. Assumes nothing.
use native.Mathlib.Omega.{arith}
use Rattle.body_freedom.specs.Dof.{columns_times}
use Rattle.body_freedom.proofs.BodySlopeLaws.{six_rows}
use Rattle.body_freedom.proofs.body_slopes.square.Goals as goal

pub square_row-r0-requires : goal.square_row-r0-requires
square_row-r0-requires c = record { i_bound = omega arith; rows_in_bounds = c.requires.rows_in_bounds; rows_in_bounds_2 = omega arith; finite_at = c.requires.finite_at }

pub square_row-r1-requires : goal.square_row-r1-requires
square_row-r1-requires c = record { i_bound = omega arith; rows_in_bounds = c.requires.rows_in_bounds; rows_in_bounds_2 = omega arith; finite_at = c.requires.finite_at }

pub square_row-r2-requires : goal.square_row-r2-requires
square_row-r2-requires c = record { i_bound = omega arith; rows_in_bounds = c.requires.rows_in_bounds; rows_in_bounds_2 = omega arith; finite_at = c.requires.finite_at }

pub square_row-r3-requires : goal.square_row-r3-requires
square_row-r3-requires c = record { i_bound = omega arith; rows_in_bounds = c.requires.rows_in_bounds; rows_in_bounds_2 = omega arith; finite_at = c.requires.finite_at }

pub square_row-r4-requires : goal.square_row-r4-requires
square_row-r4-requires c = record { i_bound = omega arith; rows_in_bounds = c.requires.rows_in_bounds; rows_in_bounds_2 = omega arith; finite_at = c.requires.finite_at }

pub square_row-r5-requires : goal.square_row-r5-requires
square_row-r5-requires c = record { i_bound = omega arith; rows_in_bounds = c.requires.rows_in_bounds; rows_in_bounds_2 = omega arith; finite_at = c.requires.finite_at }

pub returns : goal.returns
returns c =
    let g = c.args in
    six_rows (columns_times g.s.now g.rows 6) _ _ _ _ _ _ c.square_row-r0.ensures c.square_row-r1.ensures c.square_row-r2.ensures c.square_row-r3.ensures c.square_row-r4.ensures c.square_row-r5.ensures

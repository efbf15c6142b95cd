-- `body_freedom::square::columns_times` meets its contract: where the sum over the list is a zero and all products are -0, the sum from -0 is -0, and else the sum over the list. Assumes nothing.
use mathlib.Core.Path.{sym, ◌∙◌}
use native.Mathlib.Omega.{arith}
use lib.ListN.{length}
use Rattle.body_freedom.proofs.SquareLaws.{rows_within, times_minus, times_plus, times_filled}
use Rattle.body_freedom.proofs.square.columns_times.Goals as goal
use Rattle.body_freedom.proofs.square.columns_times.Goals.{else-t-via-then-t+else-all_minus, else-t-via-else-t}

pub sum_over-t-requires : goal.sum_over-t-requires
sum_over-t-requires c =
    let g = c.args in
    let few = c.requires.filled.few in
    record { i_lt_n = (c.requires.i_lt_n.0, c.requires.i_lt_n.1, omega arith); by_index = rows_within g.s.now g.rows g.n g.i g.list.now g.count (length g.s.now) (omega arith) c.requires.n_in_bounds c.requires.filled }

pub returns-then-all_minus : goal.returns-then-all_minus
returns-then-all_minus c =
    let g = c.args in
    times_minus g.s.now g.rows g.n g.i g.k g.list.now g.count c.sum_over-t.result c.requires.i_lt_n.1 c.requires.finite_at c.requires.filled c.sum_over-t.ensures (rw (← c.all_minus.ensures) c.if-all_minus.true)

pub returns-else-t : goal.returns-else-t
returns-else-t c =
    let g = c.args in
    elim c.else-t.branch [
      | else-t-via-then-t+else-all_minus w ↦ times_plus g.s.now g.rows g.n g.i g.k g.list.now g.count c.sum_over-t.result c.requires.i_lt_n.1 c.requires.finite_at c.requires.filled c.sum_over-t.ensures (sym w.all_minus.ensures ∙ w.if-all_minus.false)
      | else-t-via-else-t w ↦ times_filled g.s.now g.rows g.n g.i g.k g.list.now g.count c.sum_over-t.result c.requires.i_lt_n.1 c.requires.finite_at c.requires.filled c.sum_over-t.ensures w.if-t.false
    ]

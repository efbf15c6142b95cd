-- `freedom::total::rank_rel`: without rows or unknowns the rank is 0; else the square is put behind the slopes, its values behind it, and the rank is by them. The values are worked out
-- in the rest that is lent from the square on (`rank_rel_is`). Assumes nothing.
use Rattle.freedom.proofs.TotalLaws.{rank_no_rows, rank_no_columns, rank_rel_is}
use borrow.Author.Tests.{eq-eqb, ne_eqb}
use Rattle.freedom.proofs.total.rank_rel.Goals as goal

pub returns-then-rows-eq0 : goal.returns-then-rows-eq0
returns-then-rows-eq0 c = rank_no_rows _ _ _ (eq-eqb _ _ c.if-rows-eq0.true)

pub returns-then-n-eq0 : goal.returns-then-n-eq0
returns-then-n-eq0 c = rank_no_columns _ _ _ (ne_eqb _ _ c.if-rows-eq0.false) (eq-eqb _ _ c.if-n-eq0.true)

pub returns : goal.returns
returns c =
    let g = c.args in
    rank_rel_is g.s.now _ _ g.rows g.n c.rank_of.result c.requires.n_in_bounds (ne_eqb _ _ c.if-rows-eq0.false) (ne_eqb _ _ c.if-n-eq0.false) c.square.ensures
    c.values.ensures
    c.rank_of.ensures

-- `eigen::rotate`: where the entry pq is next to nothing, all stays; else the calls give the angle and turn m and v by it, as the definition does. Rows p and q lie within m
-- (`rows_in`), which answers all questions of places. Assumes nothing.
use Rattle.eigen.specs.Eigen.{rotate}
use Rattle.eigen.proofs.EigenLaws.{turn_rows_of, rotated}
use Rattle.eigen.proofs.eigen.rotate.Goals as goal

pub returns-then-abs : goal.returns-then-abs
unfolding rotate
returns-then-abs c = rw (← c.abs.ensures, c.if-abs.true)

pub returns : goal.returns
returns c =
    let g = c.args in
    rotated g.n g.p g.q g.m.now g.v.now c.abs.ensures c.if-abs.false
    c.tangent-t.ensures
    c.cosine-c.ensures
    c.turn_columns.ensures
    c.turn_rows.ensures
    (turn_rows_of _ _ _ _ c.requires.rows c.turn_columns-2.ensures)

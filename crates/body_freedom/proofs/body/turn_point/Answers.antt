-- `body_freedom::body::turn_point`: its steps are those of the definition; a motion that does not turn has its point at the centre. Assumes nothing.
use Rattle.vectors.specs.Vec.{vec}
use Rattle.body_freedom.proofs.BodyLaws.{turn_point_some, turn_point_none}
use Rattle.body_freedom.proofs.body.turn_point.Goals as goal

pub returns-then-w2 : goal.returns-then-w2
returns-then-w2 c =
    let g = c.args in
    turn_point_some (vec g.center) g.l g.e (vec c.turn_part.result) (vec c.mul-w.result) c.dot-w2.result c.turn_part.ensures c.mul-w.ensures
    c.dot-w2.ensures
    (vec c.slide_part.result)
    (vec c.cross.result)
    (vec c.mul.result)
    (vec c.add.result)
    c.if-w2.true
    c.slide_part.ensures
    c.cross.ensures
    c.mul.ensures
    c.add.ensures

pub returns-else-w2 : goal.returns-else-w2
returns-else-w2 c =
    let g = c.args in
    turn_point_none (vec g.center) g.l g.e (vec c.turn_part.result) (vec c.mul-w.result) c.dot-w2.result c.turn_part.ensures c.mul-w.ensures
    c.dot-w2.ensures
    c.if-w2.false

-- `Free::point_about` meets its contract: with no free motion the definition has the centre (`point_none`); else it has what `turn_point` promises of the motion that
-- `most_about` promises (`point_some`). Assumes nothing.
use Rattle.vectors.specs.Vec.{vec}
use Rattle.body_freedom.proofs.BodyLaws.{point_none, point_some}
use Rattle.body_freedom.proofs.body.Free.point_about.Goals as goal

pub returns-in-empty : goal.returns-in-empty
returns-in-empty c = rw (← c.free_pairs.ensures) (point_none (vec c.args.center) c.args.l (vec c.args.axis) c.free_pairs.result.now c.in-empty.len_below)

pub returns-in-len1-up : goal.returns-in-len1-up
returns-in-len1-up c =
    let ps = c.free_pairs.result.now in
    rw (← c.free_pairs.ensures)
    (point_some (vec c.args.center) c.args.l (vec c.args.axis) ps c.most_about.result (vec c.turn_point.result) c.in-len1-up.len_at_least c.most_about.ensures c.turn_point.ensures)

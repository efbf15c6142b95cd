-- `body_freedom::body::most_about` meets its contract. The loop's invariant: `best` and the motions left give what all do. Assumes nothing.
use native.Mathlib.Omega.{arith}
use mathlib.Core.Path.{sym, ◌∙◌}
use Rattle.vectors.specs.Vec.{vec}
use Rattle.body_freedom.proofs.BodyLaws.{most_step, most_end}
use Rattle.body_freedom.proofs.body.most_about.Goals as goal

pub loop-p-preserved : goal.loop-p-preserved
loop-p-preserved c =
    let l = c.loop-p in
    sym (most_step (vec c.args.axis) c.args.others.now l.p-index l.best c.turning_more-b.result (omega arith) c.turning_more-b.ensures) ∙ l.invariant

pub returns : goal.returns
returns c =
    let l = c.loop-p in
    sym (most_end (vec c.args.axis) c.args.others.now l.p-index l.best (omega arith)) ∙ l.invariant

-- `body_freedom::body::push_slide` meets its contract: the vectors are a list followed by zeros, so writing what `normalized` promises to the first free place puts it
-- at the end of the list (`push`). Assumes nothing.
use Rattle.vectors.specs.Vec.{vec, normalized}
use Rattle.body_freedom.proofs.BodyLaws.{push}
use Rattle.body_freedom.proofs.body.push_slide.Goals as goal

pub returns : goal.returns
returns c = push c.args.slides c.requires.0 c.normalized.result (normalized (vec c.args.v)) c.requires.1 c.normalized.ensures

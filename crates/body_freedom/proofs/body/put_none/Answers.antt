-- `body_freedom::body::put_none` meets its contract. The doubles of no slides and no turns. Assumes nothing.
use native.Mathlib.Omega.{arith}
use mathlib.Core.Path.{refl}
use mathlib.Core.List.{[]}
use Rattle.body_freedom.specs.Dof.{Freedom}
use Rattle.body_freedom.specs.BodyFreedom.{freedom_struct}
use Rattle.body_freedom.proofs.BodyLaws.{put_struct}
use Rattle.body_freedom.proofs.body.put_none.Goals as goal

abbrev none : Freedom
none = record { slides = []; turns = [] }

pub returns : goal.returns
returns c = put_struct _ _ _ (freedom_struct none) none refl (omega arith) (omega arith) c.put_freedom.ensures

-- `scene::scene::rel_rows` meets its contract: no body has the number m, so that the poses stand as they are (`none_moved`). Assumes nothing.
use mathlib.Core.Path.{ap, ◌∙◌}
use mathlib.Core.List.{List}
use lib.Ieee.{Float}
use Rattle.relations.specs.Geometry.{Pose}
use Rattle.relations.specs.Model.{rel_of}
use Rattle.relations.specs.Rows.{pack}
use Rattle.scene.specs.Solve.{rows_at}
use Rattle.scene.proofs.SceneLaws.{none_moved}
use Rattle.scene.proofs.scene.rel_rows.Goals as goal

pub returns : goal.returns
returns c =
    let g = c.args in
    c.rel_rows_moved.ensures ∙ ap (λ (l : List (Pose Float)). pack (rows_at l (rel_of g.rel))) (none_moved g.s.now g.p g.m _)

-- `freedom::total::scale_body`: half the size is that of the body's record, and by it the body's turning unknowns are scaled. Assumes nothing.
use mathlib.Core.Path.{ap, subst, ◌∙◌}
use native.Mathlib.Omega.{arith}
use lib.ListN.{get_or}
use lib.Ieee.{Float}
use Rattle.least_squares.specs.Memory.{part}
use Rattle.relations.specs.Model.{Body}
use Rattle.std.specs.Prelude.{None}
use Rattle.scene.specs.Scene.{first_unknown, Put}
use Rattle.scene.specs.Solve.{half_size}
use Rattle.scene.proofs.SceneLaws.{laid_first}
use Rattle.freedom.specs.Total.{scaled_by}
use Rattle.freedom.proofs.total.scale_body.Goals as goal

pub scale_turns-requires : goal.scale_turns-requires
scale_turns-requires c = record { n_in_bounds = omega arith; first_bound = λ k e. laid_first c.args.sheet.bytes.now c.args.sheet.scene c.args.i k c.args.sheet.laid (omega arith) e }

pub returns : goal.returns
returns c =
    let g = c.args in
    let e = c.half_size-l.ensures ∙ ap (λ (b : Body). half_size b.size) c.body-b.ensures in
    subst (λ (l : Float). Put g.s.now c.scale_turns.new.s g.z g.sheet.scene.n (scaled_by (part g.s.now g.z g.sheet.scene.n) l (first_unknown (get_or g.sheet.scene.index g.i None)))) e
    c.scale_turns.ensures

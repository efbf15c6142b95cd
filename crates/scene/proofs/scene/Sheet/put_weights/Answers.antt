-- `scene::scene::Sheet::put_weights`: a body without unknowns has no weights (`no_weights`), one with unknowns has the six that `put_six` writes (`some_weights`). Assumes nothing.
use mathlib.Core.List.{map}
use mathlib.Core.Path.{◌≡◌, refl, sym, ap, ◌∙◌}
use native.Mathlib.Omega.{arith}
use lib.ListN.{length}
use Rattle.scene.specs.Scene.{inverse_at}
use Rattle.scene.specs.Solve.{body_weights, half_size}
use Rattle.least_squares.specs.Lm.{inverse_weight}
use Rattle.relations.specs.Model.{Body, body_number}
use Rattle.scene.proofs.SceneLaws.{no_weights, some_weights, put_nothing, put_six_is}
use Rattle.scene.proofs.scene.Sheet.put_weights.Goals as goal

pub returns-in_default : goal.returns-in_default
returns-in_default c =
    let g = c.args in
    put_nothing _ _ _ (no_weights g.self.bytes.now g.self.scene g.weight (body_number g.drag) g.i c.in_default.is)

pub put_six-requires : goal.put_six-requires
put_six-requires c =
    let g = c.args in
    let six : length (inverse_at g.self.bytes.now g.self.scene g.weight (body_number g.drag) g.i) ≡ 6 = ap length (some_weights g.self.bytes.now g.self.scene g.weight (body_number g.drag) g.i _ c.in-Some.is) in
    omega (arith, c.requires.i_in_bounds)

pub overflow_add-result : goal.overflow_add-result
overflow_add-result c =
    let g = c.args in
    let z = c.put_six.ensures.kept.size in
    let six : length (inverse_at g.self.bytes.now g.self.scene g.weight (body_number g.drag) g.i) ≡ 6 = ap length (some_weights g.self.bytes.now g.self.scene g.weight (body_number g.drag) g.i _ c.in-Some.is) in
    omega (arith, c.requires.i_in_bounds)

pub shape_of-s : goal.shape_of-s
shape_of-s c = c.put_six.ensures.kept.size

pub returns : goal.returns
returns c =
    let g = c.args in
    let d = c.drag_factor.ensures in
    let h = c.half_size.ensures ∙ ap half_size (ap (λ (b : Body). b.size) c.body-b.ensures) in
    let six = some_weights g.self.bytes.now g.self.scene g.weight (body_number g.drag) g.i _ c.in-Some.is in
    put_six_is _ _ _ _ _ _ refl (six ∙ sym (λ v. map inverse_weight (body_weights (d v) (h v)))) refl c.put_six.ensures

-- `scene::scene::layout` meets its contract. The invariant: the bodies passed have their entries, and the layout goes on from the next free unknown. The
-- measure is the bodies to come. Assumes nothing.
use mathlib.Core.Path.{sym, subst}
use Prim.Native.Nat.{◌+◌, ◌*◌}
use native.Mathlib.Omega.{arith}
use Rattle.scene.specs.Scene.{rels_in}
use Rattle.records.specs.Record.{body_at}
use Rattle.least_squares.specs.Lm.{list_of}
use Rattle.scene.proofs.SceneLaws.{list_of_next}
use Rattle.scene.proofs.LayoutLaws.{Laying, laying_start, laying_step, laying_end}
use Rattle.scene.proofs.scene.layout.Goals as goal

pub loop-i-init : goal.loop-i-init
loop-i-init c = (omega arith, laying_start _ _)

pub moves-moving-requires : goal.moves-moving-requires
moves-moving-requires c = record { o_in_bounds = omega arith; k_in_bounds = omega arith }

pub place_body-next-requires : goal.place_body-next-requires
place_body-next-requires c = let z = c.loop-i.invariant.1.small in record { i_bound = omega arith; n_bound = omega arith }

pub loop-i-preserved : goal.loop-i-preserved
loop-i-preserved c =
    let g = c.args in
    let v = c.loop-i in
    let rs = rels_in g.sheet.now g.rels g.k in
    let bs = list_of (λ q. body_at g.sheet.now (g.bodies + 136 * q)) g.m in
    let here = list_of_next (λ q. body_at g.sheet.now (g.bodies + 136 * q)) g.m v.i (omega arith) in (
      omega arith,
      subst (λ w. Laying rs bs w (v.i + 1)) (sym c.place_body-next.ensures)
          (laying_step rs bs v.l v.i (body_at g.sheet.now (g.bodies + 136 * v.i)) (omega arith) here v.invariant.1 c.moves-moving.result (sym c.moves-moving.ensures)),
    )

pub returns : goal.returns
returns c = let g = c.args in laying_end g.sheet.now g.bodies g.m g.rels g.k c.loop-i.l c.loop-i.i (omega arith) c.loop-i.invariant.1

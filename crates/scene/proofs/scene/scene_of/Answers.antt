-- `scene::scene::scene_of` meets its contract: the counts and places are the arguments, the unknowns and the index are what `layout` promises, and the rows what
-- `count_rows` promises for any poses (`scene_made`). So the record is laid out, and its counts are small (`scene_small`). Assumes nothing.
use native.Mathlib.Omega.{arith}
use Rattle.scene.proofs.LayoutLaws.{scene_made, scene_small}
use Rattle.scene.proofs.scene.scene_of.Goals as goal

pub layout-l-requires : goal.layout-l-requires
layout-l-requires c = record { m_bound = omega arith; m_in_bounds = omega arith; k_in_bounds = omega arith }

pub count_rows-rows-requires : goal.count_rows-rows-requires
count_rows-rows-requires c = record { k_bound = omega arith; k_in_bounds = omega arith }

pub invariant_of-result : goal.invariant_of-result
invariant_of-result c =
    let g = c.args in
    let made =
    scene_made g.sheet.now g.bodies g.m g.rels g.k c.layout-l.result c.count_rows-rows.result c.requires.m_bound c.requires.k_bound c.requires.m_in_bounds c.requires.k_in_bounds
    c.layout-l.ensures
    c.count_rows-rows.ensures in
    record { laid = made.laid; small = scene_small _ _ made.laid }

pub returns-clause-made : goal.returns-clause-made
returns-clause-made c =
    let g = c.args in
    scene_made g.sheet.now g.bodies g.m g.rels g.k c.layout-l.result c.count_rows-rows.result c.requires.m_bound c.requires.k_bound c.requires.m_in_bounds c.requires.k_in_bounds
    c.layout-l.ensures
    c.count_rows-rows.ensures

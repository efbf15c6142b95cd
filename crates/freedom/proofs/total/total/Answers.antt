-- `freedom::total::total`: the unknowns and the slopes are cleared, all is lent from the unknowns on to slope filling and from the slopes on to the rank, and the free bodies that no
-- relation names are counted. The parts are apart at entry (`apart`) and once all is cleared (`cleared`); the sum is the definition's (`total_of`), in both branches. Assumes nothing.
use Rattle.freedom.proofs.TotalLaws.{total_apart, still_apart, slopes_ready, lent_finite, total_is}
use mathlib.Core.Path.{◌≡◌, ◌∙◌}
use Prim.Native.Nat.{◌+◌, ◌-◌, min}
use native.Mathlib.Omega.{arith}
use borrow.Author.Rules.{rules}
use lib.ListN.{length, length-take, length-drop}
use Rattle.scene.specs.Scene.{scene_of}
use Rattle.body_freedom.specs.Dof.{total_freedom}
use Rattle.freedom.specs.Total.{TotalApart}
use Rattle.freedom.proofs.total.total.Goals as goal

pub overflow_mul-rows : goal.overflow_mul-rows
overflow_mul-rows c =
    let apart : let g = c.args in TotalApart g.sheet.scene c.total_parts-parts.result (length g.s.now) =
    total_apart c.args.sheet.scene c.total_parts-parts.result (length c.args.s.now) c.total_parts-parts.ensures c.requires.scene_in_bounds in
    let h = apart in
    let k = c.clear.ensures.kept.size in
    omega arith

pub clear-requires-2 : goal.clear-requires-2
clear-requires-2 c =
    let apart : let g = c.args in TotalApart g.sheet.scene c.total_parts-parts.result (length g.s.now) =
    total_apart c.args.sheet.scene c.total_parts-parts.result (length c.args.s.now) c.total_parts-parts.ensures c.requires.scene_in_bounds in
    let h = apart in
    let k = c.clear.ensures.kept.size in
    omega arith

pub slopes-requires : goal.slopes-requires
slopes-requires c =
    let apart : let g = c.args in TotalApart g.sheet.scene c.total_parts-parts.result (length g.s.now) =
    total_apart c.args.sheet.scene c.total_parts-parts.result (length c.args.s.now) c.total_parts-parts.ensures c.requires.scene_in_bounds in
    let h = slopes_ready c.args.sheet.scene _ c.args.s.now _ _ apart c.clear.ensures c.clear-2.ensures in
    record { total_apart = h.0; n_value = h.1.0; n_value_2 = h.1.1 }

pub offset_bounds-s-at : goal.offset_bounds-s-at
offset_bounds-s-at c =
    let apart : let g = c.args in TotalApart g.sheet.scene c.total_parts-parts.result (length g.s.now) =
    total_apart c.args.sheet.scene c.total_parts-parts.result (length c.args.s.now) c.total_parts-parts.ensures c.requires.scene_in_bounds in
    let cleared : TotalApart c.args.sheet.scene c.total_parts-parts.result (length c.clear-2.new.s) =
    still_apart _ _ _ _ (c.clear-2.ensures.kept.size ∙ c.clear.ensures.kept.size) apart in
    let h = cleared in omega arith

pub slice_bounds-rank_rel-count : goal.slice_bounds-rank_rel-count
slice_bounds-rank_rel-count c =
    let apart : let g = c.args in TotalApart g.sheet.scene c.total_parts-parts.result (length g.s.now) =
    total_apart c.args.sheet.scene c.total_parts-parts.result (length c.args.s.now) c.total_parts-parts.ensures c.requires.scene_in_bounds in
    let cleared : TotalApart c.args.sheet.scene c.total_parts-parts.result (length c.clear-2.new.s) =
    still_apart _ _ _ _ (c.clear-2.ensures.kept.size ∙ c.clear.ensures.kept.size) apart in
    let h = cleared in omega arith

pub rank_rel-rank-requires : goal.rank_rel-rank-requires
rank_rel-rank-requires c =
    let apart : let g = c.args in TotalApart g.sheet.scene c.total_parts-parts.result (length g.s.now) =
    total_apart c.args.sheet.scene c.total_parts-parts.result (length c.args.s.now) c.total_parts-parts.ensures c.requires.scene_in_bounds in
    let cleared : TotalApart c.args.sheet.scene c.total_parts-parts.result (length c.clear-2.new.s) =
    still_apart _ _ _ _ (c.clear-2.ensures.kept.size ∙ c.clear.ensures.kept.size) apart in
    let h = cleared in
    record { n_in_bounds = simp (length-take, length-drop) (omega arith); rows_bound = c.args.sheet.small.0; finite_at = lent_finite _ c.clear-2.new.s c.slopes.new.s _ _ _ (simp (length-take, length-drop) (omega arith)) c.slopes.ensures }

pub returns-then-rank-n : goal.returns-then-rank-n
returns-then-rank-n c =
    let apart : let g = c.args in TotalApart g.sheet.scene c.total_parts-parts.result (length g.s.now) =
    total_apart c.args.sheet.scene c.total_parts-parts.result (length c.args.s.now) c.total_parts-parts.ensures c.requires.scene_in_bounds in
    let total_of : let g = c.args in let n = g.sheet.scene.n in n - min c.rank_rel-rank.result n + c.unnamed-unused.result ≡ total_freedom (scene_of g.sheet.bytes.now g.sheet.scene) =
    let g = c.args in
    total_is g.sheet.bytes.now g.sheet.scene _ g.s.now _ _ _ c.rank_rel-rank.result c.unnamed-unused.result c.args.sheet.laid apart c.clear.ensures c.clear-2.ensures
    c.slopes.ensures
    c.rank_rel-rank.ensures
    c.unnamed-unused.ensures.0 in
    let rank = c.rank_rel-rank.result in
    let n = c.args.sheet.scene.n in
    let e : n - rank + c.unnamed-unused.result ≡ n - min rank n + c.unnamed-unused.result = omega arith in
    record { size = search rules; total_is = e ∙ total_of }

pub returns-else-rank-n : goal.returns-else-rank-n
returns-else-rank-n c =
    let apart : let g = c.args in TotalApart g.sheet.scene c.total_parts-parts.result (length g.s.now) =
    total_apart c.args.sheet.scene c.total_parts-parts.result (length c.args.s.now) c.total_parts-parts.ensures c.requires.scene_in_bounds in
    let total_of : let g = c.args in let n = g.sheet.scene.n in n - min c.rank_rel-rank.result n + c.unnamed-unused.result ≡ total_freedom (scene_of g.sheet.bytes.now g.sheet.scene) =
    let g = c.args in
    total_is g.sheet.bytes.now g.sheet.scene _ g.s.now _ _ _ c.rank_rel-rank.result c.unnamed-unused.result c.args.sheet.laid apart c.clear.ensures c.clear-2.ensures
    c.slopes.ensures
    c.rank_rel-rank.ensures
    c.unnamed-unused.ensures.0 in
    let rank = c.rank_rel-rank.result in
    let n = c.args.sheet.scene.n in
    let e : c.unnamed-unused.result ≡ n - min rank n + c.unnamed-unused.result = omega arith in
    record { size = search rules; total_is = e ∙ total_of }

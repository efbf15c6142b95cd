-- How many rows there are does not depend on where the bodies stand. Assumes nothing.
use mathlib.Core.Path.{◌≡◌, refl, sym, ◌∙◌}
use mathlib.Core.List.{List, [], ◌∷◌}
use native.Mathlib.Omega.{arith}
use lib.ListN.{length, length-append}
use lib.Ieee.{Float}
use Rattle.relations.specs.Geometry.{Pose}
use Rattle.relations.specs.Model.{Rel}
use Rattle.judging.proofs.CountLaws.{residual_length}
use Rattle.scene.specs.Solve.{rows_at, all_rows}

pub rows_alike : (rels : List Rel) (poses poses' : List (Pose Float)) → length (all_rows poses rels) ≡ length (all_rows poses' rels)
unfolding all_rows
rows_alike [] poses poses' = refl
rows_alike (rel ∷ rels) poses poses' =
    let a = length-append (rows_at poses rel) (all_rows poses rels) in
    let b = length-append (rows_at poses' rel) (all_rows poses' rels) in
    let d : length (rows_at poses rel) ≡ length (rows_at poses' rel) = residual_length _ _ _ _ _ _ ∙ sym (residual_length _ _ _ _ _ _) in
    let e = rows_alike rels poses poses' in
    omega arith

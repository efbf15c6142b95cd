-- The pairs of the six-by-six put into their array one after another. Assumes nothing.
use Prim.Native.Nat.{ℕ, suc, ◌-◌, ◌<◌}
use mathlib.Core.Path.{◌≡◌, ◌∙◌}
use mathlib.Core.List.{List, [], ◌∷◌, ◌++◌, map, map-append}
use lib.ListN.{set, replicate, length-map}
use Rattle.eigen.specs.EigenMemory.{Held, pair_at, held_pairs}
use Rattle.eigen.proofs.EigenSortLaws.{length_held_pairs}
use Rattle.eigen.proofs.Sorting.{fill_step}
use Rattle.spans.specs.declared.eigen6.Eigen6.{Eigen6}
use Rattle.spans.specs.Eigen6.{eigen6, none6}

pub pairs_step : (n : ℕ) (w : Held) (i : ℕ) (r : List Eigen6) (x : Eigen6) → i < 6 → r ≡ map (eigen6 n) (held_pairs n w i) ++ replicate (6 - i) none6
    → x ≡ eigen6 n (pair_at n w i) → set r i x ≡ map (eigen6 n) (held_pairs n w (suc i)) ++ replicate (6 - suc i) none6
unfolding held_pairs
pairs_step n w i r x h e f =
    rw (e, f, map-append (eigen6 n) (held_pairs n w i) (pair_at n w i ∷ []))
    (fill_step 6 i (map (eigen6 n) (held_pairs n w i)) none6 (eigen6 n (pair_at n w i)) (length-map (held_pairs n w i) (eigen6 n) ∙ length_held_pairs n w i) h)

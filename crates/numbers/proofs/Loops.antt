-- What a loop over a list computes, turn by turn, for any length. A left fold over the first k + 1 entries is one step on from the fold over the first k. Horner's rule is
-- the fold over the coefficients below the top one, from above down. Assumes nothing.
use mathlib.Core.Path.{◌≡◌, refl, sym}
use mathlib.Core.List.{List, [], ◌∷◌, ◌++◌, reverse, reverse_aux-eq, foldl, foldl-append}
use Rattle.std.specs.List.{fold}
use Rattle.std.proofs.lemmas.List.Sums.{fold-append}
use Prim.Native.Nat.{ℕ, suc, ◌<◌}
use lib.ListN.{length, get_or, take}
use lib.Seq.{take-suc}
use Rattle.numbers.specs.Ops.{Ops}
use Rattle.numbers.specs.Horner.{horner}

pub fold_step : {A B : Type 0} (f : B → A → B) (b : B) (l : List A) (k : ℕ) (d : A) → k < length l → foldl f b (take (suc k) l) ≡ f (foldl f b (take k l)) (get_or l k d)
fold_step f b l k d h = rw (take-suc l k d h) (foldl-append f b (take k l) (get_or l k d ∷ []))

-- ---- the largest magnitude
module _ {C : Type 0} (o : Ops C) where
  -- ---- Horner's rule, from the top coefficient down
  horner_next : (c top z : C) (cs : List C) → horner o (c ∷ cs ++ top ∷ []) z ≡ o.add c (o.mul z (horner o (cs ++ top ∷ []) z))
  unfolding horner
  horner_next c top z [] = refl
  horner_next c top z (d ∷ cs) = refl

  pub horner_fold : (top z : C) (cs : List C) → fold (λ r c. o.add c (o.mul z r)) top (reverse cs) ≡ horner o (cs ++ top ∷ []) z
  unfolding horner
  horner_fold top z [] = refl
  horner_fold top z (c ∷ cs) =
      rw (reverse_aux-eq cs (c ∷ []), fold-append (λ r c. o.add c (o.mul z r)) top (reverse cs) (c ∷ []), horner_fold top z cs)
      (sym (horner_next c top z cs))

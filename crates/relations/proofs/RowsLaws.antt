-- What `pack` makes of at most seven rows: the rows, then zeros. Shown by cases on the list. Assumes nothing.
use Rattle.std.proofs.Common.{◌≡◌, refl, ℕ, suc, ◌≤◌, arith, ◌++◌, List, [], ◌∷◌, length, drop, replicate}
use Rattle.std.specs.Prelude.{Float}
use Rattle.numbers.specs.Double.{zero64}
use Rattle.relations.specs.declared.rows.Rows.{Rows}
use Rattle.relations.specs.Rows.{pack}

over : (n : ℕ) → suc (suc (suc (suc (suc (suc (suc (suc n))))))) ≤ 7 → ⊥
over n h = omega (arith, h)

pub padded : (l : List Float) → length l ≤ 7 → ◌≡◌ {A = Rows} (record { n = length l; values = l ++ drop (length l) (replicate 7 zero64) }) (pack l)
unfolding pack
padded [] h = refl
padded (a ∷ []) h = refl
padded (a ∷ b ∷ []) h = refl
padded (a ∷ b ∷ c ∷ []) h = refl
padded (a ∷ b ∷ c ∷ d ∷ []) h = refl
padded (a ∷ b ∷ c ∷ d ∷ e ∷ []) h = refl
padded (a ∷ b ∷ c ∷ d ∷ e ∷ f ∷ []) h = refl
padded (a ∷ b ∷ c ∷ d ∷ e ∷ f ∷ g ∷ []) h = refl
padded (a ∷ b ∷ c ∷ d ∷ e ∷ f ∷ g ∷ x ∷ l) h = elim (over (length l) h) [ ]

-- Zeros of either sign, and sums over some of their terms only. Definitions only.
use Rattle.std.specs.Prelude.{ℕ, zero, suc, Bool, true, ◌&&◌, cond, ◌≡◌, Float}
use mathlib.Core.List.{List, [], ◌∷◌, ◌++◌, foldl}
use Rattle.std.specs.Float.Ieee.{eq}
use Rattle.numbers.specs.Double.{zero64, negative}
use Rattle.numbers.specs.Ops.{Ops}

-- a zero of either sign: what `x == 0.0` tests
abbrev pub IsZero : Float → Type 0
IsZero x = eq x zero64 ≡ true

-- the numbers below n that `keep` names, in rising order
unfoldable pub listed : (ℕ → Bool) → ℕ → List ℕ
listed keep zero = []
listed keep (suc n) = cond (keep n) (listed keep n ++ (n ∷ [])) (listed keep n)

-- s and the terms of f that a list names, one after another
unfoldable pub sum_over : {C : Type 0} → Ops C → C → (ℕ → C) → List ℕ → C
sum_over o s f l = foldl (λ t c. o.add t (f c)) s l

-- -0
abbrev pub is_minus : Float → Bool
is_minus x = eq x zero64 && negative x

-- the first n terms are -0, each of them
unfoldable pub all_minus : (ℕ → Float) → ℕ → Bool
all_minus f zero = true
all_minus f (suc n) = all_minus f n && is_minus (f n)

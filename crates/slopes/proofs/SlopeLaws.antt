-- Places of a matrix: a row's stand before the next row's, and a place tells its column. Assumes nothing.
use mathlib.Core.Path.{◌≡◌, ap}
use mathlib.Core.Logic.{◌⊎◌, inl, inr, ⊎_elim}
use Prim.Native.Nat.{ℕ, zero, suc, ◌+◌, ◌*◌, ◌≤◌, ◌<◌}
use native.Mathlib.Omega.{arith}
use native.Mathlib.Nat.{eq-or-lt_of_le, suc-mul, mul-le-mul_right}

pub lt_or_ge : (a b : ℕ) → (a < b) ⊎ (b ≤ a)
lt_or_ge a zero = inr (omega arith)
lt_or_ge zero (suc b) = inl (omega arith)
lt_or_ge (suc a) (suc b) = ⊎_elim (λ h. inl (omega arith)) (λ h. inr (omega arith)) (lt_or_ge a b)

-- a place in one row stands before every place of a later row
pub row_before : (k i n d : ℕ) → k < i → d < n → k * n + d < i * n
row_before k i n d h l = let m = mul-le-mul_right n h in let e = suc-mul k n in omega arith

-- the column of a place
pub column_of : (k i n d c : ℕ) → d < n → c < n → k * n + d ≡ i * n + c → d ≡ c
column_of k i n d c h l e =
    elim (lt_or_ge k i) [
      | inl m ↦ absurd (let w = row_before k i n d m h in omega arith)
      | inr m ↦
          elim (eq-or-lt_of_le m) [
            | inl q ↦ let w = ap (λ (v : ℕ). v * n) q in omega arith
            | inr q ↦ absurd (let w = row_before i k n c q l in omega arith)
          ]
    ]

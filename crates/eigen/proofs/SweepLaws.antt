-- Sweeps row by row, and up to the hundredth; the matrix that they leave, which does not depend on the vectors, and the pairs. By one step of each recursion. Assumes nothing.
use Prim.Native.Nat.{ℕ, zero, suc, ◌+◌, ◌*◌, ◌-◌, ◌<◌, ◌≤◌}
use mathlib.Core.Path.{◌≡◌, refl, sym, ap, ◌∙◌}
use mathlib.Core.Bool.{Bool, true, false, cond}
use mathlib.Core.List.{[], ◌∷◌}
use native.Mathlib.Omega.{arith}
use lib.ListN.{length, get_or, length-append}
use lib.Ieee.{Float, nan, binary64, mul, lt, of_bits}
use Rattle.numbers.specs.Double.{abs}
use Rattle.eigen.specs.Eigen.{Turned, turned, Eigen, column, pairs, settled, tangent_of, cosine_of, turn_columns, turned_by, rotate, sweep_row, sweep_to, sweeps}
use Rattle.eigen.proofs.EigenLaws.{turn_rows_of}

pub row_start : (n p : ℕ) (w : Turned) → w ≡ sweep_row n p w (p + 1 - (p + 1))
unfolding sweep_row
row_start n p w = let e : p + 1 - (p + 1) ≡ 0 = omega arith in rw e

pub row_step : (n p q : ℕ) (w x y : Turned) → p + 1 ≤ q → x ≡ sweep_row n p w (q - (p + 1)) → y ≡ rotate n p q x → y ≡ sweep_row n p w (q + 1 - (p + 1))
unfolding sweep_row
row_step n p q w x y h e f =
    let k : q + 1 - (p + 1) ≡ suc (q - (p + 1)) = omega arith in
    let l : p + 1 + (q - (p + 1)) ≡ q = omega arith in
    rw (k, l, ← e) f

pub sweeps_stop : (n k : ℕ) (w : Turned) → settled w.m n ≡ true → sweeps n k w ≡ w
unfolding sweeps
sweeps_stop n zero w e = refl
sweeps_stop n (suc k) w e = ap (λ (t : Bool). elim t as (λ _. Turned) [ true ↦ w | false ↦ sweeps n k (sweep_to n w n) ]) e

sweeps_on : (n k : ℕ) (w : Turned) → settled w.m n ≡ false → sweeps n (suc k) w ≡ sweeps n k (sweep_to n w n)
unfolding sweeps
sweeps_on n k w e = ap (λ (t : Bool). elim t as (λ _. Turned) [ true ↦ w | false ↦ sweeps n k (sweep_to n w n) ]) e

pub sweeps_step : (n i : ℕ) (w x y : Turned) → i < 100 → settled w.m n ≡ false → x ≡ sweep_to n w n → sweeps n (100 - i) w ≡ y → sweeps n (100 - (i + 1)) x ≡ y
sweeps_step n i w x y h e f g =
    let k : 100 - i ≡ suc (100 - (i + 1)) = omega arith in
    rw f (sym (sweeps_on n (100 - (i + 1)) w e) ∙ rw k at g)

pub sweeps_end : (n i : ℕ) (w y : Turned) → 100 ≤ i → sweeps n (100 - i) w ≡ y → w ≡ y
unfolding sweeps
sweeps_end n i w y h e = let k : 100 - i ≡ 0 = omega arith in rw k at e

-- ---- the matrix after the sweeps: without the vectors it is turned alike

-- the matrix alone
abbrev pub bare : Turned → Turned
bare w = turned w.m []

no_columns : (n : ℕ) (c s : Float) (p q : ℕ) → [] ≡ turn_columns n c s p q [] n
unfolding turn_columns
no_columns n c s p q = turn_rows_of {n = n} {rows = 0} {v = []} c s p q (record { size = omega arith; within = omega arith }) refl

bare_rotate : (n p q : ℕ) (w : Turned) → bare (rotate n p q w) ≡ rotate n p q (bare w)
unfolding rotate
bare_rotate n p q w = go (lt (abs apq) (of_bits binary64 0x01A5_6E1F_C2F8_F359))
  where
    apq : Float
    apq = get_or w.m (p * n + q) nan

    t : Float
    t = tangent_of (get_or w.m (p * n + p) nan) (get_or w.m (q * n + q) nan) apq

    go : (b : Bool) → bare (cond b w (turned_by n p q w (cosine_of t) (mul binary64 t (cosine_of t)))) ≡ cond b (bare w) (turned_by n p q (bare w) (cosine_of t) (mul binary64 t (cosine_of t)))
    go true = refl
    go false = ap (turned _) (no_columns n (cosine_of t) (mul binary64 t (cosine_of t)) p q)

bare_row : (n p : ℕ) (w : Turned) (k : ℕ) → bare (sweep_row n p w k) ≡ sweep_row n p (bare w) k
unfolding sweep_row
bare_row n p w zero = refl
bare_row n p w (suc k) = bare_rotate n p (p + 1 + k) (sweep_row n p w k) ∙ ap (rotate n p (p + 1 + k)) (bare_row n p w k)

bare_sweep : (n : ℕ) (w : Turned) (p : ℕ) → bare (sweep_to n w p) ≡ sweep_to n (bare w) p
unfolding sweep_to
bare_sweep n w zero = refl
bare_sweep n w (suc p) = bare_row n p (sweep_to n w p) (n - (p + 1)) ∙ ap (λ (x : Turned). sweep_row n p x (n - (p + 1))) (bare_sweep n w p)

pub bare_sweeps : (n k : ℕ) (w : Turned) → bare (sweeps n k w) ≡ sweeps n k (bare w)
unfolding sweeps
bare_sweeps n zero w = refl
bare_sweeps n (suc k) w = go (settled w.m n) (bare_sweeps n k (sweep_to n w n) ∙ ap (sweeps n k) (bare_sweep n w n))
  where
    go : (b : Bool) → bare (sweeps n k (sweep_to n w n)) ≡ sweeps n k (sweep_to n (bare w) n)
        → bare (elim b as (λ _. Turned) [ true ↦ w | false ↦ sweeps n k (sweep_to n w n) ]) ≡ elim b as (λ _. Turned) [ true ↦ bare w | false ↦ sweeps n k (sweep_to n (bare w) n) ]
    go true e = refl
    go false e = e

-- ---- the pairs after the sweeps

abbrev pub pair : ℕ → Turned → ℕ → Eigen
pair n w i = record { value = get_or w.m (i * n + i) nan; vector = column n w.v i n }

pub length_pairs : (n : ℕ) (w : Turned) (i : ℕ) → length (pairs n w i) ≡ i
unfolding pairs
length_pairs n w zero = refl
length_pairs n w (suc i) = length-append (pairs n w i) (pair n w i ∷ []) ∙ rw (length_pairs n w i) (omega arith)

-- The sums by which the sweeps end keep near the sums of the fractions, for any n: the squares on the diagonal (`diag_near`) and off it (`off_near`). A row's squares off the diagonal
-- are a sum of n - 1 terms that passes over the diagonal (`off_row_is_sum`). By the laws of sums in numbers/proofs/SumNear.antt. Assumes nothing.
use mathlib.Core.Path.{◌≡◌, refl, ap, ◌∙◌}
use mathlib.Core.Bool.{Bool, true, false, cond}
use mathlib.Core.List.{List}
use Prim.Native.Nat.{ℕ, zero, suc, ◌+◌, ◌-◌, ◌*◌, ◌^◌, ◌≤◌, ◌<◌}
use mathlib.Core.Logic.{inl, inr}
use native.Mathlib.Nat.{not-suc-le-zero, le_of_suc-le-suc, eq-or-lt_of_le, suc-mul, mul-le-mul_right, lt_of_le_of_lt}
use native.Mathlib.Omega.{arith}
use borrow.Author.Tests.{lt-ltb, le-ltb, eq-eqb, ne_eqb}
use lib.Dec.{ltb}
use lib.ListN.{length, get_or}
use lib.Ieee.{Float, nan, binary64, mul, neg}
use Rattle.numbers.specs.Frac.{Frac, frac_of, mul_q}
use Rattle.numbers.specs.Double.{zero64}
use Rattle.numbers.specs.Ops.{doubles, fractions}
use Rattle.numbers.specs.Sum.{sum_from}
use Rattle.numbers.specs.Near.{Near, exactly, up_to}
use Rattle.numbers.proofs.NearLaws.{near_self, near_weaken}
use Rattle.numbers.specs.Bound.{Small, AllSmall, product_bound}
use Rattle.numbers.proofs.BoundLaws.{small_at}
use Rattle.numbers.proofs.SumNear.{product_near, one_fits, sum_on, products_near, minus_zero_small}
use Rattle.eigen.specs.Eigen.{off_row, off_to, diag_to}
use Rattle.eigen.proofs.EigenLaws.{row_within}

-- ---- the diagonal of an n by n matrix of entries of at most a / S

-- `diag_to` on fractions
abbrev pub diag_q : List Float → ℕ → ℕ → Frac
diag_q m n i = sum_from fractions (frac_of (neg zero64)) (λ k. mul_q (frac_of (get_or m (k * n + k) nan)) (frac_of (get_or m (k * n + k) nan))) i

pub diag_near : (a e : ℕ) → e ≤ 1000 → (m : List Float) (n : ℕ) → length m ≡ n * n → AllSmall a m → n * ((product_bound a a).most + (product_bound a a).off + 2 ^ e) < 2 ^ (54 + e)
    → Near (diag_to m n n) (diag_q m n n) (up_to (n * (product_bound a a).most) (n * ((product_bound a a).off + 2 ^ e)))
unfolding diag_to
diag_near a e E m n z s room = products_near a a e E (λ k. get_or m (k * n + k) nan) (λ k. get_or m (k * n + k) nan) n (neg zero64) minus_zero_small room small small
  where
    small : (k : ℕ) → k < n → Small a (get_or m (k * n + k) nan)
    small k l = small_at a m (k * n + k) nan s (let g = row_within l in omega arith)

-- ---- what is off the diagonal

-- the columns other than i, by number
abbrev pub other : ℕ → ℕ → ℕ
other i k = cond (ltb k i) k (suc k)

-- the entries of row i in those columns, and their squares
abbrev pub off_entry : List Float → ℕ → ℕ → ℕ → Float
off_entry m n i k = get_or m (i * n + other i k) nan

abbrev pub off_term : List Float → ℕ → ℕ → ℕ → Float
off_term m n i k = mul binary64 (off_entry m n i k) (off_entry m n i k)

module _ (m : List Float) (n i : ℕ) (s : Float) where
  -- one more column, which is not i
  next : (j k : ℕ) → (i ≡ j → ⊥) → other i k ≡ j → off_row m n i s j ≡ sum_from doubles s (off_term m n i) k → off_row m n i s (suc j) ≡ sum_from doubles s (off_term m n i) (suc k)
  unfolding off_row sum_from
  next j k d e h = rw (ne_eqb i j d, e, h)

  left : (j : ℕ) → j ≤ i → off_row m n i s j ≡ sum_from doubles s (off_term m n i) j
  unfolding off_row sum_from
  left zero h = refl
  left (suc j) h = next j j (λ e. absurd (omega arith)) (ap (λ (t : Bool). cond t j (suc j)) (lt-ltb j i h)) (left j (omega arith))

  here : (j : ℕ) → i ≡ j → off_row m n i s (suc j) ≡ sum_from doubles s (off_term m n i) j
  unfolding off_row
  here j e = rw (eq-eqb i j e) (left j (omega arith))

  right : (j : ℕ) → i ≤ j → off_row m n i s (suc j) ≡ sum_from doubles s (off_term m n i) j
  right zero h = here zero (omega arith)
  right (suc j) h =
      elim (eq-or-lt_of_le h) [
        | inl e ↦ here (suc j) e
        | inr l ↦ next (suc j) j (λ e. absurd (omega arith)) (ap (λ (t : Bool). cond t j (suc j)) (le-ltb j i (le_of_suc-le-suc l))) (right j (le_of_suc-le-suc l))
      ]

pub off_row_is_sum : (m : List Float) (n i : ℕ) (s : Float) → i < n → off_row m n i s n ≡ sum_from doubles s (off_term m n i) (n - 1)
off_row_is_sum m zero i s h = absurd (not-suc-le-zero h)
off_row_is_sum m (suc n) i s h = let e : n ≡ suc n - 1 = omega arith in right m (suc n) i s n (le_of_suc-le-suc h) ∙ ap (sum_from doubles s (off_term m (suc n) i)) e

-- `off_to` on fractions
unfoldable pub off_q : List Float → ℕ → ℕ → Frac
off_q m n zero = frac_of (neg zero64)
off_q m n (suc i) = sum_from fractions (off_q m n i) (λ k. mul_q (frac_of (off_entry m n i k)) (frac_of (off_entry m n i k))) (n - 1)

module _ (a e : ℕ) (E : e ≤ 1000) (m : List Float) (n : ℕ) (z : length m ≡ n * n) (s : AllSmall a m)
    (room : n * (n - 1) * ((product_bound a a).most + (product_bound a a).off + 2 ^ e) < 2 ^ (54 + e)) where
  other_le : (t : Bool) (k : ℕ) → cond t k (suc k) ≤ suc k
  other_le true k = omega arith
  other_le false k = omega arith

  small : (i k : ℕ) → i < n → k < n - 1 → Small a (off_entry m n i k)
  small i k h l = small_at a m (i * n + other i k) nan s (let g = row_within h in let o = other_le (ltb k i) k in omega arith)

  rows_fit : (i N W B : ℕ) → i < n → n * N * W < B → (i * N + N) * W < B
  rows_fit i N W B h l = lt_of_le_of_lt (mul-le-mul_right W (let g = mul-le-mul_right N h in omega (arith, suc-mul i N))) l

  off_rows : (i : ℕ) → i ≤ n → Near (off_to m n i) (off_q m n i) (up_to (i * (n - 1) * (product_bound a a).most) (i * (n - 1) * ((product_bound a a).off + 2 ^ e)))
  unfolding off_to off_q
  off_rows zero h = near_weaken (neg zero64) (frac_of (neg zero64)) (exactly 0) _ _ (omega arith) (omega arith) (near_self (neg zero64) 0 minus_zero_small.0 minus_zero_small.1)
  off_rows (suc i) h =
      let fit = rows_fit i (n - 1) ((product_bound a a).most + (product_bound a a).off + 2 ^ e) (2 ^ (54 + e)) h room in
      rw (off_row_is_sum m n i (off_to m n i) h)
      (near_weaken _ _ _ (suc i * (n - 1) * (product_bound a a).most) (suc i * (n - 1) * ((product_bound a a).off + 2 ^ e)) (more (product_bound a a).most) (more ((product_bound a a).off + 2 ^ e))
      (sum_on (product_bound a a) e E (off_term m n i) (λ k. mul_q (frac_of (off_entry m n i k)) (frac_of (off_entry m n i k))) (i * (n - 1)) (n - 1) (off_to m n i) (off_q m n i) fit
      (λ k l. product_near a a e E (off_entry m n i k) (off_entry m n i k) (small i k h l) (small i k h l) (one_fits k (i * (n - 1) + (n - 1)) _ (2 ^ (54 + e)) (omega arith) fit))
      (off_rows i (omega arith))))
    where
      more : (W : ℕ) → (i * (n - 1) + (n - 1)) * W ≤ suc i * (n - 1) * W
      more W = mul-le-mul_right W (omega (arith, suc-mul i (n - 1)))

  pub off_near : Near (off_to m n n) (off_q m n n) (up_to (n * (n - 1) * (product_bound a a).most) (n * (n - 1) * ((product_bound a a).off + 2 ^ e)))
  off_near = off_rows n (omega arith)

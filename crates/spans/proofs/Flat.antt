-- Reading and setting an entry of an array of arrays is reading and setting the flat list at i * n + j. So what is shown of flat lists holds for arrays of arrays.
-- Assumes nothing.
use Prim.Native.Nat.{ℕ, zero, suc, ◌+◌, ◌*◌, ◌<◌, ◌≤◌}
use mathlib.Core.Path.{◌≡◌, refl, sym, ap, ◌∙◌}
use mathlib.Core.List.{List, [], ◌∷◌, ◌++◌}
use native.Mathlib.Omega.{arith}
use native.Mathlib.Nat.{zero-mul, zero-add, suc-add, suc-le-suc_iff, not-suc-le-zero, mul-le-mul_right}
use native.Mathlib.Decide.{dec_lt}
use lib.ListN.{length, get_or, set, take, length-append, get_or-append}
use lib.Seq.{length-take-le, get_or-take, get_or-append-add, get_or-set_same, get_or-set_other, set-append_left, take-set-lt}
use lib.Ieee.{Float, nan, binary64}
use mir.Val.{Val}
use denote.Array.{Array, each}
use denote.Floats.{FloatOf}
use denote.Laws.{Is}
use denote.Shadow.{shadow}
use Rattle.eigen.specs.Eigen.{column}
use Rattle.spans.specs.Flat.{flat_to, at}

-- the entry ij set, and the entries ij and kl turned
abbrev put : List (List Float) → ℕ → ℕ → Float → List (List Float)
put m i j x = set m i (set (get_or m i []) j x)

-- w rows of w entries
pub record Grid (w : ℕ) (m : List (List Float)) : Type 0 where
  pub rows : length m ≡ w
  pub entries : (i : ℕ) → i < w → length (get_or m i []) ≡ w

-- what a function is told of an array of arrays
module _ (w : ℕ) where
  row_lengths : (m : List (List Float)) (us : List Val) → shadow (each (List Float) (Array (FloatOf binary64) w).own_val m us) → (i : ℕ) → i < length m → length (get_or m i []) ≡ w
  row_lengths [] us e i h = absurd (not-suc-le-zero h)
  row_lengths (x ∷ m) [] e i h = absurd e
  row_lengths (x ∷ m) (u ∷ us) e zero h = e.0.1.0.1
  row_lengths (x ∷ m) (u ∷ us) e (suc i) h = row_lengths m us e.1 i (suc-le-suc_iff.0 h)

  pub good_grid : (m : List (List Float)) (vs : List Val) → Is (Array (Array (FloatOf binary64) w) w) m vs → Grid w m
  good_grid m vs p = record { rows = p.1.0.1; entries = λ i h. row_lengths m p.0 p.1.1 i (rw p.1.0.1 h) }

set_append_add : {A : Type 0} (xs ys : List A) (j : ℕ) (a : A) → set (xs ++ ys) (length xs + j) a ≡ xs ++ set ys j a
set_append_add [] ys j a = rw zero-add
set_append_add (x ∷ xs) ys j a = rw suc-add (ap (λ (l : List _). x ∷ l) (set_append_add xs ys j a))

pub cell_lt : (i k j n : ℕ) → i < k → j < n → i * n + j < k * n
cell_lt i k j n q h = omega (arith, mul-le-mul_right n q)

-- the flat list does not see rows from k on
flat_above : (n : ℕ) (m : List (List Float)) (i k : ℕ) (r : List Float) → k ≤ i → flat_to n (set m i r) k ≡ flat_to n m k
unfolding flat_to
flat_above n m i zero r h = refl
flat_above n m i (suc k) r h = rw (flat_above n m i k r (omega arith), get_or-set_other m i k r [] (omega arith))

module _ (n w : ℕ) (narrow : n ≤ w) (m : List (List Float)) (g : Grid w m) where
  pub length_flat : (k : ℕ) → k ≤ w → length (flat_to n m k) ≡ k * n
  unfolding flat_to
  length_flat zero h = sym (zero-mul n)
  length_flat (suc k) h =
      length-append (flat_to n m k) (take n (get_or m k []))
      ∙ rw (length_flat k (omega arith), length-take-le n (get_or m k []) (omega (arith, g.entries k h))) (omega arith)

  pub flat_at : (k i j : ℕ) → k ≤ w → i < k → j < n → get_or (flat_to n m k) (i * n + j) nan ≡ at m i j
  unfolding flat_to
  flat_at zero i j h hi hj = absurd (not-suc-le-zero hi)
  flat_at (suc k) i j h hi hj = go (dec_lt i k) (flat_at k i j)
    where
      go : Dec (i < k) → (k ≤ w → i < k → j < n → get_or (flat_to n m k) (i * n + j) nan ≡ at m i j) → get_or (flat_to n m k ++ take n (get_or m k [])) (i * n + j) nan ≡ at m i j
      go (yes q) f = get_or-append (flat_to n m k) (take n (get_or m k [])) nan (i * n + j) (rw (length_flat k (omega arith)) (cell_lt i k j n q hj)) ∙ f (omega arith) q hj
      go (no q) f =
          let e : i ≡ k = omega arith in
          rw (e, ← length_flat k (omega arith), get_or-append-add (flat_to n m k) (take n (get_or m k [])) j nan, get_or-take n (get_or m k []) j nan hj)

  pub flat_put : (k i j : ℕ) (x : Float) → k ≤ w → i < k → j < n → flat_to n (put m i j x) k ≡ set (flat_to n m k) (i * n + j) x
  unfolding flat_to
  flat_put zero i j x h hi hj = absurd (not-suc-le-zero hi)
  flat_put (suc k) i j x h hi hj = go (dec_lt i k) (flat_put k i j x)
    where
      go : Dec (i < k) → (k ≤ w → i < k → j < n → flat_to n (put m i j x) k ≡ set (flat_to n m k) (i * n + j) x)
          → flat_to n (put m i j x) k ++ take n (get_or (put m i j x) k []) ≡ set (flat_to n m k ++ take n (get_or m k [])) (i * n + j) x
      go (yes q) f =
          rw (f (omega arith) q hj, get_or-set_other m i k (set (get_or m i []) j x) [] (omega arith))
          (sym (set-append_left (flat_to n m k) (take n (get_or m k [])) (i * n + j) x (rw (length_flat k (omega arith)) (cell_lt i k j n q hj))))
      go (no q) f =
          let e : i ≡ k = omega arith in
          rw (e, flat_above n m k k (set (get_or m k []) j x) (omega arith), get_or-set_same m k (set (get_or m k []) j x) [] (omega (arith, g.rows)), take-set-lt n (get_or m k []) j x hj)
          (sym (rw (← length_flat k (omega arith)) (set_append_add (flat_to n m k) (take n (get_or m k [])) j x)))

pub length_column : (n : ℕ) (v : List Float) (i k : ℕ) → length (column n v i k) ≡ k
unfolding column
length_column n v i zero = refl
length_column n v i (suc k) = length-append (column n v i k) (get_or v (k * n + i) nan ∷ []) ∙ rw (length_column n v i k) (omega arith)

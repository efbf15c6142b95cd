-- Laws of the n by n matrices of specs/Eigen.antt: where a row lies; a list that grows at its end, one that is written
-- from the front on, and the identity so written; stores behind the end, which change nothing, so that columns of
-- fewer rows are turned and swapped as the definitions say for n; and the rotation by its parts. Assumes nothing.
use mathlib.Core.Path.{◌≡◌, refl, sym, ap, ◌∙◌}
use mathlib.Core.Bool.{false, cond}
use mathlib.Core.Logic.{⊎_elim, inl, inr}
use mathlib.Core.List.{List, [], ◌∷◌, ◌++◌, append_assoc}
use Prim.Native.Nat.{ℕ, zero, suc, ◌+◌, ◌*◌, ◌<◌, ◌≤◌}
use native.Mathlib.Nat.{mul-le-mul_right, suc-mul, zero-mul, eq-or-lt_of_le, le_of_suc-le-suc, not-suc-le-zero}
use native.Mathlib.Omega.{arith}
use lib.ListN.{length, take, drop, set, get_or, length-append, length-set, get_or-append}
use lib.Seq.{drop-cons, set_at, set_out, take_at, drop-append-add, drop-drop, length-take-le, get_or_at}
use lib.Dec.{eqb}
use lib.Ieee.{Float, binary64, nan, mul, lt, of_bits}
use Rattle.numbers.specs.Double.{zero64, one64, abs}
use Rattle.eigen.specs.Eigen.{turned, tangent_of, cosine_of, turn_columns, turn_rows, rotate, unit_row, unit_to}
use Rattle.eigen.specs.EigenMemory.{Rows, swap_columns}

-- row i of k rows of n entries lies within them; row i of n lies within the matrix
pub row_of : (n : ℕ) {i k : ℕ} → i < k → i * n + n ≤ k * n
row_of n {i} h = omega (arith, suc-mul i n, mul-le-mul_right n h)

pub row_within : {i n : ℕ} → i < n → i * n + n ≤ n * n
row_within {i} {n} h = row_of n h

-- a list that grows at its end: g k comes k-th
pub record Grows {A : Type 0} (f : ℕ → List A) (g : ℕ → A) : Type 0 where
  pub none : f zero ≡ []
  pub more : (k : ℕ) → f (suc k) ≡ f k ++ (g k ∷ [])

pub length_grows : {A : Type 0} {f : ℕ → List A} {g : ℕ → A} → Grows f g → (k : ℕ) → length (f k) ≡ k
length_grows h zero = rw h.none
length_grows h (suc k) = rw (h.more k) (simp (length-append, length_grows h k) (omega arith))

pub get_d_grows : {A : Type 0} {f : ℕ → List A} {g : ℕ → A} → Grows f g → (d : A) (k i : ℕ) → i < k → get_or (f k) i d ≡ g i
get_d_grows h d zero i lt = absurd (not-suc-le-zero lt)
get_d_grows {f = f} {g = g} h d (suc k) i lt =
    rw (h.more k)
    (⊎_elim
    (λ e. rw e (get_or_at (f k) (g k) [] d k (length_grows h k)))
    (λ less. get_or-append (f k) (g k ∷ []) d i (omega (arith, length_grows h k)) ∙ get_d_grows h d k i less)
    (eq-or-lt_of_le (le_of_suc-le-suc lt)))

-- behind p and q stands the rest of d; the next store takes an element of it
pub write_next : (p q d : List Float) (k : ℕ) (a : Float) → length p + length q ≡ k → k < length d
    → set (p ++ (q ++ drop k d)) k a ≡ p ++ ((q ++ (a ∷ [])) ++ drop (suc k) d)
write_next p q d k a e h =
    rw (drop-cons d k nan h, ← append_assoc p q (get_or d k nan ∷ drop (suc k) d), set_at (p ++ q) (get_or d k nan) (drop (suc k) d) a k (length-append p q ∙ e))
    (simp append_assoc)

pub length_unit_row : (i j : ℕ) → length (unit_row i j) ≡ j
unfolding unit_row
length_unit_row i j = length_grows {f = unit_row i} {g = λ k. cond (eqb i k) one64 zero64} (record { none = refl; more = λ k. refl }) j

-- j entries of row i of the identity stand in d from o on, and the next is written
pub unit_row_next : (o i j : ℕ) (d : List Float) → o + j < length d
    → set (take o d ++ (unit_row i j ++ drop (o + j) d)) (o + j) (cond (eqb i j) one64 zero64) ≡ take o d ++ (unit_row i (suc j) ++ drop (suc (o + j)) d)
unfolding unit_row
unit_row_next o i j d h =
    write_next (take o d) (unit_row i j) d (o + j) (cond (eqb i j) one64 zero64)
    (omega (arith, length-take-le o d (omega arith), length_unit_row i j))
    h

pub length_unit_to : (n i : ℕ) → length (unit_to n i) ≡ i * n
unfolding unit_to
length_unit_to n zero = rw (zero-mul n)
length_unit_to n (suc i) = simp (length-append, length_unit_to n i, length_unit_row i n) (omega (arith, suc-mul i n))

-- the first i rows of the identity before the rest of d, and the next row
pub unit_next : (n i : ℕ) (d : List Float)
    → take (i * n) (unit_to n i ++ drop (i * n) d) ++ (unit_row i n ++ drop (i * n + n) (unit_to n i ++ drop (i * n) d)) ≡ unit_to n (suc i) ++ drop (suc i * n) d
unfolding unit_to
unit_next n i d =
    rw (take_at (unit_to n i) (drop (i * n) d) (i * n) (length_unit_to n i), ← length_unit_to n i, drop-append-add (unit_to n i) (drop (length (unit_to n i)) d) n, drop-drop n (length (unit_to n i)) d, length_unit_to n i, suc-mul i n)
    (simp append_assoc)

-- ---- two stores in each row of n entries

module _ (f : ℕ → List Float) (n p q : ℕ) (x y : ℕ → Float) (more : (i : ℕ) → f (suc i) ≡ set (set (f i) (i * n + p) (x i)) (i * n + q) (y i)) where
  pub length_stored : (i : ℕ) → length (f i) ≡ length (f zero)
  length_stored zero = refl
  length_stored (suc i) = ap length (more i) ∙ simp length-set (length_stored i)

  -- a list of k rows: the stores in the rows from k on change nothing
  pub stored_beyond : (k i : ℕ) → length (f zero) ≤ k * n → k ≤ i → f i ≡ f k
  stored_beyond k zero h l = let e : 0 ≡ k = omega arith in ap f e
  stored_beyond k (suc i) h l =
      elim (eq-or-lt_of_le l) [
        | inl e ↦ ap f (sym e)
        | inr g ↦
            let w = mul-le-mul_right n (le_of_suc-le-suc g) in
            let z = length_stored i in
            more i ∙ set_out (set (f i) (i * n + p) (x i)) (i * n + q) (y i) (simp length-set (omega arith)) ∙ set_out (f i) (i * n + p) (x i) (omega arith)
            ∙ stored_beyond k i h (le_of_suc-le-suc g)
      ]

pub turn_rows_of : {n rows : ℕ} {v w : List Float} (c s : Float) (p q : ℕ) → Rows n rows v → w ≡ turn_columns n c s p q v rows → w ≡ turn_columns n c s p q v n
unfolding turn_columns
turn_rows_of {n} {rows} {v} c s p q h e = e ∙ sym (stored_beyond (turn_columns n c s p q v) n p q _ _ (λ i. refl) rows n (omega arith) h.within)

pub swap_rows_of : {n rows : ℕ} {v w : List Float} (i j : ℕ) → Rows n rows v → w ≡ swap_columns n i j v rows → w ≡ swap_columns n i j v n
unfolding swap_columns
swap_rows_of {n} {rows} {v} i j h e = e ∙ sym (stored_beyond (swap_columns n i j v) n i j _ _ (λ k. refl) rows n (omega arith) h.within)

-- where the entry pq is not next to nothing, m and v turned by its angle are those of `rotate`
pub rotated : (n p q : ℕ) (m v : List Float) {m1 m2 w : List Float} {a t c : Float} → a ≡ abs (get_or m (p * n + q) nan)
    → lt a (of_bits binary64 0x01A5_6E1F_C2F8_F359) ≡ false
    → t ≡ tangent_of (get_or m (p * n + p) nan) (get_or m (q * n + q) nan) (get_or m (p * n + q) nan) → c ≡ cosine_of t
    → m1 ≡ turn_columns n c (mul binary64 t c) p q m n → m2 ≡ turn_rows n c (mul binary64 t c) p q m1 n
    → w ≡ turn_columns n c (mul binary64 t c) p q v n → turned m2 w ≡ rotate n p q (turned m v)
unfolding rotate
rotated n p q m v size large angle cosine columns rows vectors =
    rw (vectors, rows, columns, cosine, angle, ← size, large)

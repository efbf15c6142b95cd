-- Lists and matrices given by their entries, and sums of terms that are equal one by one. Assumes nothing.
use mathlib.Core.Path.{◌≡◌, refl, sym, ap, subst, ◌∙◌}
use mathlib.Core.List.{List, [], ◌∷◌, ◌++◌}
use Prim.Native.Nat.{ℕ, zero, suc, ◌+◌, ◌*◌, ◌/◌, ◌%◌, ◌<◌}
use native.Mathlib.Omega.{arith}
use mathlib.Core.Logic.{inl, inr}
use native.Mathlib.Nat.{not-suc-le-zero, le_of_suc-le-suc, eq-or-lt_of_le, zero-mul, mul-zero, suc-mul, mul-le-mul_right, zero-lt-suc, div-add-mod', div-lt_iff_lt-mul, mod-lt}
use native.Mathlib.Numerals.{add-one}
use lib.ListN.{length, get_or, length-append, get_or-append}
use lib.Seq.{get_or-append_seam, get_or-append-add, ext_get_or}
use lib.Ieee.{Float, nan, binary64, add}
use Rattle.numbers.specs.Ops.{doubles}
use Rattle.numbers.specs.Sum.{sum_from}
use Rattle.least_squares.specs.Lm.{list_of, table_of}

-- what holds for all below i and at i holds for all below i + 1
pub one_more : (P : ℕ → Type 0) (i : ℕ) → ((p : ℕ) → p < i → P p) → P i → (p : ℕ) → p < i + 1 → P p
one_more P i h e p l =
    elim (eq-or-lt_of_le (le_of_suc-le-suc (rw add-one at l))) [
      | inl q ↦ subst P (sym q) e
      | inr m ↦ h p m
    ]

pub length_list_of : {A : Type 0} (f : ℕ → A) (n : ℕ) → length (list_of f n) ≡ n
unfolding list_of
length_list_of f zero = refl
length_list_of f (suc n) = length-append (list_of f n) (f n ∷ []) ∙ (let e = length_list_of f n in omega arith)

pub sum_same : (s : Float) (f g : ℕ → Float) (n : ℕ) → ((i : ℕ) → i < n → f i ≡ g i) → sum_from doubles s f n ≡ sum_from doubles s g n
unfolding sum_from
sum_same s f g zero h = refl
sum_same s f g (suc n) h = λ i. add binary64 (sum_same s f g n (λ k l. h k (omega arith)) i) (h n (omega arith) i)

-- the entry i of a list, and the entry (i, j) of a matrix
pub get_d_list_of : {A : Type 0} (f : ℕ → A) (n i : ℕ) (d : A) → i < n → get_or (list_of f n) i d ≡ f i
unfolding list_of
get_d_list_of f zero i d h = absurd (not-suc-le-zero h)
get_d_list_of f (suc n) i d h =
    elim (eq-or-lt_of_le (le_of_suc-le-suc h)) [
      | inl e ↦ ap (λ (w : ℕ). get_or (list_of f n ++ (f n ∷ [])) w d) (e ∙ sym (length_list_of f n)) ∙ get_or-append_seam (list_of f n) (f n) [] d ∙ ap f (sym e)
      | inr l ↦ get_or-append (list_of f n) (f n ∷ []) d i (rw (length_list_of f n) l) ∙ get_d_list_of f n i d l
    ]

pub length_table_of : {A : Type 0} (f : ℕ → ℕ → A) (cols rows : ℕ) → length (table_of f cols rows) ≡ rows * cols
unfolding table_of
length_table_of f cols zero = sym (zero-mul cols)
length_table_of f cols (suc rows) =
    length-append (table_of f cols rows) (list_of (f rows) cols) ∙ (let e = length_table_of f cols rows in let g = length_list_of (f rows) cols in let m = suc-mul rows cols in omega arith)

pub in_rows : (i j cols rows : ℕ) → i < rows → j < cols → i * cols + j < rows * cols
in_rows i j cols rows h l = let m = mul-le-mul_right cols h in let e = suc-mul i cols in omega arith

pub get_d_table_of : {A : Type 0} (f : ℕ → ℕ → A) (cols rows i j : ℕ) (d : A) → i < rows → j < cols → get_or (table_of f cols rows) (i * cols + j) d ≡ f i j
unfolding table_of
get_d_table_of f cols zero i j d h l = absurd (not-suc-le-zero h)
get_d_table_of f cols (suc rows) i j d h l =
    elim (eq-or-lt_of_le (le_of_suc-le-suc h)) [
      | inl e ↦
          ap (λ (w : ℕ). get_or (table_of f cols rows ++ list_of (f rows) cols) (w + j) d) (ap (λ (w : ℕ). w * cols) e ∙ sym (length_table_of f cols rows))
          ∙ get_or-append-add (table_of f cols rows) (list_of (f rows) cols) j d
          ∙ get_d_list_of (f rows) cols j d l
          ∙ ap (λ (w : ℕ). f w j) (sym e)
      | inr m ↦
          get_or-append (table_of f cols rows) (list_of (f rows) cols) d (i * cols + j) (rw (length_table_of f cols rows) (in_rows i j cols rows m l)) ∙ get_d_table_of f cols rows i j d m l
    ]

cols_pos : (cols x rows : ℕ) → x < rows * cols → 0 < cols
cols_pos zero x rows u = absurd (not-suc-le-zero (rw (mul-zero rows) at u))
cols_pos (suc cols) x rows u = zero-lt-suc cols

-- a list of as many entries as the matrix has, equal entry by entry, is the matrix
pub table_ext : (f : ℕ → ℕ → Float) (cols rows : ℕ) (l : List Float) → length l ≡ rows * cols → ((i j : ℕ) → i < rows → j < cols → get_or l (i * cols + j) nan ≡ f i j)
    → l ≡ table_of f cols rows
table_ext f cols rows l e h = ext_get_or nan l (table_of f cols rows) (e ∙ sym (length_table_of f cols rows)) at
  where
    at : (x : ℕ) → x < length l → get_or l x nan ≡ get_or (table_of f cols rows) x nan
    at x m =
        let u : x < rows * cols = rw (← e) m in
        let q = div-add-mod' x cols in
        let c : 0 < cols = cols_pos cols x rows u in
        let i : x / cols < rows = (div-lt_iff_lt-mul c).1 u in
        let j : x % cols < cols = mod-lt x c in
        ap (λ (w : ℕ). get_or l w nan) (sym q) ∙ h (x / cols) (x % cols) i j ∙ sym (get_d_table_of f cols rows (x / cols) (x % cols) nan i j)
        ∙ ap (λ (w : ℕ). get_or (table_of f cols rows) w nan) q

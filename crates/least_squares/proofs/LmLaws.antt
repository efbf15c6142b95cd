-- Facts for the loops of lm.rs: diagonal places lie in the matrix, what a store on the diagonal or in a row does to its part, and that the rows formed are the matrix. Assumes nothing.
use mathlib.Core.Path.{◌≡◌, sym, ap, subst, ◌∙◌}
use mathlib.Core.List.{List, [], ◌∷◌, ◌++◌}
use Prim.Native.Nat.{ℕ, suc, ◌+◌, ◌*◌, ◌≤◌, ◌<◌, min, max}
use native.Mathlib.Omega.{arith}
use native.Mathlib.Decide.{dec_lt}
use native.Mathlib.Nat.{zero-add, mul-le-mul_right, suc-mul}
use lib.ListN.{length, get_or, set, take, drop, length-drop}
use lib.Seq.{drop-set-add, take-suc-set, take-suc, get_or-drop, get_or-set_same, get_or-set_other, ext_get_or}
use lib.Ieee.{Float, nan, binary64, sub, mul}
use Rattle.numbers.specs.Double.{zero64}
use Rattle.numbers.specs.Ops.{doubles}
use Rattle.numbers.specs.Sum.{sum_from}
use Rattle.least_squares.specs.Memory.{part, Kept}
use Rattle.least_squares.specs.Triangle.{triangle, spread}
use Rattle.least_squares.specs.Lm.{list_of, gram, gram_at, normal, normal_at, stepped_at, stepped}
use Rattle.least_squares.specs.LmPosts.{MatrixRow}
use Rattle.least_squares.proofs.MemoryLaws.{kept_refl, part_at, part_set, part_length, kept_set, kept_trans, kept_wider, kept_at_below, kept_at_above, kept_part_below}
use Rattle.least_squares.proofs.TableLaws.{one_more, in_rows, sum_same, length_list_of, get_d_list_of}
use Rattle.least_squares.proofs.TriangleLaws.{row_in_triangle, in_triangle, spread_is}

-- the entry (i, j) of the matrix at a
pub entry_at : (s : List Float) (a rows i j : ℕ) → i < rows → j < rows → get_or (part s a (rows * rows)) (i * rows + j) nan ≡ get_or s (a + i * rows + j) nan
entry_at s a rows i j h l =
    let e : a + (i * rows + j) ≡ a + i * rows + j = omega arith in
    part_at s a (rows * rows) (i * rows + j) nan (in_rows i j rows rows h l) ∙ ap (λ (w : ℕ). get_or s w nan) e

pub set_entry : (s : List Float) (a rows i j : ℕ) (v : Float) → i < rows → j < rows → part (set s (a + i * rows + j) v) a (rows * rows) ≡ set (part s a (rows * rows)) (i * rows + j) v
set_entry s a rows i j v h l =
    let e : a + i * rows + j ≡ a + (i * rows + j) = omega arith in
    ap (λ (w : ℕ). part (set s w v) a (rows * rows)) e ∙ part_set s a (rows * rows) (i * rows + j) v (in_rows i j rows rows h l)

-- one more double of a copy: what is still to be copied stands outside the places written, before or behind them
pub copy_step : (o s : List Float) (a b k i : ℕ) → min a b + k ≤ max a b → max a b + k ≤ length o → i < k → Kept o s b (b + k) → part s b i ≡ part o a i
    → part (set s (b + i) (get_or s (a + i) nan)) b (suc i) ≡ part o a (suc i)
copy_step o s a b k i h l m r e =
    let v = get_or s (a + i) nan in
    let z = r.size in
    let h1 : i < length (drop b s) = simp length-drop (omega arith) in
    let h2 : i < length (drop a o) = simp length-drop (omega arith) in
    let q : v ≡ get_or (drop a o) i nan = still (dec_lt a b) ∙ sym (get_or-drop a o i nan) in
    ap (take (suc i)) (drop-set-add b s i v) ∙ take-suc-set (drop b s) i v h1 ∙ (λ j. e j ++ (q j ∷ [])) ∙ sym (take-suc (drop a o) i nan h2)
  where
    still : Dec (a < b) → get_or s (a + i) nan ≡ get_or o (a + i) nan
    still (yes u) = kept_at_below o s b (b + k) (a + i) nan (omega arith) r
    still (no u) = kept_at_above o s b (b + k) (a + i) nan (omega arith) r

-- a row of the slopes times another, in memory that keeps the slopes and the weights
pub gram_is : (o s : List Float) (n rows w lo hi i k : ℕ) → i < rows → k < rows → rows * n ≤ lo → hi ≤ w → Kept o s lo hi
    → gram_at s (i * n) (k * n) w n ≡ gram (part o 0 (rows * n)) (part o w n) n i k
unfolding gram_at gram
gram_is o s n rows w lo hi i k h l below above r = sum_same zero64 _ _ n same
  where
    slope_at : (i c : ℕ) → i < rows → c < n → get_or s (i * n + c) nan ≡ get_or (part o 0 (rows * n)) (i * n + c) nan
    slope_at i c h m =
        let in_place = in_rows i c n rows h m in
        kept_at_below o s lo hi (i * n + c) nan (omega arith) r ∙ sym (part_at o 0 (rows * n) (i * n + c) nan in_place ∙ ap (λ (x : ℕ). get_or o x nan) (zero-add (i * n + c)))

    weight_at : (c : ℕ) → c < n → get_or s (w + c) nan ≡ get_or (part o w n) c nan
    weight_at c m = kept_at_above o s lo hi (w + c) nan (omega arith) r ∙ sym (part_at o w n c nan m)

    same : (c : ℕ) → c < n
        → mul binary64 (mul binary64 (get_or s (i * n + c) nan) (get_or s (k * n + c) nan)) (get_or s (w + c) nan)
        ≡ mul binary64 (mul binary64 (get_or (part o 0 (rows * n)) (i * n + c) nan) (get_or (part o 0 (rows * n)) (k * n + c) nan)) (get_or (part o w n) c nan)
    same c m = λ j. mul binary64 (mul binary64 (slope_at i c h m j) (slope_at k c l m j)) (weight_at c m j)

-- so it is as at entry
pub gram_kept : (o s : List Float) (n rows w lo hi i k : ℕ) → i < rows → k < rows → rows * n ≤ lo → hi ≤ w → Kept o s lo hi
    → gram_at s (i * n) (k * n) w n ≡ gram_at o (i * n) (k * n) w n
gram_kept o s n rows w lo hi i k h l below above r =
    gram_is o s n rows w lo hi i k h l below above r ∙ sym (gram_is o o n rows w lo hi i k h l below above (kept_refl o lo hi))

-- the matrix is the same on both sides of its diagonal
pub normal_turned : (jac winv : List Float) (n i k : ℕ) → normal_at jac winv n k i ≡ normal_at jac winv n i k
normal_turned jac winv n i k =
    let a : min k i ≡ min i k = omega arith in
    let b : max k i ≡ max i k = omega arith in
    λ j. gram jac winv n (a j) (b j)

pub normal_left : (jac winv : List Float) (n i k : ℕ) → k ≤ i → gram jac winv n k i ≡ normal_at jac winv n i k
normal_left jac winv n i k h =
    let a : k ≡ min i k = omega arith in
    let b : i ≡ max i k = omega arith in
    λ j. gram jac winv n (a j) (b j)

-- one more entry of a row from `at` on
pub row_step : (s : List Float) (at k : ℕ) (v : Float) (E : ℕ → Float) → at + k < length s → v ≡ E k → ((j : ℕ) → j < k → get_or s (at + j) nan ≡ E j)
    → (j : ℕ) → j < k + 1 → get_or (set s (at + k) v) (at + j) nan ≡ E j
row_step s at k v E h e r =
    one_more (λ j. get_or (set s (at + k) v) (at + j) nan ≡ E j) k
    (λ j m. get_or-set_other s (at + k) (at + j) v nan (λ (z : at + j ≡ at + k). omega arith) ∙ r j m)
    (get_or-set_same s (at + k) v nan h ∙ e)

-- one more of the doubles that are written from `at` on
pub fill_step : (o s t : List Float) (at size k : ℕ) (v : Float) (E : ℕ → Float) → k < size → at + size ≤ length o → Kept o s at (at + size)
    → ((j : ℕ) → j < k → get_or s (at + j) nan ≡ E j) → v ≡ E k → t ≡ set s (at + k) v
    → Kept o t at (at + size) × ((j : ℕ) → j < k + 1 → get_or t (at + j) nan ≡ E j)
fill_step o s t at size k v E h fits r e q p =
    let z = r.size in
    subst (λ (u : List Float). Kept o u at (at + size) × ((j : ℕ) → j < k + 1 → get_or u (at + j) nan ≡ E j)) (sym p)
    (kept_set o s at (at + size) (at + k) v (omega arith) (omega arith) r, row_step s at k v E (omega arith) q e)

-- a row of the slopes ends where the slopes do, at the latest
pub row_fits : (i n rows : ℕ) → i < rows → i * n + n ≤ rows * n
row_fits i n rows h = let m = mul-le-mul_right n h in let e = suc-mul i n in omega arith

-- the first i rows of the matrix f up to the diagonal, in the triangle at a
abbrev pub Lower : List Float → ℕ → (ℕ → ℕ → Float) → ℕ → Type 0
Lower s a f i = (p : ℕ) → p < i → (k : ℕ) → k ≤ p → get_or s (a + triangle p + k) nan ≡ f p k

-- one more row: the slopes and the weights are those that o has
pub lower_step : (o s t : List Float) (i n rows a w : ℕ) → i < rows → rows * n ≤ a → a + triangle rows ≤ w → Kept o s a (a + triangle rows)
    → Lower s a (normal_at (part o 0 (rows * n)) (part o w n) n) i → MatrixRow s t i (a + triangle i) n w
    → Kept o t a (a + triangle rows) × Lower t a (normal_at (part o 0 (rows * n)) (part o w n) n) (i + 1)
lower_step o s t i n rows a w h below above r e q =
    let f = row_in_triangle i rows h in
    (kept_trans o s t a (a + triangle rows) r (kept_wider s t (a + triangle i) (a + triangle i + (i + 1)) a (a + triangle rows) (omega arith) (omega arith) q.kept), one_more (λ p. (k : ℕ) → k ≤ p → get_or t (a + triangle p + k) nan ≡ normal_at jac winv n p k) i before here)
  where
    jac : List Float
    jac = part o 0 (rows * n)

    winv : List Float
    winv = part o w n

    before : (p : ℕ) → p < i → (k : ℕ) → k ≤ p → get_or t (a + triangle p + k) nan ≡ normal_at jac winv n p k
    before p l k d =
        let g = in_triangle p k i d l in
        kept_at_below s t (a + triangle i) (a + triangle i + (i + 1)) (a + triangle p + k) nan (omega arith) q.kept ∙ e p l k d

    here : (k : ℕ) → k ≤ i → get_or t (a + triangle i + k) nan ≡ normal_at jac winv n i k
    here k d = q.entries k d ∙ gram_is o s n rows w a (a + triangle rows) k i (omega arith) h below above r ∙ normal_left jac winv n i k d

-- all rows: each entry read is the matrix's
pub lower_all : (o s : List Float) (n rows a w : ℕ) → Lower s a (normal_at (part o 0 (rows * n)) (part o w n) n) rows
    → spread (part s a (triangle rows)) rows ≡ normal (part o 0 (rows * n)) (part o w n) n rows
unfolding normal
lower_all o s n rows a w e =
    spread_is (normal_at (part o 0 (rows * n)) (part o w n) n) s a rows (λ i k. normal_turned (part o 0 (rows * n)) (part o w n) n k i) e

-- a column of the slopes times y, in memory
abbrev pub column_term : List Float → ℕ → ℕ → ℕ → ℕ → ℕ → Float
column_term s o n y c i = mul binary64 (get_or s (o + (i * n + c)) nan) (get_or s (y + i) nan)

pub stepped_is : (s : List Float) (n rows x o w y c : ℕ) → c < n → x + n ≤ length s
    → sub binary64 (get_or s (x + c) nan) (mul binary64 (get_or s (w + c) nan) (sum_from doubles zero64 (column_term s o n y c) rows))
    ≡ stepped_at (part s x n) (part s o (rows * n)) (part s w n) (part s y rows) rows c
unfolding stepped_at
stepped_is s n rows x o w y c h l =
    let e : length (part s x n) ≡ n = part_length s x n l in
    λ j.
    sub binary64 (sym (part_at s x n c nan h) j)
    (mul binary64 (sym (part_at s w n c nan h) j) (sum_same zero64 (column_term s o n y c) (λ i. mul binary64 (get_or (part s o (rows * n)) (i * length (part s x n) + c) nan) (get_or (part s y rows) i nan)) rows (same e) j))
  where
    same : length (part s x n) ≡ n → (i : ℕ) → i < rows
        → column_term s o n y c i ≡ mul binary64 (get_or (part s o (rows * n)) (i * length (part s x n) + c) nan) (get_or (part s y rows) i nan)
    same e i m =
        let q : get_or (part s o (rows * n)) (i * length (part s x n) + c) nan ≡ get_or s (o + (i * n + c)) nan =
        ap (λ (z : ℕ). get_or (part s o (rows * n)) (i * z + c) nan) e ∙ part_at s o (rows * n) (i * n + c) nan (in_rows i c n rows m h) in
        λ j. mul binary64 (sym q j) (sym (part_at s y rows i nan m) j)

-- one more unknown of the step
pub step_step : (o s t : List Float) (n rows x a w y z c : ℕ) (v : Float) → c < n → a + rows * n ≤ z → x + n ≤ z → w + n ≤ z → y + rows ≤ z → z + n ≤ length o
    → Kept o s z (z + n)
    → ((j : ℕ) → j < c → get_or s (z + j) nan ≡ stepped_at (part o x n) (part o a (rows * n)) (part o w n) (part o y rows) rows j)
    → v ≡ stepped_at (part s x n) (part s a (rows * n)) (part s w n) (part s y rows) rows c
    → t ≡ set s (z + c) v
    → Kept o t z (z + n) × ((j : ℕ) → j < c + 1 → get_or t (z + j) nan ≡ stepped_at (part o x n) (part o a (rows * n)) (part o w n) (part o y rows) rows j)
step_step o s t n rows x a w y z c v h m b d f g r e q p =
    let E = stepped_at (part o x n) (part o a (rows * n)) (part o w n) (part o y rows) rows in
    let k0 = kept_part_below o s z (z + n) x n b r in
    let k1 = kept_part_below o s z (z + n) a (rows * n) m r in
    let k2 = kept_part_below o s z (z + n) w n d r in
    let k3 = kept_part_below o s z (z + n) y rows f r in
    fill_step o s t z n c v E h g r e (q ∙ (λ j. stepped_at (k0 j) (k1 j) (k2 j) (k3 j) rows c)) p

-- a part of as many entries as a list has, equal entry by entry, is the list
pub list_ext : (f : ℕ → Float) (n : ℕ) (l : List Float) → length l ≡ n → ((i : ℕ) → i < n → get_or l i nan ≡ f i) → l ≡ list_of f n
list_ext f n l e h =
    ext_get_or nan l (list_of f n) (e ∙ sym (length_list_of f n)) (λ i m. h i (rw (← e) m) ∙ sym (get_d_list_of f n i nan (rw (← e) m)))

-- all unknowns are the step
pub step_all : (o s : List Float) (n rows x a w y z : ℕ) → x + n ≤ length o → z + n ≤ length s
    → ((j : ℕ) → j < n → get_or s (z + j) nan ≡ stepped_at (part o x n) (part o a (rows * n)) (part o w n) (part o y rows) rows j)
    → part s z n ≡ stepped (part o x n) (part o a (rows * n)) (part o w n) (part o y rows) rows
unfolding stepped
step_all o s n rows x a w y z h l e =
    list_ext E n (part s z n) (part_length s z n l) (λ i m. part_at s z n i nan m ∙ e i m) ∙ ap (list_of E) (sym (part_length o x n h))
  where
    E : ℕ → Float
    E = stepped_at (part o x n) (part o a (rows * n)) (part o w n) (part o y rows) rows

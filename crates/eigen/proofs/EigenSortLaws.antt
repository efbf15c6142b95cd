-- Sorting the pairs in memory, swap by swap, is `sort` of the list of the pairs: a swap of two columns and of two values swaps two pairs, so that a pair moves forward in memory as it
-- sinks in the list. Assumes nothing.
use mathlib.Core.Path.{◌≡◌, refl, sym, ap, ◌∙◌}
use mathlib.Core.Bool.{Bool, true, false}
use mathlib.Core.Logic.{◌≢◌, ⊎_elim, dite}
use mathlib.Core.List.{List, [], ◌∷◌, map, map-append, append-nil}
use Prim.Native.Nat.{ℕ, zero, suc, ◌+◌, ◌-◌, ◌*◌, ◌<◌, ◌≤◌}
use native.Mathlib.Nat.{mul-le-mul_right, suc-mul, eq-or-lt_of_le, le_of_suc-le-suc, not-suc-le-zero, le_refl}
use native.Mathlib.Numerals.{add-one, sub-one}
use native.Mathlib.Decide.{ℕ_discrete}
use native.Mathlib.Omega.{arith}
use lib.ListN.{length, take, drop, set, get_or, length-map, length-set, drop_of_length-le}
use lib.Seq.{get_or-set_same, get_or-set_other, ext_get_or, lt-length-set, set_comm, take-suc, take-length, take_all}
use lib.Ieee.{Float, nan}
use Rattle.numbers.specs.Double.{before}
use Rattle.eigen.specs.Sort.{sort}
use Rattle.eigen.specs.Insertion.{sink}
use Rattle.eigen.specs.Eigen.{Eigen, Turned, turned, unit_to, sweeps, column, pairs, lower, sym_eigen}
use Rattle.eigen.specs.EigenMemory.{SymEigen, Held, held, pair_at, held_pairs, columns, diagonal, swap_pair, swap_columns, swapped, forward, sorted}
use Rattle.eigen.proofs.Sorting.{sink_on, sink_stop, sorted_to, sorted_start, sorted_step, sorted_end, length_sort}
use Rattle.eigen.proofs.SweepLaws.{length_pairs}
use Rattle.eigen.proofs.EigenLaws.{row_within, Grows, length_grows, get_d_grows, length_stored}

-- ---- two entries change places

swap_left : (l : List Float) (i j : ℕ) → i < length l → i ≢ j → get_or (swap_pair l i j) i nan ≡ get_or l j nan
swap_left l i j h e = get_or-set_other (set l i (get_or l j nan)) j i (get_or l i nan) nan e ∙ get_or-set_same l i (get_or l j nan) nan h

swap_right : (l : List Float) (i j : ℕ) → j < length l → get_or (swap_pair l i j) j nan ≡ get_or l i nan
swap_right l i j h = get_or-set_same (set l i (get_or l j nan)) j (get_or l i nan) nan (lt-length-set l i (get_or l j nan) h)

swap_other : (l : List Float) (i j k : ℕ) → k ≢ i → k ≢ j → get_or (swap_pair l i j) k nan ≡ get_or l k nan
swap_other l i j k p q = get_or-set_other (set l i (get_or l j nan)) j k (get_or l i nan) nan q ∙ get_or-set_other l i k (get_or l j nan) nan p

-- ---- two columns change places

-- entries of two rows are apart
row_apart : (n i k c d : ℕ) → c < n → d < n → i < k → i * n + c ≢ k * n + d
row_apart n i k c d hc hd h e = omega (arith, suc-mul i n, mul-le-mul_right n h)

rows_apart : (n i k c d : ℕ) → c < n → d < n → k < i → i * n + c ≢ k * n + d
rows_apart n i k c d hc hd h e = row_apart n k i d c hd hc h (sym e)

module _ (n a b : ℕ) (ha : a < n) (hb : b < n) (l : List Float) (size : length l ≡ n * n) where
  pub length_swap_columns : (k : ℕ) → length (swap_columns n a b l k) ≡ length l
  unfolding swap_columns
  length_swap_columns = length_stored (swap_columns n a b l) n a b _ _ (λ i. refl)

  -- the rows from k on are as they were
  untouched : (c : ℕ) → c < n → (k i : ℕ) → k ≤ i → get_or (swap_columns n a b l k) (i * n + c) nan ≡ get_or l (i * n + c) nan
  unfolding swap_columns
  untouched c hc zero i h = refl
  untouched c hc (suc k) i h =
      swap_other (swap_columns n a b l k) (k * n + a) (k * n + b) (i * n + c) (rows_apart n i k c a hc ha h) (rows_apart n i k c b hc hb h)
      ∙ untouched c hc k i (omega arith)

  -- what a swap within a row brings to column c from column d, the swap of the columns brings in each row
  module _ (c d : ℕ) (hc : c < n) (hd : d < n)
      (brings : (r : List Float) (o : ℕ) → o + a < length r → o + b < length r → get_or (swap_pair r (o + a) (o + b)) (o + c) nan ≡ get_or r (o + d) nan) where
    brought : (k i : ℕ) → k ≤ n → i < k → get_or (swap_columns n a b l k) (i * n + c) nan ≡ get_or l (i * n + d) nan
    unfolding swap_columns
    brought zero i hk h = absurd (not-suc-le-zero h)
    brought (suc k) i hk h =
        ⊎_elim
        (λ e. rw e
        (brings (swap_columns n a b l k) (k * n) (omega (arith, length_swap_columns k, row_within hk)) (omega (arith, length_swap_columns k, row_within hk))
        ∙ untouched d hd k k (omega arith)))
        (λ g. swap_other (swap_columns n a b l k) (k * n + a) (k * n + b) (i * n + c) (row_apart n i k c a hc ha g) (row_apart n i k c b hc hb g)
        ∙ brought k i (omega arith) g)
        (eq-or-lt_of_le (le_of_suc-le-suc h))

    column_brought : (k : ℕ) → k ≤ n → column n (swap_columns n a b l n) c k ≡ column n l d k
    unfolding column
    column_brought zero h = refl
    column_brought (suc k) h = rw (column_brought k (omega arith), brought n k (omega arith) h)

-- ---- the pairs as a list

held_grows : (n : ℕ) (w : Held) → Grows (held_pairs n w) (pair_at n w)
unfolding held_pairs
held_grows n w = record { none = refl; more = λ k. refl }

pub length_held_pairs : (n : ℕ) (w : Held) (k : ℕ) → length (held_pairs n w k) ≡ k
length_held_pairs n w k = length_grows (held_grows n w) k

get_d_held_pairs : (n : ℕ) (w : Held) (d : Eigen) (k i : ℕ) → i < k → get_or (held_pairs n w k) i d ≡ pair_at n w i
get_d_held_pairs n w = get_d_grows (held_grows n w)

-- the values and the columns of v, taken from the pairs
map_values : (n : ℕ) (w : Held) (k : ℕ) → k ≤ length w.vals → map (λ (e : Eigen). e.value) (held_pairs n w k) ≡ take k w.vals
unfolding held_pairs
map_values n w zero h = refl
map_values n w (suc k) h =
    map-append _ (held_pairs n w k) (pair_at n w k ∷ []) ∙ rw (map_values n w k (omega arith), take-suc w.vals k nan h)

pub values_of : (n : ℕ) (w : Held) → length w.vals ≡ n → w.vals ≡ map (λ (e : Eigen). e.value) (held_pairs n w n)
values_of n w e = sym (map_values n w n (omega arith) ∙ rw (← e) (take-length w.vals))

pub vectors_of : (n : ℕ) (w : Held) (k : ℕ) → columns n w.v k ≡ map (λ (e : Eigen). e.vector) (held_pairs n w k)
unfolding held_pairs columns
vectors_of n w zero = refl
vectors_of n w (suc k) = sym (map-append _ (held_pairs n w k) (pair_at n w k ∷ []) ∙ rw (← vectors_of n w k))

pub diagonal_grows : (m : List Float) (n : ℕ) → Grows (diagonal m n) (λ i. get_or m (i * n + i) nan)
unfolding diagonal
diagonal_grows m n = record { none = refl; more = λ k. refl }

-- ---- a swap of two neighbours

-- the lists have their places
pub record Sized (n : ℕ) (w : Held) : Type 0 where
  pub vals : length w.vals ≡ n
  pub v : length w.v ≡ n * n

module _ (n j : ℕ) (h : suc j < n) (w : Held) (size : Sized n w) where
  swapped_sized : Sized n (swapped n j (suc j) w)
  swapped_sized =
      record {
        vals = simp length-set size.vals;
        v = length_swap_columns n j (suc j) (omega arith) h w.v size.v n ∙ size.v;
      }

  pair_left : pair_at n (swapped n j (suc j) w) j ≡ pair_at n w (suc j)
  pair_left =
      rw (
        swap_left w.vals j (suc j) (omega (arith, size.vals)) (omega arith),
        column_brought n j (suc j) (omega arith) h w.v size.v j (suc j) (omega arith) h (λ r o p q. swap_left r (o + j) (o + suc j) p (omega arith)) n (omega arith),
      )

  pair_right : pair_at n (swapped n j (suc j) w) (suc j) ≡ pair_at n w j
  pair_right =
      rw (
        swap_right w.vals j (suc j) (omega (arith, size.vals)),
        column_brought n j (suc j) (omega arith) h w.v size.v (suc j) j h (omega arith) (λ r o p q. swap_right r (o + j) (o + suc j) q) n (omega arith),
      )

  pair_other : (i : ℕ) → i < n → i ≢ j → i ≢ suc j → pair_at n (swapped n j (suc j) w) i ≡ pair_at n w i
  pair_other i hi p q =
      rw (
        swap_other w.vals j (suc j) i p q,
        column_brought n j (suc j) (omega arith) h w.v size.v i i hi hi (λ r o x y. swap_other r (o + j) (o + suc j) (o + i) (omega arith) (omega arith)) n (omega arith),
      )

  swapped_pairs : (d : Eigen)
      → held_pairs n (swapped n j (suc j) w) n ≡ set (set (held_pairs n w n) (suc j) (get_or (held_pairs n w n) j d)) j (get_or (held_pairs n w n) (suc j) d)
  swapped_pairs d =
      ext_get_or d (held_pairs n (swapped n j (suc j) w) n) (set (set all (suc j) y) j x)
      (length_held_pairs n (swapped n j (suc j) w) n ∙ sym (simp length-set (length_held_pairs n w n)))
      (λ i hi. let k : i < n = omega (arith, length_held_pairs n (swapped n j (suc j) w) n) in
      get_d_held_pairs n (swapped n j (suc j) w) d n i k
      ∙ dite (ℕ_discrete i j)
      (λ e. rw e (pair_left ∙ sym (get_or-set_same (set all (suc j) y) j x d (lt-length-set all (suc j) y (omega (arith, long))) ∙ get_d_held_pairs n w d n (suc j) h)))
      (λ ne. dite (ℕ_discrete i (suc j))
      (λ e. rw e
      (pair_right ∙ sym (get_or-set_other (set all (suc j) y) j (suc j) x d (omega arith) ∙ get_or-set_same all (suc j) y d (omega (arith, long)) ∙ get_d_held_pairs n w d n j (omega arith))))
      (λ ne'. pair_other i k ne ne' ∙ sym (get_or-set_other (set all (suc j) y) j i x d ne ∙ get_or-set_other all (suc j) i y d ne' ∙ get_d_held_pairs n w d n i k))))
    where
      all : List Eigen
      all = held_pairs n w n

      x : Eigen
      x = get_or all (suc j) d

      y : Eigen
      y = get_or all j d

      long : length all ≡ n
      long = length_held_pairs n w n

-- ---- moving a pair forward

forward_end : (n j : ℕ) (w : Held) → before (get_or w.vals (suc j) nan) (get_or w.vals j nan) ≡ false → forward n (suc j) w ≡ w
unfolding forward
forward_end n j w e = rw (e, forward)

forward_next : (n j : ℕ) (w : Held) → before (get_or w.vals (suc j) nan) (get_or w.vals j nan) ≡ true → forward n (suc j) w ≡ forward n j (swapped n j (suc j) w)
unfolding forward
forward_next n j w e = rw (e, forward)

-- the same for a place and the one before it
pub forward_stop : (n j : ℕ) (w : Held) → 0 < j → before (get_or w.vals j nan) (get_or w.vals (j - 1) nan) ≡ false → forward n j w ≡ w
forward_stop n zero w h e = absurd (not-suc-le-zero h)
forward_stop n (suc j) w h e = forward_end n j w (rw sub-one at e)

pub forward_on : (n j : ℕ) (w : Held) → 0 < j → before (get_or w.vals j nan) (get_or w.vals (j - 1) nan) ≡ true
    → forward n j w ≡ forward n (j - 1) (swapped n (j - 1) j w)
forward_on n zero w h e = absurd (not-suc-le-zero h)
forward_on n (suc j) w h e = rw sub-one (forward_next n j w (rw sub-one at e))

forward_sized : (n j : ℕ) (w : Held) → j < n → Sized n w → Sized n (forward n j w)
unfolding forward
forward_sized n zero w h s = s
forward_sized n (suc j) w h s =
    by_test (before (get_or w.vals (suc j) nan) (get_or w.vals j nan)) refl (forward_sized n j (swapped n j (suc j) w) (omega arith) (swapped_sized n j h w s))
  where
    by_test : (b : Bool) → before (get_or w.vals (suc j) nan) (get_or w.vals j nan) ≡ b → Sized n (forward n j (swapped n j (suc j) w)) → Sized n (forward n (suc j) w)
    by_test true e k = rw (forward_next n j w e) k
    by_test false e k = rw (forward_end n j w e) s

-- in memory and in the list the pair moves alike
forward_pairs : (n : ℕ) (d : Eigen) (j : ℕ) (w : Held) → j < n → Sized n w → held_pairs n (forward n j w) n ≡ sink lower d (held_pairs n w n) j
unfolding forward sink
forward_pairs n d zero w h size = refl
forward_pairs n d (suc j) w h size = by_test (lower x y) refl (forward_pairs n d j (swapped n j (suc j) w) (omega arith) (swapped_sized n j h w size))
  where
    x : Eigen
    x = get_or (held_pairs n w n) (suc j) d

    y : Eigen
    y = get_or (held_pairs n w n) j d

    test : before (get_or w.vals (suc j) nan) (get_or w.vals j nan) ≡ lower x y
    test = rw (get_d_held_pairs n w d n (suc j) h, get_d_held_pairs n w d n j (omega arith))

    by_test : (b : Bool) → lower x y ≡ b
        → held_pairs n (forward n j (swapped n j (suc j) w)) n ≡ sink lower d (held_pairs n (swapped n j (suc j) w) n) j
        → held_pairs n (forward n (suc j) w) n ≡ sink lower d (held_pairs n w n) (suc j)
    by_test true e k =
        rw (forward_next n j w (test ∙ e), k, swapped_pairs n j h w size d)
        (sym (rw sub-one at (sink_on lower d (held_pairs n w n) (suc j) (omega arith) (rw sub-one e))))
    by_test false e k = rw (forward_end n j w (test ∙ e)) (sym (sink_stop lower d (held_pairs n w n) (suc j) (omega arith) (rw sub-one e)))

-- ---- moving each pair forward in turn sorts

module _ (n : ℕ) (w : Held) (size : Sized n w) where
  sorted_sized : (i : ℕ) → i ≤ n → Sized n (sorted n w i)
  unfolding sorted
  sorted_sized zero h = size
  sorted_sized (suc i) h = forward_sized n i (sorted n w i) h (sorted_sized i (omega arith))

  sorted_to_lem : (d : Eigen) (i : ℕ) → i ≤ n → held_pairs n (sorted n w i) n ≡ sorted_to lower d (held_pairs n w n) i
  unfolding sorted
  sorted_to_lem d zero h = sorted_start lower d (held_pairs n w n)
  sorted_to_lem d (suc i) h =
      forward_pairs n d i (sorted n w i) h (sorted_sized i (omega arith))
      ∙ rw (sorted_to_lem d i (omega arith), ← add-one i) (sorted_step lower d (held_pairs n w n) i (omega (arith, length_held_pairs n w n)))

  pub sorted_pairs : held_pairs n (sorted n w n) n ≡ sort lower (held_pairs n w n)
  sorted_pairs =
      let e : length (held_pairs n w n) ≤ n = omega (arith, length_held_pairs n w n) in
      sorted_to_lem (pair_at n w 0) n (le_refl n)
      ∙ sorted_end lower (pair_at n w 0) (held_pairs n w n) n
      ∙ rw (take_all n (held_pairs n w n) e, drop_of_length-le (held_pairs n w n) e, append-nil)

-- ---- the values alone: whatever the columns are, the values are sorted as a list

forward_values : (n j : ℕ) (w : Held) → (forward n j w).vals ≡ sink before nan w.vals j
unfolding forward sink
forward_values n zero w = refl
forward_values n (suc j) w = go (before x y) (forward_values n j (swapped n j (suc j) w))
  where
    x : Float
    x = get_or w.vals (suc j) nan

    y : Float
    y = get_or w.vals j nan

    go : (b : Bool) → (forward n j (swapped n j (suc j) w)).vals ≡ sink before nan (swap_pair w.vals j (suc j)) j
        → (elim b as (λ _. Held) [ true ↦ forward n j (swapped n j (suc j) w) | false ↦ w ]).vals
        ≡ elim b as (λ _. List Float) [ true ↦ sink before nan (set (set w.vals (suc j) y) j x) j | false ↦ w.vals ]
    go true e = e ∙ ap (λ (l : List Float). sink before nan l j) (set_comm w.vals j (suc j) x y (λ e. absurd (omega arith)))
    go false e = refl

values_to : (n : ℕ) (w : Held) (i : ℕ) → i ≤ length w.vals → (sorted n w i).vals ≡ sorted_to before nan w.vals i
unfolding sorted
values_to n w zero h = sorted_start before nan w.vals
values_to n w (suc i) h = forward_values n i (sorted n w i) ∙ rw (values_to n w i (omega arith), ← add-one i) (sorted_step before nan w.vals i h)

pub sorted_values : (n : ℕ) (w : Held) → length w.vals ≡ n → (sorted n w n).vals ≡ sort before w.vals
sorted_values n w e =
    let h : length w.vals ≤ n = omega arith in
    values_to n w n (omega arith) ∙ sorted_end before nan w.vals n ∙ rw (take_all n w.vals h, drop_of_length-le w.vals h, append-nil)

-- the diagonal and the columns, paired, are the pairs of the definition
pub held_diagonal : (n : ℕ) (w : Turned) (k : ℕ) → k ≤ n → held_pairs n (record { vals = diagonal w.m n n; v = w.v }) k ≡ pairs n w k
unfolding held_pairs pairs
held_diagonal n w zero h = refl
held_diagonal n w (suc k) h = rw (held_diagonal n w k (omega arith), get_d_grows (diagonal_grows w.m n) nan n k h)

-- ---- the four steps of `sym_eigen`

module _ (n : ℕ) (a u m v d vals r : List Float) (unit : u ≡ unit_to n n) (turn : turned m v ≡ sweeps n 100 (turned a u)) (diag : d ≡ diagonal m n n)
    (sort-is : held vals r ≡ sorted n (held d v) n) (room : length v ≡ n * n) where
  turn_is : turned m v ≡ sweeps n 100 (turned a (unit_to n n))
  turn_is = rw unit at turn

  size : Sized n (held d v)
  size = record { vals = ap length diag ∙ length_grows (diagonal_grows m n) n; v = room }

  pairs_are : held_pairs n (held vals r) n ≡ sym_eigen n a
  unfolding sym_eigen
  pairs_are = rw (sort-is, sorted_pairs n (held d v) size, diag, held_diagonal n (turned m v) n (le_refl n), turn_is)

  pub sym_eigen_is : SymEigen n a m r vals
  sym_eigen_is =
      record {
        matrix = ap (λ (w : Turned). w.m) turn_is;
        values = values_of n (held vals r) (ap (λ (w : Held). length w.vals) sort-is ∙ (sorted_sized n (held d v) size n (le_refl n)).vals) ∙ rw pairs_are;
        vectors = vectors_of n (held vals r) n ∙ rw pairs_are;
      }

-- ---- what `sym_eigen` leaves, read as pairs

abbrev eigen_of : Float → List Float → Eigen
eigen_of value vector = record { value = value; vector = vector }

same_pairs : (l r : List Eigen) → map (λ (e : Eigen). e.value) l ≡ map (λ (e : Eigen). e.value) r → map (λ (e : Eigen). e.vector) l ≡ map (λ (e : Eigen). e.vector) r → l ≡ r
same_pairs [] [] p q = refl
same_pairs [] (y ∷ r) p q = absurd (let e : 0 ≡ suc (length (map (λ (e : Eigen). e.value) r)) = ap length p in omega arith)
same_pairs (x ∷ l) [] p q = absurd (let e : suc (length (map (λ (e : Eigen). e.value) l)) ≡ 0 = ap length p in omega arith)
same_pairs (x ∷ l) (y ∷ r) p q =
    ap (λ (v : Float). eigen_of v x.vector ∷ l) (ap (λ (s : List Float). get_or s 0 nan) p)
    ∙ ap (λ (v : List Float). eigen_of y.value v ∷ l) (ap (λ (s : List (List Float)). get_or s 0 []) q)
    ∙ ap (λ (t : List Eigen). y ∷ t) (same_pairs l r (ap (drop 1) p) (ap (drop 1) q))

length_sym_eigen : (n : ℕ) (a : List Float) → length (sym_eigen n a) ≡ n
unfolding sym_eigen
length_sym_eigen n a = length_sort lower (eigen_of nan []) (pairs n (sweeps n 100 (turned a (unit_to n n))) n) ∙ length_pairs n (sweeps n 100 (turned a (unit_to n n))) n

pub held_sym_eigen : (n : ℕ) (a m v vals : List Float) → SymEigen n a m v vals → held_pairs n (held vals v) n ≡ sym_eigen n a
held_sym_eigen n a m v vals h =
    let e : length vals ≡ n = ap length h.values ∙ length-map (sym_eigen n a) (λ (e : Eigen). e.value) ∙ length_sym_eigen n a in
    same_pairs (held_pairs n (held vals v) n) (sym_eigen n a) (sym (values_of n (held vals v) e) ∙ h.values) (sym (vectors_of n (held vals v) n) ∙ h.vectors)

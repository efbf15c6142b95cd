-- The values without the vectors: the sweeps without them leave the same matrix, and its sorted diagonal is the values of the sorted pairs. A part of a slice that was lent and is
-- back. Assumes nothing.
use mathlib.Core.Path.{◌≡◌, refl, sym, ap, ◌∙◌}
use mathlib.Core.List.{List, [], ◌∷◌, ◌++◌, map, map-append}
use Prim.Native.Nat.{ℕ, zero, suc, ◌+◌, ◌-◌, ◌*◌, ◌≤◌, ◌<◌}
use native.Mathlib.Nat.{zero-add}
use native.Mathlib.Numerals.{add-one}
use native.Mathlib.Omega.{arith}
use lib.ListN.{length, get_or, set, take, drop, length-drop}
use lib.Seq.{take_at, drop_at, take-suc-set, drop-set-add, length-take-le}
use lib.Ieee.{Float, nan}
use borrow.Rule.Slice.PartMut.{put_mid, same_len_mid, mid_len, take_put, drop_put}
use Rattle.numbers.specs.Double.{before}
use Rattle.eigen.specs.Sort.{sort}
use Rattle.eigen.specs.Eigen.{Turned, turned, sweeps, unit_to, Eigen, column, pairs, lower, sym_eigen}
use Rattle.eigen.specs.EigenMemory.{diagonal, held, sorted}
use Rattle.eigen.proofs.Sorting.{sort_map}
use Rattle.eigen.proofs.SweepLaws.{bare_sweeps}
use Rattle.eigen.proofs.EigenSortLaws.{sorted_values}
use Rattle.least_squares.specs.Memory.{part, Kept}
use Rattle.scene.specs.Scene.{Put}
use Rattle.least_squares.proofs.MemoryLaws.{part_at, kept_trans, kept_wider, kept_at_below}
use Rattle.least_squares.proofs.TableLaws.{in_rows}
use Rattle.freedom.specs.Values.{Values}

-- ---- the values

pairs_values : (n : ℕ) (w : Turned) (k : ℕ) → map (λ (e : Eigen). e.value) (pairs n w k) ≡ diagonal w.m n k
unfolding pairs diagonal
pairs_values n w zero = refl
pairs_values n w (suc k) =
    map-append _ (pairs n w k) (record { value = get_or w.m (k * n + k) nan; vector = column n w.v k n } ∷ [])
    ∙ ap (λ (l : List Float). l ++ (get_or w.m (k * n + k) nan ∷ [])) (pairs_values n w k)

-- the values of the pairs, by the matrix that the sweeps without vectors leave
values_are : (n : ℕ) (a : List Float) → map (λ (e : Eigen). e.value) (sym_eigen n a) ≡ sort before (diagonal (sweeps n 100 (turned a [])).m n n)
unfolding sym_eigen
values_are n a =
    let w = sweeps n 100 (turned a (unit_to n n)) in
    sort_map lower before (λ (e : Eigen). e.value) (λ x y. refl) (pairs n w n)
    ∙ ap (sort before) (pairs_values n w n ∙ ap (λ (x : Turned). diagonal x.m n n) (bare_sweeps n 100 (turned a (unit_to n n))))

-- ---- the diagonal

-- one more entry of the diagonal
pub diagonal_step : (o s : List Float) (n i : ℕ) → n * n + n ≤ length o → i < n → Kept o s (n * n) (n * n + n) → part s (n * n) i ≡ diagonal (part o 0 (n * n)) n i
    → part (set s (n * n + i) (get_or s (i * n + i) nan)) (n * n) (i + 1) ≡ diagonal (part o 0 (n * n)) n (i + 1)
unfolding diagonal
diagonal_step o s n i h l r e =
    let v = get_or s (i * n + i) nan in
    let z = r.size in
    let m = in_rows i i n n l l in
    let h1 : i < length (drop (n * n) s) = simp length-drop (omega arith) in
    let q : v ≡ get_or (part o 0 (n * n)) (i * n + i) nan
    = kept_at_below o s (n * n) (n * n + n) (i * n + i) nan m r ∙ sym (part_at o 0 (n * n) (i * n + i) nan m ∙ ap (λ (x : ℕ). get_or o x nan) (zero-add (i * n + i))) in
    rw (add-one i) (ap (take (suc i)) (drop-set-add (n * n) s i v) ∙ take-suc-set (drop (n * n) s) i v h1 ∙ (λ j. e j ++ (q j ∷ [])))

-- ---- a part from a up to e was lent and is back as q

pub lent_kept : (s q : List Float) (a e : ℕ) → a ≤ e → e ≤ length s → length q ≡ e - a → Kept s (put_mid a (e - a) s q) a e
lent_kept s q a e h g l =
    record { size = same_len_mid a (e - a) s q (l ∙ sym (mid_len a e s g)); below = take_put a (e - a) s q (omega arith); above = drop_put a e s q h g l }

pub lent_part : (s q : List Float) (a e k : ℕ) → a ≤ length s → length q ≡ k → part (put_mid a (e - a) s q) a k ≡ q
lent_part s q a e k h l =
    ap (take k) (drop_at (take a s) (q ++ drop (e - a) (drop a s)) a (length-take-le a s h)) ∙ take_at q (drop (e - a) (drop a s)) k l

-- ---- the three steps of `values`: the sweeps leave the matrix m, the diagonal the list s2, and the sort the values v

module _ (n : ℕ) (s m s2 v : List Float) (room : n * n + n ≤ length s)
    (turns : m ≡ (sweeps n 100 (turned (take (n * n - 0) s) [])).m) (m-size : length m ≡ length (take (n * n - 0) s))
    (diag : Put (put_mid 0 (n * n - 0) s m) s2 (n * n) n (diagonal (part (put_mid 0 (n * n - 0) s m) 0 (n * n)) n n))
    (sorts : v ≡ (sorted n (held (take (n * n + n - n * n) (drop (n * n) s2)) []) n).vals) (v-size : length v ≡ length (take (n * n + n - n * n) (drop (n * n) s2))) where
  m_is : length m ≡ n * n - 0
  m_is = m-size ∙ mid_len 0 (n * n) s (omega arith)

  kept_1 : Kept s (put_mid 0 (n * n - 0) s m) 0 (n * n)
  kept_1 = lent_kept s m 0 (n * n) (omega arith) (omega arith) m_is

  size_2 : length s2 ≡ length s
  size_2 = diag.kept.size ∙ kept_1.size

  v_is : length v ≡ n * n + n - n * n
  v_is = v-size ∙ mid_len (n * n) (n * n + n) s2 (let z = size_2 in omega arith)

  -- the matrix that is left, and its diagonal behind it
  turned_part : part (put_mid 0 (n * n - 0) s m) 0 (n * n) ≡ (sweeps n 100 (turned (part s 0 (n * n)) [])).m
  turned_part =
      let u = m_is in
      let e : n * n - 0 ≡ n * n = omega arith in
      lent_part s m 0 (n * n) (n * n) (omega arith) (omega arith) ∙ turns ∙ ap (λ (k : ℕ). (sweeps n 100 (turned (take k s) [])).m) e

  sorted_part : v ≡ sort before (part s2 (n * n) n)
  sorted_part =
      let w = v_is in
      let f : n * n + n - n * n ≡ n = omega arith in
      sorts ∙ sorted_values n (held (take (n * n + n - n * n) (drop (n * n) s2)) []) (sym v-size ∙ v_is ∙ f) ∙ ap (λ (k : ℕ). sort before (take k (drop (n * n) s2))) f

  pub values_end : Values n s (put_mid (n * n) (n * n + n - n * n) s2 v)
  values_end =
      let z = size_2 in
      let w = v_is in
      record {
        values =
            lent_part s2 v (n * n) (n * n + n) n (omega arith) (omega arith) ∙ sorted_part
            ∙ ap (sort before) (diag.holds ∙ ap (λ (l : List Float). diagonal l n n) turned_part)
            ∙ sym (values_are n (part s 0 (n * n)));
        kept =
            kept_trans s s2 _ 0 (n * n + n)
            (kept_trans s _ s2 0 (n * n + n) (kept_wider s _ 0 (n * n) 0 (n * n + n) (omega arith) (omega arith) kept_1)
            (kept_wider _ s2 (n * n) (n * n + n) 0 (n * n + n) (omega arith) (omega arith) diag.kept))
            (kept_wider s2 _ (n * n) (n * n + n) 0 (n * n + n) (omega arith) (omega arith) (lent_kept s2 v (n * n) (n * n + n) (omega arith) (omega arith) w));
      }

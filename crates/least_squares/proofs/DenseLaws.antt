-- What the steps of elimination do to memory that holds the system, and that they leave what follows alone. By the laws of parts. Assumes nothing.
use mathlib.Core.Path.{◌≡◌, refl, sym, ap, ◌∙◌}
use mathlib.Core.Bool.{Bool, true, false, ◌&&◌, cond}
use mathlib.Core.List.{List}
use mathlib.Core.Option.{Option, none, some}
use Prim.Native.Nat.{ℕ, zero, suc, ◌+◌, ◌-◌, ◌*◌, ◌≤◌, ◌<◌}
use native.Mathlib.Nat.{mul-le-mul_right, suc-mul, add-zero, add-suc, add_comm}
use native.Mathlib.Omega.{arith}
use lib.ListN.{get_or, set, take}
use lib.Seq.{get_or-take, take-set-lt, take-set-le}
use borrow.Author.Tests.{eq-eqb, ne_eqb}
use lib.Dec.{ltb}
use lib.Ieee.{Float, nan, inf, fin, binary64, sub, mul, div, neg, lt, le, eq, of_bits, up, down}
use Rattle.numbers.proofs.DoubleLaws.{abs_negative, abs_positive}
use Rattle.numbers.specs.Double.{zero64, negative, abs}
use Rattle.least_squares.specs.Memory.{part, Kept}
use Rattle.least_squares.specs.Lm.{System, scale_of, pivot_to, exchange, swap_to, pivoted, take_off_to, clear_row, clear_to, clear_column, eliminate_to, rest_to, back_to, all_finite, answer_of, solve_dense}
use Rattle.least_squares.specs.Dense.{system_at, PivotOf, Became, given, Reached, Dense}
use Rattle.least_squares.proofs.MemoryLaws.{part_at, part_set, kept_refl, kept_set, kept_trans, kept_wider, kept_part_above}
use Rattle.least_squares.proofs.TableLaws.{in_rows}

-- row r of n lies within the matrix
pub row_fits : (r n : ℕ) → r < n → r * n + n ≤ n * n
row_fits r n h = omega (arith, suc-mul r n, mul-le-mul_right n h)

-- ---- a magnitude below a bound

lt_neg : (x t : Float) → lt (neg x) t ≡ lt (neg t) x
unfolding lt neg
lt_neg nan nan = refl
lt_neg nan (inf t) = refl
lt_neg nan (fin t n d) = refl
lt_neg (inf s) nan = refl
lt_neg (inf true) (inf true) = refl
lt_neg (inf true) (inf false) = refl
lt_neg (inf false) (inf true) = refl
lt_neg (inf false) (inf false) = refl
lt_neg (inf s) (fin t n d) = refl
lt_neg (fin s m e) nan = refl
lt_neg (fin s m e) (inf t) = refl
lt_neg (fin true m e) (fin true n d) = refl
lt_neg (fin true m e) (fin false n d) = refl
lt_neg (fin false m e) (fin true n d) = refl
lt_neg (fin false m e) (fin false n d) = ap (ltb 0) (add_comm (m * up e * down d) (n * up d * down e))

both : (a b : Bool) → (a && b) ≡ true → (a ≡ true) × (b ≡ true)
both true true h = (refl, refl)
both true false h = (refl, h)
both false b h = (h, cc)

by_sign : (x t : Float) (s : Bool) → negative x ≡ s → lt x t ≡ true → lt (neg t) x ≡ true → lt (abs x) t ≡ true
by_sign x t false e h g = rw (abs_positive x e) h
by_sign x t true e h g = rw (abs_negative x e) (lt_neg x t ∙ g)

pub magnitude_below : (x t : Float) → (lt x t && lt (neg t) x) ≡ true → lt (abs x) t ≡ true
magnitude_below x t h = let p = both (lt x t) (lt (neg t) x) h in by_sign x t (negative x) refl p.0 p.1

-- ---- the front part, that is the matrix: what is read there, and what a step makes of it

pub pivot_front : (s : List Float) (n col k : ℕ) → col < n → col + k ≤ n → pivot_to (take (n * n) s) n col k ≡ pivot_to s n col k
unfolding pivot_to
pivot_front s n col zero h g = refl
pivot_front s n col (suc k) h g =
    let i : (col + k) * n + col < n * n = in_rows (col + k) col n n (omega arith) h in
    rw (get_or-take (n * n) s ((col + k) * n + col) nan i, pivot_front s n col k h (omega arith))

-- one row more: the pivot is that row's, or it stays
pub pivot_taken : (s : List Float) (n col k : ℕ) (best v : Float) → best ≡ (pivot_to s n col k).best → v ≡ abs (get_or s ((col + k) * n + col) nan) → lt best v ≡ true
    → pivot_to s n col (suc k) ≡ record { best = v; row = col + k }
unfolding pivot_to
pivot_taken s n col k best v h g e = rw (← h, ← g, e)

pub pivot_left : (s : List Float) (n col k : ℕ) (best v : Float) → best ≡ (pivot_to s n col k).best → v ≡ abs (get_or s ((col + k) * n + col) nan) → lt best v ≡ false
    → pivot_to s n col (suc k) ≡ pivot_to s n col k
unfolding pivot_to
pivot_left s n col k best v h g e =
    let q : lt (pivot_to s n col k).best (abs (get_or s ((col + k) * n + col) nan)) ≡ false = rw (← h, ← g) e in
    rw q

pub exchange_front : (s : List Float) (m i j : ℕ) → i < m → j < m → take m (exchange s i j) ≡ exchange (take m s) i j
exchange_front s m i j h g = rw (take-set-lt, take-set-lt, get_or-take m s i nan h, get_or-take m s j nan g)

pub swap_front : (s : List Float) (n p col k : ℕ) → p < n → col < n → k ≤ n → take (n * n) (swap_to s n p col k) ≡ swap_to (take (n * n) s) n p col k
unfolding swap_to
swap_front s n p col zero h g l = refl
swap_front s n p col (suc k) h g l =
    let i : p * n + k < n * n = in_rows p k n n h l in
    let j : col * n + k < n * n = in_rows col k n n g l in
    exchange_front (swap_to s n p col k) (n * n) (p * n + k) (col * n + k) i j ∙ rw (swap_front s n p col k h g (omega arith))

pub take_off_front : (s : List Float) (n r col : ℕ) (f : Float) (k : ℕ) → r < n → col < n → col + k ≤ n
    → take (n * n) (take_off_to s n r col f k) ≡ take_off_to (take (n * n) s) n r col f k
unfolding take_off_to
take_off_front s n r col f zero h g l = refl
take_off_front s n r col f (suc k) h g l =
    let t = take_off_to s n r col f k in
    let i : r * n + (col + k) < n * n = in_rows r (col + k) n n h (omega arith) in
    let j : col * n + (col + k) < n * n = in_rows col (col + k) n n g (omega arith) in
    rw (take-set-lt, ← take_off_front s n r col f k h g (omega arith), get_or-take (n * n) t (r * n + (col + k)) nan i, get_or-take (n * n) t (col * n + (col + k)) nan j)

-- ---- what a step leaves alone

exchange_kept : (s t : List Float) (lo hi i j : ℕ) → lo ≤ i → i < hi → lo ≤ j → j < hi → Kept s t lo hi → Kept s (exchange t i j) lo hi
exchange_kept s t lo hi i j a b c d k = kept_set s (set t i (get_or t j nan)) lo hi j (get_or t i nan) c d (kept_set s t lo hi i (get_or t j nan) a b k)

swap_kept : (s : List Float) (n p col k : ℕ) → p < n → col < n → k ≤ n → Kept s (swap_to s n p col k) 0 (n * n)
unfolding swap_to
swap_kept s n p col zero h g l = kept_refl s 0 (n * n)
swap_kept s n p col (suc k) h g l =
    exchange_kept s (swap_to s n p col k) 0 (n * n) (p * n + k) (col * n + k) (omega arith) (in_rows p k n n h l) (omega arith) (in_rows col k n n g l)
    (swap_kept s n p col k h g (omega arith))

take_off_kept : (s : List Float) (n r col : ℕ) (f : Float) (k : ℕ) → r < n → col + k ≤ n → Kept s (take_off_to s n r col f k) 0 (n * n)
unfolding take_off_to
take_off_kept s n r col f zero h l = kept_refl s 0 (n * n)
take_off_kept s n r col f (suc k) h l =
    kept_set s (take_off_to s n r col f k) 0 (n * n) (r * n + (col + k)) _ (omega arith) (in_rows r (col + k) n n h (omega arith))
    (take_off_kept s n r col f k h (omega arith))

-- one step after another
pub became_trans : (s t u : List Float) (n : ℕ) (w : System) (f : System → System) → Became s t n w → Became t u n (f (system_at t n)) → Became s u n (f w)
became_trans s t u n w f a b = record { system = b.system ∙ ap f a.system; kept = kept_trans s t u 0 (n * n + n) a.kept b.kept }

-- ---- the rows exchanged

exchange_part : (s : List Float) (o k i j : ℕ) → i < k → j < k → part (exchange s (o + i) (o + j)) o k ≡ exchange (part s o k) i j
exchange_part s o k i j h g =
    part_set (set s (o + i) (get_or s (o + j) nan)) o k j (get_or s (o + i) nan) g ∙ rw (part_set s o k i (get_or s (o + j) nan) h, part_at s o k i nan h, part_at s o k j nan g)

pub placed : (s : List Float) (n p col : ℕ) → p < n → col < n → (p ≡ col → ⊥)
    → Became s (exchange (swap_to s n p col n) (n * n + p) (n * n + col)) n (pivoted (system_at s n) n p col)
unfolding pivoted
placed s n p col h g ne =
    record {
      system = rw (ne_eqb p col ne) (λ i. record { a = a_is i; b = b_is i });
      kept = exchange_kept s t 0 (n * n + n) (n * n + p) (n * n + col) (omega arith) (omega arith) (omega arith) (omega arith)
          (kept_wider s t 0 (n * n) 0 (n * n + n) (omega arith) (omega arith) k);
    }
  where
    t : List Float
    t = swap_to s n p col n

    k : Kept s t 0 (n * n)
    k = swap_kept s n p col n h g (omega arith)

    a_is : take (n * n) (exchange t (n * n + p) (n * n + col)) ≡ swap_to (take (n * n) s) n p col n
    a_is =
        take-set-le (n * n) (set t (n * n + p) (get_or t (n * n + col) nan)) (n * n + col) (get_or t (n * n + p) nan) (omega arith)
        ∙ take-set-le (n * n) t (n * n + p) (get_or t (n * n + col) nan) (omega arith)
        ∙ swap_front s n p col n h g (omega arith)

    b_is : part (exchange t (n * n + p) (n * n + col)) (n * n) n ≡ exchange (part s (n * n) n) p col
    b_is = exchange_part t (n * n) n p col h g ∙ ap (λ (l : List Float). exchange l p col) (kept_part_above s t 0 (n * n) (n * n) n (omega arith) k)

-- the row that holds the pivot stays where it is
pub stays : (s : List Float) (n p col : ℕ) → p ≡ col → Became s s n (pivoted (system_at s n) n p col)
unfolding pivoted
stays s n p col e = record { system = rw (eq-eqb p col e); kept = kept_refl s 0 (n * n + n) }

-- ---- one row cleared

module _ (s : List Float) (n r col : ℕ) (f : Float) (h : r < n) (g : col < n) (q : f ≡ div binary64 (get_or s (r * n + col) nan) (get_or s (col * n + col) nan)) where
  factor : div binary64 (get_or (take (n * n) s) (r * n + col) nan) (get_or (take (n * n) s) (col * n + col) nan) ≡ f
  factor =
      let i : r * n + col < n * n = in_rows r col n n h g in
      let j : col * n + col < n * n = in_rows col col n n g g in
      rw (get_or-take (n * n) s (r * n + col) nan i, get_or-take (n * n) s (col * n + col) nan j) (sym q)

  pub clear_already : eq f zero64 ≡ true → Became s s n (clear_row (system_at s n) n r col)
  unfolding clear_row
  clear_already e = record { system = rw (factor, e); kept = kept_refl s 0 (n * n + n) }

  pub cleared : eq f zero64 ≡ false
      → (let t = take_off_to s n r col f (n - col) in
      Became s (set t (n * n + r) (sub binary64 (get_or t (n * n + r) nan) (mul binary64 f (get_or t (n * n + col) nan)))) n (clear_row (system_at s n) n r col))
  unfolding clear_row
  cleared e =
      record {
        system = rw (factor, e) (λ i. record { a = a_is i; b = b_is i });
        kept = kept_set s t 0 (n * n + n) (n * n + r) v (omega arith) (omega arith) (kept_wider s t 0 (n * n) 0 (n * n + n) (omega arith) (omega arith) k);
      }
    where
      t : List Float
      t = take_off_to s n r col f (n - col)

      v : Float
      v = sub binary64 (get_or t (n * n + r) nan) (mul binary64 f (get_or t (n * n + col) nan))

      k : Kept s t 0 (n * n)
      k = take_off_kept s n r col f (n - col) h (omega arith)

      a_is : take (n * n) (set t (n * n + r) v) ≡ take_off_to (take (n * n) s) n r col f (n - col)
      a_is = take-set-le (n * n) t (n * n + r) v (omega arith) ∙ take_off_front s n r col f (n - col) h g (omega arith)

      b_is : part (set t (n * n + r) v) (n * n) n
          ≡ set (part s (n * n) n) r (sub binary64 (get_or (part s (n * n) n) r nan) (mul binary64 f (get_or (part s (n * n) n) col nan)))
      b_is =
          part_set t (n * n) n r v h
          ∙ rw (← part_at t (n * n) n r nan h, ← part_at t (n * n) n col nan g, kept_part_above s t 0 (n * n) (n * n) n (omega arith) k)

-- ---- memory where there may be no system

pub reached_some : (s t : List Float) (n : ℕ) (o : Option System) (ok : Bool) → ok ≡ true → Reached s t n o ok → o ≡ some (system_at t n)
reached_some s t n none ok e r = let q = r.told in cc
reached_some s t n (some w) ok e r = ap some (sym (r.system w refl))

pub reached_none : (s t : List Float) (n : ℕ) (o : Option System) (ok : Bool) → ok ≡ false → Reached s t n o ok → o ≡ none
reached_none s t n none ok e r = refl
reached_none s t n (some w) ok e r = let q = r.told in cc

pub some_reached : (s t : List Float) (n : ℕ) (o : Option System) → o ≡ some (system_at t n) → Kept s t 0 (n * n + n) → Reached s t n o true
some_reached s t n o e k = record { told = rw e; system = λ w q. cc; kept = k }

pub none_reached : (s t : List Float) (n : ℕ) (o : Option System) → o ≡ none → Kept s t 0 (n * n + n) → Reached s t n o false
none_reached s t n o e k = record { told = rw e; system = λ w q. cc; kept = k }

-- ---- a column

pub pivot_within : (s : List Float) (n col k : ℕ) → col < n → col + k ≤ n → (pivot_to s n col k).row < n
unfolding pivot_to
pivot_within s n col zero h g = h
pivot_within s n col (suc k) h g =
    elim (lt (pivot_to s n col k).best (abs (get_or s ((col + k) * n + col) nan))) as
    (λ (t : Bool). (cond t (record { best = abs (get_or s ((col + k) * n + col) nan); row = col + k }) (pivot_to s n col k)).row < n) [
      | true ↦ omega arith
      | false ↦ pivot_within s n col k h (omega arith)
    ]

module _ (s : List Float) (n col : ℕ) (scale best : Float) (row : ℕ) (h : col < n) (p : PivotOf s n col best row) where
  front_pivot : pivot_to (take (n * n) s) n col (n - col) ≡ pivot_to s n col (n - col)
  front_pivot = pivot_front s n col (n - col) h (omega arith)

  pub column_none : le best (mul binary64 scale (of_bits binary64 0x3CD2_03AF_9EE7_5616)) ≡ true → Reached s s n (clear_column scale n col (system_at s n)) false
  unfolding clear_column
  column_none e = none_reached s s n _ (rw (front_pivot, ← p.best_is, e)) (kept_refl s 0 (n * n + n))

  is_some : le best (mul binary64 scale (of_bits binary64 0x3CD2_03AF_9EE7_5616)) ≡ false
      → clear_column scale n col (system_at s n) ≡ some (clear_to (pivoted (system_at s n) n row col) n col (n - (col + 1)))
  unfolding clear_column
  is_some e = rw (front_pivot, ← p.best_is, ← p.row_is, e)

  pub column_some : (t u : List Float) → le best (mul binary64 scale (of_bits binary64 0x3CD2_03AF_9EE7_5616)) ≡ false → Became s t n (pivoted (system_at s n) n row col)
      → Became t u n (clear_to (system_at t n) n col (n - (col + 1))) → Reached s u n (clear_column scale n col (system_at s n)) true
  column_some t u e a b =
      let w = became_trans s t u n (pivoted (system_at s n) n row col) (λ (w : System). clear_to w n col (n - (col + 1))) a b in
      some_reached s u n (clear_column scale n col (system_at s n)) (is_some e ∙ ap some (sym w.system)) w.kept

-- ---- every column

pub one_more : (w : System) (scale : Float) (n k : ℕ) (v : System) → eliminate_to w scale n k ≡ some v → eliminate_to w scale n (suc k) ≡ clear_column scale n k v
unfolding eliminate_to
one_more w scale n k v e = rw e

none_after : (w : System) (scale : Float) (n k j : ℕ) → eliminate_to w scale n k ≡ none → eliminate_to w scale n (k + j) ≡ none
unfolding eliminate_to
none_after w scale n k zero e = rw add-zero e
none_after w scale n k (suc j) e = rw (add-suc, none_after w scale n k j e)

-- where a column has no pivot, there is no system at the end
pub none_at_last : (w : System) (scale : Float) (n k m : ℕ) → k ≤ m → eliminate_to w scale n k ≡ none → eliminate_to w scale n m ≡ none
none_at_last w scale n k m h e =
    let q : k + (m - k) ≡ m = omega arith in
    rw q at (none_after w scale n k (m - k) e)

-- ---- back substitution

pub backed : (s₀ s : List Float) (n k : ℕ) (t : Float) → k < n → Became s₀ s n (back_to (system_at s₀ n) n k)
    → t ≡ rest_to (system_at s n) n (n - suc k) (n - (n - suc k + 1))
    → Became s₀ (set s (n * n + (n - suc k)) (div binary64 t (get_or s ((n - suc k) * n + (n - suc k)) nan))) n (back_to (system_at s₀ n) n (suc k))
unfolding back_to
backed s₀ s n k t h w q =
    let r = n - suc k in
    let l : r < n = omega arith in
    let i : r * n + r < n * n = in_rows r r n n l l in
    let v = div binary64 t (get_or s (r * n + r) nan) in
    record {
      system =
          rw (← w.system, get_or-take (n * n) s (r * n + r) nan i, ← q)
          (λ x. record { a = take-set-le (n * n) s (n * n + r) v (omega arith) x; b = part_set s (n * n) n r v l x });
      kept = kept_set s₀ s 0 (n * n + n) (n * n + r) v (omega arith) (omega arith) w.kept;
    }

pub rest_first : (s : List Float) (n r : ℕ) → r < n → rest_to (system_at s n) n r 0 ≡ get_or s (n * n + r) nan
unfolding rest_to
rest_first s n r h = part_at s (n * n) n r nan h

pub rest_next : (s : List Float) (n r k : ℕ) → r + 1 + k < n
    → rest_to (system_at s n) n r (suc k)
    ≡ sub binary64 (rest_to (system_at s n) n r k) (mul binary64 (get_or s (r * n + (r + 1 + k)) nan) (get_or s (n * n + (r + 1 + k)) nan))
unfolding rest_to
rest_next s n r k h =
    let i : r * n + (r + 1 + k) < n * n = in_rows r (r + 1 + k) n n (omega arith) h in
    rw (get_or-take (n * n) s (r * n + (r + 1 + k)) nan i, part_at s (n * n) n (r + 1 + k) nan h)

-- ---- a part whose every double is finite

-- ---- the answer

told_by : (ok : Bool) (y : List Float) (o : Option (List Float)) → o ≡ cond ok (some y) none → ok ≡ given o
told_by true y o e = rw e
told_by false y o e = rw e

held_by : (ok : Bool) (y : List Float) (o : Option (List Float)) → o ≡ cond ok (some y) none → (z : List Float) → o ≡ some z → y ≡ z
held_by true y o e z q = cc
held_by false y o e z q = cc

-- the whole: ok tells which of the two
pub dense : (s u : List Float) (n : ℕ) (ok : Bool) → solve_dense (part s 0 (n * n)) (part s (n * n) n) n ≡ cond ok (some (part u (n * n) n)) none → Kept s u 0 (n * n + n)
    → Dense s u n ok
dense s u n ok e k = record { told = told_by ok (part u (n * n) n) _ e; answer = held_by ok (part u (n * n) n) _ e; kept = k }

module _ (s : List Float) (n : ℕ) (scale : Float) (q : scale ≡ scale_of (part s 0 (n * n))) where
  pub no_system : eliminate_to (system_at s n) scale n n ≡ none → solve_dense (part s 0 (n * n)) (part s (n * n) n) n ≡ none
  unfolding solve_dense
  no_system e = rw (← q, e)

  pub answered : (t u : List Float) (ok : Bool) → eliminate_to (system_at s n) scale n n ≡ some (system_at t n) → system_at u n ≡ back_to (system_at t n) n n
      → ok ≡ all_finite (part u (n * n) n) → solve_dense (part s 0 (n * n)) (part s (n * n) n) n ≡ cond ok (some (part u (n * n) n)) none
  unfolding solve_dense answer_of
  answered t u ok e w f = rw (← q, e, ← w, ← f)

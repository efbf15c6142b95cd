-- A row of slopes times another, weighted, over the columns in which one of the rows is no zero: the other products are zeros, since slopes and weights are finite, and a sum from +0 may
-- go without them (`sum_listed`). Assumes nothing.
use mathlib.Core.Path.{◌≡◌, refl, sym, ap, subst, ◌∙◌}
use mathlib.Core.Bool.{Bool, true, false, not}
use mathlib.Core.List.{List}
use Prim.Native.Nat.{ℕ, ◌+◌, ◌*◌, ◌≤◌, ◌<◌}
use native.Mathlib.Omega.{arith}
use native.Mathlib.Nat.{zero-add, mul-le-mul_right}
use lib.ListN.{length, get_or, take}
use lib.Seq.{length-take-le, take_all}
use lib.Ieee.{Float, nan, binary64, mul, eq}
use lib.Ieee.Fits.{mul-fits}
use Rattle.numbers.specs.Double.{zero64, is_finite}
use Rattle.numbers.specs.Ops.{doubles}
use Rattle.numbers.specs.Zeros.{IsZero, sum_over}
use Rattle.numbers.proofs.ZeroLaws.{sum_listed, mul_nothing, mul_second_nothing}
use Rattle.numbers.proofs.ListedLaws.{listed_same, below_end}
use Rattle.least_squares.specs.Filled.{Filled, FiniteAt}
use Rattle.least_squares.specs.Lm.{gram_at}
use Rattle.least_squares.specs.Memory.{Kept}
use Rattle.least_squares.proofs.MemoryLaws.{kept_at_below, kept_at_above}

-- each column of the list is one of the row's
pub column_below : (s : List Float) (o n : ℕ) (list : List ℕ) (j : ℕ) → Filled s o 1 n list (length list) → j < length list → get_or list j 0 < n
column_below s o n list j r h = below_end (λ (c : ℕ). not (eq (get_or s (c * 1 + o) nan) zero64)) n list (length list) j (omega arith) r.holds h

-- the columns alone, taken from the front of the list
pub columns_front : (s : List Float) (o n : ℕ) (list : List ℕ) (m : ℕ) → n ≤ length list → Filled s o 1 n list m → Filled s o 1 n (take m list) (length (take m list))
columns_front s o n list m h r =
    let e : length (take m list) ≡ m = length-take-le m list (let z = r.few in omega arith) in
    rw e (record { few = r.few; holds = rw (take_all m (take m list) (omega arith)) r.holds })

-- in memory that keeps the row the columns are the same
pub columns_in : (s t : List Float) (o n : ℕ) (list : List ℕ) (m : ℕ) → ((c : ℕ) → c < n → get_or t (o + c) nan ≡ get_or s (o + c) nan) → Filled s o 1 n list m → Filled t o 1 n list m
columns_in s t o n list m e r =
    record {
      few = r.few;
      holds = r.holds ∙ listed_same (λ (c : ℕ). not (eq (get_or s (c * 1 + o) nan) zero64)) (λ (c : ℕ). not (eq (get_or t (c * 1 + o) nan) zero64)) n
          (λ c h. let z : c * 1 + o ≡ o + c = omega arith in ap (λ (x : Float). not (eq x zero64)) (ap (λ (q : ℕ). get_or s q nan) z ∙ sym (ap (λ (q : ℕ). get_or t q nan) z ∙ e c h)));
    }

-- ---- a row times another over the columns

-- the products of the doubles from k, i and w on
abbrev pub weighted_term : List Float → ℕ → ℕ → ℕ → ℕ → Float
weighted_term s k i w c = mul binary64 (mul binary64 (get_or s (k + c) nan) (get_or s (i + c) nan)) (get_or s (w + c) nan)

not-false : (b : Bool) → not b ≡ false → b ≡ true
not-false true e = refl
not-false false e = sym e

pub gram_columns : (s : List Float) (k i w n : ℕ) (list : List ℕ) (m : ℕ) → FiniteAt s k n → FiniteAt s w n → Filled s i 1 n list m → sum_over doubles zero64 (weighted_term s k i w) (take m list) ≡ gram_at s k i w n
unfolding gram_at
gram_columns s k i w n list m a b r =
    ap (sum_over doubles zero64 (weighted_term s k i w)) r.holds
    ∙ sum_listed (weighted_term s k i w) (λ c. mul-fits binary64 (mul binary64 (get_or s (k + c) nan) (get_or s (i + c) nan)) (get_or s (w + c) nan))
    (λ (c : ℕ). not (eq (get_or s (c * 1 + i) nan) zero64)) n
    (λ c h e. mul_nothing binary64 (mul binary64 (get_or s (k + c) nan) (get_or s (i + c) nan)) (get_or s (w + c) nan) (mul_second_nothing binary64 (get_or s (k + c) nan) (get_or s (i + c) nan) (a c h) (zero_at c e)) (b c h))
  where
    zero_at : (c : ℕ) → not (eq (get_or s (c * 1 + i) nan) zero64) ≡ false → IsZero (get_or s (i + c) nan)
    zero_at c e = let z : c * 1 + i ≡ i + c = omega arith in ap (λ (q : ℕ). eq (get_or s q nan) zero64) (sym z) ∙ not-false (eq (get_or s (c * 1 + i) nan) zero64) e

-- ---- finite doubles in memory that keeps them

pub finite_row : (o s : List Float) (n i k lo hi : ℕ) → k ≤ i → i * n + n ≤ lo → Kept o s lo hi → FiniteAt o 0 (i * n + n) → FiniteAt s (k * n) n
finite_row o s n i k lo hi l m r a c h =
    let f = mul-le-mul_right n l in
    subst (λ (x : Float). is_finite x ≡ true) (ap (λ (q : ℕ). get_or o q nan) (zero-add (k * n + c)) ∙ sym (kept_at_below o s lo hi (k * n + c) nan (omega arith) r)) (a (k * n + c) (omega arith))

pub finite_front : (o s : List Float) (k m lo hi : ℕ) → k ≤ m → m ≤ lo → Kept o s lo hi → FiniteAt o 0 m → FiniteAt s 0 k
finite_front o s k m lo hi l f r a c h = subst (λ (x : Float). is_finite x ≡ true) (sym (kept_at_below o s lo hi (0 + c) nan (omega arith) r)) (a c (omega arith))

pub finite_above : (o s : List Float) (w n lo hi : ℕ) → hi ≤ w → Kept o s lo hi → FiniteAt o w n → FiniteAt s w n
finite_above o s w n lo hi l r a c h = subst (λ (x : Float). is_finite x ≡ true) (sym (kept_at_above o s lo hi (w + c) nan (omega arith) r)) (a c h)

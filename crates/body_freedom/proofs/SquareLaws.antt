-- JᵀJ of slopes over the rows in which a column is no zero. What is left out of a sum from +0 are products of a zero and a finite factor, so zeros (`over_listed`). A sum from -0 is that from +0,
-- but -0 where all terms are, and then the sum from +0 is a zero (`tied`). Slopes are finite. Assumes nothing.
use mathlib.Core.Path.{◌≡◌, refl, sym, ap, subst, ◌∙◌}
use mathlib.Core.Logic.{inl, inr}
use mathlib.Core.Bool.{Bool, true, false, not, ◌&&◌, false≢true}
use mathlib.Core.List.{List}
use Prim.Native.Nat.{ℕ, zero, suc, ◌+◌, ◌*◌, ◌≤◌, ◌<◌}
use native.Mathlib.Omega.{arith}
use native.Mathlib.Numerals.{add-one}
use native.Mathlib.Nat.{not-suc-le-zero, le_of_suc-le-suc, eq-or-lt_of_le, zero-add, mul-le-mul_right, suc-mul}
use lib.ListN.{length, get_or, take}
use lib.Dec.{T}
use lib.Ieee.{Float, nan, binary64, mul, neg, eq, fits, of_bits}
use lib.Ieee.Fits.{mul-fits}
use borrow.Author.Tests.{not-false}
use Rattle.numbers.specs.Double.{zero64, is_finite}
use Rattle.numbers.specs.Ops.{doubles}
use Rattle.numbers.specs.Sum.{sum_from}
use Rattle.numbers.specs.Zeros.{sum_over, is_minus, all_minus}
use Rattle.numbers.proofs.ZeroLaws.{Tied, mul_nothing, sum_listed, sums_tied}
use Rattle.numbers.proofs.ListedLaws.{listed_same, below_end}
use Rattle.least_squares.specs.Filled.{Filled, FiniteAt}
use Rattle.least_squares.specs.Lm.{jacobian, all_finite}
use Rattle.least_squares.specs.Memory.{part, Kept}
use Rattle.least_squares.proofs.FiniteLaws.{jacobian_finite, finite_part}
use Rattle.least_squares.proofs.MemoryLaws.{part_at, kept_at_below}
use Rattle.least_squares.proofs.TableLaws.{sum_same, in_rows}
use Rattle.body_freedom.specs.Dof.{columns_times}
use Rattle.body_freedom.specs.Square.{products_in}

-- ---- the list of rows

-- the rows of the list stand within the slopes
pub rows_within : (s : List Float) (rows n i : ℕ) (list : List ℕ) (count size : ℕ) → count ≤ length list → rows * n ≤ size → Filled s i n rows list count
    → (j : ℕ) → j < count → get_or list j 0 * n + n ≤ size
rows_within s rows n i list count size h f r j l =
    let b = below_end (λ (q : ℕ). not (eq (get_or s (q * n + i) nan) zero64)) rows list count j h r.holds l in
    let v = mul-le-mul_right n b in
    let w = suc-mul (get_or list j 0) n in
    omega arith

-- ---- whether all terms are -0

and-false : (a : Bool) → (a && false) ≡ false
and-false true = refl
and-false false = refl

pub all_minus_more : (f : ℕ → Float) (n : ℕ) → all_minus f n ≡ true → is_minus (f n) ≡ true → all_minus f (n + 1) ≡ true
unfolding all_minus
all_minus_more f n e g = ap (all_minus f) (add-one n) ∙ (λ j. e j && g j)

-- a term that is not
pub all_minus_not : (f : ℕ → Float) (n r : ℕ) → r < n → is_minus (f r) ≡ false → all_minus f n ≡ false
unfolding all_minus
all_minus_not f zero r h e = absurd (not-suc-le-zero h)
all_minus_not f (suc n) r h e =
    elim (eq-or-lt_of_le (le_of_suc-le-suc h)) [
      | inl q ↦ ap (λ (b : Bool). all_minus f n && b) (ap (λ (w : ℕ). is_minus (f w)) (sym q) ∙ e) ∙ and-false (all_minus f n)
      | inr l ↦ ap (λ (b : Bool). b && is_minus (f n)) (all_minus_not f n r l e)
    ]

-- ---- an entry

part_entry : (s : List Float) (rows n r c : ℕ) → r < rows → c < n → get_or (part s 0 (rows * n)) (r * n + c) nan ≡ get_or s (r * n + c) nan
part_entry s rows n r c l m = part_at s 0 (rows * n) (r * n + c) nan (in_rows r c n rows l m) ∙ ap (λ (w : ℕ). get_or s w nan) (zero-add (r * n + c))

module _ (s : List Float) (rows n i k : ℕ) (list : List ℕ) (count : ℕ) (t : Float) (k-in : k < n) (finite : FiniteAt s 0 (rows * n)) (r : Filled s i n rows list count)
    (t-is : t ≡ sum_over doubles zero64 (products_in s n i k) (take count list)) where
  products_fit : (q : ℕ) → T (fits binary64 (products_in s n i k q))
  products_fit q = mul-fits binary64 _ _

  finite_entry : (q : ℕ) → q < rows → is_finite (get_or s (q * n + k) nan) ≡ true
  finite_entry q l = ap (λ (w : ℕ). is_finite (get_or s w nan)) (sym (zero-add (q * n + k))) ∙ finite (q * n + k) (in_rows q k n rows l k-in)

  -- the rows left out have a zero in column i
  over_listed : t ≡ sum_from doubles zero64 (products_in s n i k) rows
  over_listed =
      t-is ∙ ap (sum_over doubles zero64 (products_in s n i k)) r.holds
      ∙ sum_listed (products_in s n i k) products_fit (λ q. not (eq (get_or s (q * n + i) nan) zero64)) rows (λ q l e. mul_nothing binary64 _ _ (not-false _ e) (finite_entry q l))

  tied : (b : Bool) → all_minus (products_in s n i k) rows ≡ b → Tied b (columns_times s rows n i k) (sum_from doubles zero64 (products_in s n i k) rows)
  unfolding columns_times
  tied b e = subst (λ (a : Bool). Tied a (sum_from doubles (neg zero64) (products_in s n i k) rows) (sum_from doubles zero64 (products_in s n i k) rows)) e (sums_tied (products_in s n i k) products_fit rows)

  pub times_minus : all_minus (products_in s n i k) rows ≡ true → neg zero64 ≡ columns_times s rows n i k
  times_minus e = sym (tied true e).0

  pub times_plus : all_minus (products_in s n i k) rows ≡ false → t ≡ columns_times s rows n i k
  times_plus e = over_listed ∙ sym (tied false e)

  zero_is : eq zero64 zero64 ≡ true
  unfolding eq of_bits
  zero_is = refl

  -- where all products are -0, the sum from +0 is a zero
  pub times_filled : eq t zero64 ≡ false → t ≡ columns_times s rows n i k
  times_filled e = go (all_minus (products_in s n i k) rows) refl
    where
      go : (b : Bool) → all_minus (products_in s n i k) rows ≡ b → t ≡ columns_times s rows n i k
      go false q = times_plus q
      go true q = absurd (false≢true (sym e ∙ ap (λ (x : Float). eq x zero64) (over_listed ∙ (tied true q).1) ∙ zero_is))

-- the slopes are all that counts
pub times_part : (s : List Float) (rows n i k : ℕ) → i < n → k < n → columns_times s rows n i k ≡ columns_times (part s 0 (rows * n)) rows n i k
unfolding columns_times
times_part s rows n i k h l =
    sum_same (neg zero64) (products_in s n i k) (products_in (part s 0 (rows * n)) n i k) rows (λ r m. λ z. mul binary64 (at r i m h z) (at r k m l z))
  where
    at : (r c : ℕ) → r < rows → c < n → get_or s (r * n + c) nan ≡ get_or (part s 0 (rows * n)) (r * n + c) nan
    at r c m w = sym (part_entry s rows n r c m w)

-- the list and the finite slopes are those of a scratch that changes behind the slopes
module _ (s t : List Float) (rows n lo hi : ℕ) (h : rows * n ≤ lo) (kept : Kept s t lo hi) where
  same_entry : (r c : ℕ) → r < rows → c < n → get_or t (r * n + c) nan ≡ get_or s (r * n + c) nan
  same_entry r c l m = let w = in_rows r c n rows l m in kept_at_below s t lo hi (r * n + c) nan (omega arith) kept

  pub rows_kept : (i : ℕ) (list : List ℕ) (count : ℕ) → i < n → Filled s i n rows list count → Filled t i n rows list count
  rows_kept i list count m r =
      record { few = r.few; holds = r.holds ∙ listed_same _ _ rows (λ q l. ap (λ (x : Float). not (eq x zero64)) (sym (same_entry q i l m))) }

-- ---- slopes are finite

pub slopes_finite : (f : List Float → List Float) (x s : List Float) (rows n : ℕ) → rows * n ≤ length s → part s 0 (rows * n) ≡ jacobian f x rows → FiniteAt s 0 (rows * n)
slopes_finite f x s rows n l h = finite_part s 0 (rows * n) (omega arith) (ap all_finite h ∙ jacobian_finite f x rows)

-- What `by_number` gives. What is so of every case is so of the one given. Where the cases stand in the order of their numbers, it has the number asked for, and beyond the
-- last number it is the last. Assumes nothing.
use mathlib.Core.Path.{◌≡◌, refl, sym}
use mathlib.Core.Bool.{Bool, true, false, cond}
use mathlib.Core.List.{List, [], ◌∷◌}
use Prim.Native.Nat.{ℕ, suc, ◌≤◌}
use native.Mathlib.Omega.{arith}
use lib.Dec.{eqb}
use borrow.Author.Tests.{eqb-true, eqb-false, ne_eqb}
use Rattle.records.specs.Numbers.{by_number}

one_of : {A : Type 0} (P : A → Type 0) (t : Bool) (a b : A) → (t ≡ true → P a) → (t ≡ false → P b) → P (cond t a b)
one_of P true a b h k = h refl
one_of P false a b h k = k refl

module _ {A : Type 0} (number : A → ℕ) (n : ℕ) where
  -- P of each case whose number is n, and of the last in any case
  abbrev pub EachCase : (A → Type 0) → List A → A → Type 0
  EachCase P [] last = P last
  EachCase P (a ∷ rest) last = (n ≡ number a → P a) × EachCase P rest last

  pub each_case : (P : A → Type 0) (cases : List A) (last : A) → EachCase P cases last → P (by_number number n cases last)
  unfolding by_number
  each_case P [] last e = e
  each_case P (a ∷ rest) last e = one_of P (eqb n (number a)) a _ (λ q. e.0 (eqb-true n (number a) q)) (λ q. each_case P rest last e.1)

module _ {A : Type 0} (number : A → ℕ) where
  -- the numbers of the cases are k, k + 1, ..
  abbrev pub InOrder : ℕ → List A → A → Type 0
  InOrder k [] last = number last ≡ k
  InOrder k (a ∷ rest) last = (number a ≡ k) × InOrder (suc k) rest last

  up_to_last : (k : ℕ) (cases : List A) (last : A) → InOrder k cases last → k ≤ number last
  up_to_last k [] last o = omega arith
  up_to_last k (a ∷ rest) last o = omega (arith, up_to_last (suc k) rest last o.1)

  -- P of each case whose number is n, the last one too
  abbrev pub CaseOf : (A → Type 0) → ℕ → List A → A → Type 0
  CaseOf P n [] last = n ≡ number last → P last
  CaseOf P n (a ∷ rest) last = (n ≡ number a → P a) × CaseOf P n rest last

  pub case_of : (P : A → Type 0) (n k : ℕ) (cases : List A) (last : A) → InOrder k cases last → k ≤ n → n ≤ number last → CaseOf P n cases last
      → P (by_number number n cases last)
  unfolding by_number
  case_of P n k [] last o h l e = e (omega arith)
  case_of P n k (a ∷ rest) last o h l e =
      one_of P (eqb n (number a)) a _ (λ q. e.0 (eqb-true n (number a) q))
      (λ q. case_of P n (suc k) rest last o.1 (omega (arith, eqb-false n (number a) q, o.0)) l e.1)

  pub number_back : (n k : ℕ) (cases : List A) (last : A) → InOrder k cases last → k ≤ n → n ≤ number last → number (by_number number n cases last) ≡ n
  unfolding by_number
  number_back n k [] last o h l = omega arith
  number_back n k (a ∷ rest) last o h l =
      one_of (λ (x : A). number x ≡ n) (eqb n (number a)) a _ (λ q. sym (eqb-true n (number a) q))
      (λ q. number_back n (suc k) rest last o.1 (omega (arith, eqb-false n (number a) q, o.0)) l)

  pub last_case : (n k : ℕ) (cases : List A) (last : A) → InOrder k cases last → number last ≤ n → by_number number n cases last ≡ last
  unfolding by_number
  last_case n k [] last o l = refl
  last_case n k (a ∷ rest) last o l =
      rw (ne_eqb n (number a) (λ q. omega (arith, o.0, up_to_last (suc k) rest last o.1))) (last_case n (suc k) rest last o.1 l)

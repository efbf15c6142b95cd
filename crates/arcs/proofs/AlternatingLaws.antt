-- Alternating sums of fractions, of any length and over any terms that are not below 0 and fall (`Falling`): an even count of terms lies below every longer sum, and with one term more
-- above it (`between`). Two terms more after an even count raise the sum and after an odd count lower it, since the second of them is at most the first. Before that the order of
-- fractions: `AtMostQ` in natural numbers, and chains, sums, differences and products. Assumes nothing.
use Prim.Native.Nat.{ℕ, zero, suc, ◌+◌, ◌-◌, ◌*◌, ◌%◌, ◌≤◌, ◌<◌}
use native.Mathlib.Nat.{mul-pos, mul-le-mul_right, le_of_mul-le-mul_right}
use native.Mathlib.Numerals.{add-one}
use native.Mathlib.Omega.{arith}
use mathlib.Core.Path.{◌≡◌, refl, ap, subst}
use mathlib.Core.Bool.{Bool, true, false, cond, true≢false}
use lib.Dec.{eqb}
use lib.IntN.{ℤ, pos, negsuc}
use Rattle.numbers.specs.Frac.{Frac, add_q, neg_q, sub_q, mul_q, lt_q, below0}
use Rattle.numbers.specs.Parts.{plus_part, minus_part}
use Rattle.numbers.proofs.PartLaws.{plus_part_neg, minus_part_neg, plus_part_mul, minus_part_mul, add_parts}
use Rattle.numbers.proofs.CloseLaws.{ring}
use Rattle.arcs.specs.Pi.{whole, one_over, pow_q, alternating, AtMostQ}

-- ---- a fraction in natural numbers

-- x is (p - n) / x.den
pub record Is (x : Frac) (p n : ℕ) : Type 0 where
  pub value : plus_part x.num + n ≡ minus_part x.num + p

pub is_self : (x : Frac) → Is x (plus_part x.num) (minus_part x.num)
is_self x = record { value = omega arith }

pub is_neg : {x : Frac} {p n : ℕ} → Is x p n → Is (neg_q x) n p
unfolding neg_q
is_neg {x} h = record { value = omega (arith, h.value, plus_part_neg x.num, minus_part_neg x.num) }

pub is_add : {x y : Frac} {p n q m : ℕ} → Is x p n → Is y q m → Is (add_q x y) (p * y.den + q * x.den) (n * y.den + m * x.den)
unfolding add_q
is_add {x} {y} h k =
    let e = ap (λ (w : ℕ). w * y.den) h.value in
    let f = ap (λ (w : ℕ). w * x.den) k.value in
    record { value = omega (arith, (add_parts x.num y.num y.den x.den).0) }

pub is_sub : {x y : Frac} {p n q m : ℕ} → Is x p n → Is y q m → Is (sub_q x y) (p * y.den + m * x.den) (n * y.den + q * x.den)
unfolding sub_q
is_sub h k = is_add h (is_neg k)

pub is_mul : {x y : Frac} {p n q m : ℕ} → Is x p n → Is y q m → Is (mul_q x y) (p * q + n * m) (p * m + n * q)
unfolding mul_q
is_mul {x} {y} {p} {n} {q} {m} h k =
    let e = ap (λ (w : ℕ). w * q) h.value in
    let e' = ap (λ (w : ℕ). w * m) h.value in
    let f = ap (λ (w : ℕ). plus_part x.num * w) k.value in
    let f' = ap (λ (w : ℕ). minus_part x.num * w) k.value in
    record { value = omega (arith, plus_part_mul x.num y.num, minus_part_mul x.num y.num) }

-- ---- the order in natural numbers: both sides times both denominators

sign_of : (z : ℤ) (p n : ℕ) → plus_part z + n ≡ minus_part z + p → n ≤ p → below0 z ≡ false
sign_of (pos u) p n h l = refl
sign_of (negsuc u) p n h l = absurd (omega arith)

sign_says : (z : ℤ) (p n : ℕ) → plus_part z + n ≡ minus_part z + p → below0 z ≡ false → n ≤ p
sign_says (pos u) p n h l = omega arith
sign_says (negsuc u) p n h l = absurd (true≢false l)

pub at_most_of : {x y : Frac} {p n q m : ℕ} → Is x p n → Is y q m → p * y.den + m * x.den ≤ n * y.den + q * x.den → AtMostQ x y
unfolding lt_q
at_most_of {x} {y} h k l = sign_of (sub_q y x).num _ _ (is_sub k h).value (omega arith)

pub at_most_says : {x y : Frac} {p n q m : ℕ} → Is x p n → Is y q m → AtMostQ x y → p * y.den + m * x.den ≤ n * y.den + q * x.den
unfolding lt_q
at_most_says {x} {y} h k l = omega (arith, sign_says (sub_q y x).num _ _ (is_sub k h).value l)

-- a fraction that is not below 0 has no part to take away
pub is_plus : (x : Frac) → AtMostQ (whole 0) x → Is x (plus_part x.num) 0
is_plus x h = record { value = omega (arith, none x.num (omega (arith, at_most_says (is_self (whole 0)) (is_self x) h))) }
  where
    none : (z : ℤ) → minus_part z ≤ plus_part z → minus_part z ≡ 0
    none (pos u) l = refl
    none (negsuc u) l = absurd (omega arith)

-- ---- chains

pub at_most_refl : (x : Frac) → AtMostQ x x
at_most_refl x = at_most_of (is_self x) (is_self x) (omega arith)

pub at_most_trans : (x y z : Frac) → 0 < y.den → AtMostQ x y → AtMostQ y z → AtMostQ x z
at_most_trans x y z d h k =
    let l = mul-le-mul_right z.den (at_most_says (is_self x) (is_self y) h) in
    let r = mul-le-mul_right x.den (at_most_says (is_self y) (is_self z) k) in
    at_most_of (is_self x) (is_self z) (le_of_mul-le-mul_right (simp ring (omega (arith, simp ring at l, simp ring at r))) d)

-- ---- sums and differences

pub add_at_most : (x x' y y' : Frac) → AtMostQ x x' → AtMostQ y y' → AtMostQ (add_q x y) (add_q x' y')
unfolding add_q
add_at_most x x' y y' h k =
    let l = mul-le-mul_right (y.den * y'.den) (at_most_says (is_self x) (is_self x') h) in
    let r = mul-le-mul_right (x.den * x'.den) (at_most_says (is_self y) (is_self y') k) in
    at_most_of (is_add (is_self x) (is_self y)) (is_add (is_self x') (is_self y')) (simp ring (omega (arith, simp ring at l, simp ring at r)))

pub neg_at_most : (x y : Frac) → AtMostQ x y → AtMostQ (neg_q y) (neg_q x)
unfolding neg_q
neg_at_most x y h = at_most_of (is_neg (is_self y)) (is_neg (is_self x)) (omega (arith, at_most_says (is_self x) (is_self y) h))

pub sub_at_most : (x x' y y' : Frac) → AtMostQ x x' → AtMostQ y' y → AtMostQ (sub_q x y) (sub_q x' y')
unfolding sub_q
sub_at_most x x' y y' h k = add_at_most x x' (neg_q y) (neg_q y') h (neg_at_most y' y k)

-- a term goes to the other side
pub at_most_sub : (x y z : Frac) → AtMostQ (add_q x y) z → AtMostQ x (sub_q z y)
unfolding add_q sub_q
at_most_sub x y z h =
    let l = at_most_says (is_add (is_self x) (is_self y)) (is_self z) h in
    at_most_of (is_self x) (is_sub (is_self z) (is_self y)) (simp ring (omega (arith, simp ring at l)))

pub at_most_add : (x y z : Frac) → AtMostQ x (sub_q z y) → AtMostQ (add_q x y) z
unfolding add_q sub_q
at_most_add x y z h =
    let l = at_most_says (is_self x) (is_sub (is_self z) (is_self y)) h in
    at_most_of (is_add (is_self x) (is_self y)) (is_self z) (simp ring (omega (arith, simp ring at l)))

pub at_most_more : (x y : Frac) → AtMostQ (whole 0) y → AtMostQ x (add_q x y)
unfolding add_q
at_most_more x y h = at_most_of (is_self x) (is_add (is_self x) (is_plus y h)) (simp ring (omega arith))

-- ---- products

pub mul_not_below : (x y : Frac) → AtMostQ (whole 0) x → AtMostQ (whole 0) y → AtMostQ (whole 0) (mul_q x y)
mul_not_below x y h k = at_most_of (is_self (whole 0)) (is_mul (is_plus x h) (is_plus y k)) (omega arith)

pub mul_at_most_left : (c x y : Frac) → AtMostQ (whole 0) c → AtMostQ x y → AtMostQ (mul_q c x) (mul_q c y)
unfolding mul_q
mul_at_most_left c x y p h =
    let l = mul-le-mul_right (plus_part c.num * c.den) (at_most_says (is_self x) (is_self y) h) in
    at_most_of (is_mul (is_plus c p) (is_self x)) (is_mul (is_plus c p) (is_self y)) (simp ring (omega (arith, simp ring at l)))

pub mul_at_most_right : (c x y : Frac) → AtMostQ (whole 0) c → AtMostQ x y → AtMostQ (mul_q x c) (mul_q y c)
unfolding mul_q
mul_at_most_right c x y p h =
    let l = mul-le-mul_right (plus_part c.num * c.den) (at_most_says (is_self x) (is_self y) h) in
    at_most_of (is_mul (is_self x) (is_plus c p)) (is_mul (is_self y) (is_plus c p)) (simp ring (omega (arith, simp ring at l)))

-- a factor up to 1
pub mul_at_most_one : (x y : Frac) → AtMostQ x (whole 1) → AtMostQ (whole 0) y → AtMostQ (mul_q x y) y
unfolding mul_q
mul_at_most_one x y h k =
    let l = mul-le-mul_right (plus_part y.num * y.den) (at_most_says (is_self x) (is_self (whole 1)) h) in
    at_most_of (is_mul (is_self x) (is_plus y k)) (is_plus y k) (simp ring (omega (arith, simp ring at l)))

-- ---- whole numbers, one over them, and powers

pub whole_not_below : (n : ℕ) → AtMostQ (whole 0) (whole n)
whole_not_below n = at_most_of (is_self (whole 0)) (is_self (whole n)) (omega arith)

pub one_over_not_below : (n : ℕ) → AtMostQ (whole 0) (one_over n)
one_over_not_below n = at_most_of (is_self (whole 0)) (is_self (one_over n)) (omega arith)

pub one_over_at_most : (n m : ℕ) → n ≤ m → AtMostQ (one_over m) (one_over n)
one_over_at_most n m h = at_most_of (is_self (one_over m)) (is_self (one_over n)) (omega arith)

pub pow_pos : (v : Frac) → 0 < v.den → (n : ℕ) → 0 < (pow_q v n).den
unfolding pow_q
pow_pos v d zero = omega arith
pow_pos v d (suc n) = mul-pos d (pow_pos v d n)

pub pow_not_below : (v : Frac) → AtMostQ (whole 0) v → (n : ℕ) → AtMostQ (whole 0) (pow_q v n)
unfolding pow_q
pow_not_below v h zero = whole_not_below 1
pow_not_below v h (suc n) = mul_not_below v (pow_q v n) h (pow_not_below v h n)

-- a number from 0 to 1
pub record From0To1 (v : Frac) : Type 0 where
  pub den_pos : 0 < v.den
  pub not_below : AtMostQ (whole 0) v
  pub not_above : AtMostQ v (whole 1)

module _ (v : Frac) (r : From0To1 v) where
  pow-suc : (n : ℕ) → AtMostQ (pow_q v (suc n)) (pow_q v n)
  unfolding pow_q
  pow-suc n = mul_at_most_one v (pow_q v n) r.not_above (pow_not_below v r.not_below n)

  pow-add : (k n m : ℕ) → n + k ≡ m → AtMostQ (pow_q v m) (pow_q v n)
  pow-add zero n m q = let e : n ≡ m = omega arith in subst (λ (w : ℕ). AtMostQ (pow_q v w) (pow_q v n)) e (at_most_refl (pow_q v n))
  pow-add (suc k) n m q = at_most_trans (pow_q v m) (pow_q v (suc n)) (pow_q v n) (pow_pos v r.den_pos (suc n)) (pow-add k (suc n) m (omega arith)) (pow-suc n)

  pub pow_at_most : (n m : ℕ) → n ≤ m → AtMostQ (pow_q v m) (pow_q v n)
  pow_at_most n m h = pow-add (m - n) n m (omega arith)

-- ---- terms that are not below 0 and fall

pub record Falling (a : ℕ → Frac) : Type 0 where
  pub den_pos : (i : ℕ) → 0 < (a i).den
  pub not_below : (i : ℕ) → AtMostQ (whole 0) (a i)
  pub falls : (i : ℕ) → AtMostQ (a (suc i)) (a i)

-- products of two such
pub mul_falling : {a b : ℕ → Frac} → Falling a → Falling b → Falling (λ i. mul_q (a i) (b i))
unfolding mul_q
mul_falling {a} {b} f g =
    record {
      den_pos = λ i. mul-pos (f.den_pos i) (g.den_pos i);
      not_below = λ i. mul_not_below (a i) (b i) (f.not_below i) (g.not_below i);
      falls = λ i. at_most_trans (mul_q (a (suc i)) (b (suc i))) (mul_q (a i) (b (suc i))) (mul_q (a i) (b i)) (mul-pos (f.den_pos i) (g.den_pos (suc i)))
          (mul_at_most_right (b (suc i)) (a (suc i)) (a i) (g.not_below (suc i)) (f.falls i))
          (mul_at_most_left (a i) (b (suc i)) (b i) (f.not_below i) (g.falls i));
    }

-- powers of a number from 0 to 1, and one over whole numbers, as the exponents and the whole numbers rise
pub pow_falling : (v : Frac) → From0To1 v → (s : ℕ → ℕ) → ((i : ℕ) → s i ≤ s (suc i)) → Falling (λ i. pow_q v (s i))
pow_falling v r s h =
    record {
      den_pos = λ i. pow_pos v r.den_pos (s i);
      not_below = λ i. pow_not_below v r.not_below (s i);
      falls = λ i. pow_at_most v r (s i) (s (suc i)) (h i);
    }

pub one_over_falling : (s : ℕ → ℕ) → ((i : ℕ) → 0 < s i) → ((i : ℕ) → s i ≤ s (suc i)) → Falling (λ i. one_over (s i))
one_over_falling s p h = record { den_pos = p; not_below = λ i. one_over_not_below (s i); falls = λ i. one_over_at_most (s i) (s (suc i)) (h i) }

-- ---- alternating sums

pub alternating_pos : (a : ℕ → Frac) → ((i : ℕ) → 0 < (a i).den) → (n : ℕ) → 0 < (alternating a n).den
unfolding alternating
alternating_pos a h zero = omega arith
alternating_pos a h (suc n) = either (eqb (n % 2) 0) (mul-pos (alternating_pos a h n) (h n))
  where
    either : (t : Bool) → 0 < (alternating a n).den * (a n).den → 0 < (cond t (add_q (alternating a n) (a n)) (sub_q (alternating a n) (a n))).den
    either true l = l
    either false l = l

module _ (a : ℕ → Frac) where
  abbrev sum : ℕ → Frac
  sum = alternating a

  added : (n : ℕ) → n % 2 ≡ 0 → sum (suc n) ≡ add_q (sum n) (a n)
  unfolding alternating
  added n e = ap (λ (r : ℕ). cond (eqb r 0) (add_q (sum n) (a n)) (sub_q (sum n) (a n))) e

  taken : (n : ℕ) → n % 2 ≡ 1 → sum (suc n) ≡ sub_q (sum n) (a n)
  unfolding alternating
  taken n e = ap (λ (r : ℕ). cond (eqb r 0) (add_q (sum n) (a n)) (sub_q (sum n) (a n))) e

  module _ (f : Falling a) where
    -- one term more, and two, after an even count; two after an odd one
    one_up : (n : ℕ) → n % 2 ≡ 0 → AtMostQ (sum n) (sum (suc n))
    one_up n e = rw (added n e) (at_most_more (sum n) (a n) (f.not_below n))

    two_up : (n : ℕ) → n % 2 ≡ 0 → AtMostQ (sum n) (sum (suc (suc n)))
    two_up n e =
        rw (taken (suc n) (omega arith), added n e)
        (at_most_sub (sum n) (a (suc n)) (add_q (sum n) (a n)) (add_at_most (sum n) (sum n) (a (suc n)) (a n) (at_most_refl (sum n)) (f.falls n)))

    two_down : (n : ℕ) → n % 2 ≡ 1 → AtMostQ (sum (suc (suc n))) (sum n)
    two_down n e =
        rw (added (suc n) (omega arith), taken n e)
        (at_most_add (sub_q (sum n) (a n)) (a (suc n)) (sum n) (sub_at_most (sum n) (sum n) (a n) (a (suc n)) (at_most_refl (sum n)) (f.falls n)))

    -- k terms more after an even count n
    above : (k n m : ℕ) → n + k ≡ m → n % 2 ≡ 0 → AtMostQ (sum n) (sum m)
    above zero n m q e = let g : n ≡ m = omega arith in subst (λ (w : ℕ). AtMostQ (sum n) (sum w)) g (at_most_refl (sum n))
    above (suc zero) n m q e = let g : suc n ≡ m = omega arith in subst (λ (w : ℕ). AtMostQ (sum n) (sum w)) g (one_up n e)
    above (suc (suc k)) n m q e =
        let s = suc (suc n) in
        at_most_trans (sum n) (sum s) (sum m) (alternating_pos a f.den_pos s) (two_up n e) (above k s m (omega arith) (omega arith))

    below : (k n m : ℕ) → n + k ≡ m → n % 2 ≡ 0 → AtMostQ (sum m) (sum (suc n))
    below zero n m q e = let g : n ≡ m = omega arith in subst (λ (w : ℕ). AtMostQ (sum w) (sum (suc n))) g (one_up n e)
    below (suc zero) n m q e = let g : suc n ≡ m = omega arith in subst (λ (w : ℕ). AtMostQ (sum w) (sum (suc n))) g (at_most_refl (sum (suc n)))
    below (suc (suc k)) n m q e =
        let s = suc (suc n) in
        at_most_trans (sum m) (sum (suc s)) (sum (suc n)) (alternating_pos a f.den_pos (suc s)) (below k s m (omega arith) (omega arith)) (two_down (suc n) (omega arith))

    pub between : (i m : ℕ) → 2 * i ≤ m → AtMostQ (alternating a (2 * i)) (alternating a m) × AtMostQ (alternating a m) (alternating a (2 * i + 1))
    between i m h = (above (m - 2 * i) (2 * i) m (omega arith) (omega arith), rw add-one (below (m - 2 * i) (2 * i) m (omega arith) (omega arith)))

-- A sum of doubles keeps near the sum of the fractions, for any number of terms. Its bound is the sum read on `bounds`, which
-- the kernel evaluates (`sum_bounded`). For terms of one bound, from a zero of either sign, it is also written out in the
-- length (`sum_near`), and so for products of two doubles of given sizes (`products_near`). Assumes nothing.
use Prim.Native.Nat.{ℕ, zero, suc, ◌+◌, ◌*◌, ◌/◌, ◌^◌, ◌≤◌, ◌<◌}
use native.Mathlib.Nat.{le_trans, lt_of_le_of_lt, mul-le-mul_right}
use native.Mathlib.Omega.{arith}
use lib.Dec.{T}
use lib.Ieee.{Float, binary64, mul, neg, of_bits}
use Rattle.numbers.specs.Frac.{Frac, frac_of, mul_q}
use Rattle.numbers.specs.Double.{zero64}
use Rattle.numbers.specs.Ops.{doubles, fractions}
use Rattle.numbers.specs.Sum.{sum_from}
use Rattle.numbers.specs.Near.{Bound, Near, S, round_bound, add_bound, mul_bound, exactly, up_to}
use Rattle.numbers.proofs.NearLaws.{near_add, near_mul, near_self, near_weaken, rounds_by}
use Rattle.numbers.specs.Bound.{Small, bounds, product_bound}
use Rattle.numbers.proofs.BoundLaws.{Bounded}

-- ---- the bound by evaluation
pub sum_bounded : (s : Bounded) (f : ℕ → Bounded) (n : ℕ) → T (sum_from bounds s.bound (λ k. (f k).bound) n).ok
    → Near (sum_from doubles s.double (λ k. (f k).double) n) (sum_from fractions s.frac (λ k. (f k).frac) n) (sum_from bounds s.bound (λ k. (f k).bound) n)
unfolding sum_from
sum_bounded s f zero t = s.near t
sum_bounded s f (suc n) t = near_add _ _ _ _ (sum_from bounds s.bound (λ k. (f k).bound) n) (f n).bound (sum_bounded s f n) (f n).near t

-- ---- the zeros that sums start from
pub zero_small : Small 0 zero64
unfolding of_bits
zero_small = (tt, omega arith)

pub minus_zero_small : Small 0 (neg zero64)
unfolding neg of_bits
minus_zero_small = (tt, omega arith)

-- ---- n terms, each within the bound b of its fraction: each adds b and 2 ^ i units of rounding, where all n, with their errors, stay below 2 ^ (54 + i) units
module _ (b : Bound) (i : ℕ) (I : i ≤ 1000) (f : ℕ → Float) (F : ℕ → Frac) where
  -- from a start that holds k such terms already
  pub sum_on : (k n : ℕ) (s : Float) (Q : Frac) → (k + n) * (b.most + b.off + 2 ^ i) < 2 ^ (54 + i) → ((j : ℕ) → j < n → Near (f j) (F j) b)
      → Near s Q (up_to (k * b.most) (k * (b.off + 2 ^ i))) → Near (sum_from doubles s f n) (sum_from fractions Q F n) (up_to ((k + n) * b.most) ((k + n) * (b.off + 2 ^ i)))
  unfolding sum_from add_bound
  sum_on k zero s Q room h g = near_weaken s Q _ ((k + 0) * b.most) ((k + 0) * (b.off + 2 ^ i)) (omega arith) (omega arith) g
  sum_on k (suc n) s Q room h g =
      let r = rounds_by ((k + n) * b.most + b.most) ((k + n) * (b.off + 2 ^ i) + b.off) i I (fits k n b.most b.off (2 ^ i) (2 ^ (54 + i)) room) in
      let before = sum_on k n s Q (fewer k n (b.most + b.off + 2 ^ i) (2 ^ (54 + i)) room) (λ j l. h j (omega arith)) g in
      let term = near_weaken (f n) (F n) b b.most b.off (omega arith) (omega arith) (h n (omega arith)) in
      near_weaken _ _ _ ((k + suc n) * b.most) ((k + suc n) * (b.off + 2 ^ i)) (omega arith) (le_trans r.1 (last k n b.off (2 ^ i)))
      (near_add _ (f n) _ (F n) (up_to ((k + n) * b.most) ((k + n) * (b.off + 2 ^ i))) (up_to b.most b.off) (λ t. before) (λ t. term) r.0)
    where
      fits : (k n M E P B : ℕ) → (k + suc n) * (M + E + P) < B → (k + n) * M + M + ((k + n) * (E + P) + E) < B
      fits k n M E P B h = omega arith

      fewer : (k n W B : ℕ) → (k + suc n) * W < B → (k + n) * W < B
      fewer k n W B h = omega arith

      last : (k n E P : ℕ) → (k + n) * (E + P) + E + P ≤ (k + suc n) * (E + P)
      last k n E P = omega arith

  pub sum_near : (n : ℕ) (s : Float) → Small 0 s → n * (b.most + b.off + 2 ^ i) < 2 ^ (54 + i) → ((j : ℕ) → j < n → Near (f j) (F j) b)
      → Near (sum_from doubles s f n) (sum_from fractions (frac_of s) F n) (up_to (n * b.most) (n * (b.off + 2 ^ i)))
  sum_near n s z room h =
      near_weaken _ _ _ (n * b.most) (n * (b.off + 2 ^ i)) (omega arith) (omega arith)
      (sum_on 0 n s (frac_of s) (omega arith) h (near_weaken s (frac_of s) (exactly 0) _ _ (omega arith) (omega arith) (near_self s 0 z.0 z.1)))

-- ---- n products of two doubles of at most A / S and B / S
pub product_near : (A B i : ℕ) → i ≤ 1000 → (x y : Float) → Small A x → Small B y → (product_bound A B).most + (product_bound A B).off + 2 ^ i < 2 ^ (54 + i)
    → Near (mul binary64 x y) (mul_q (frac_of x) (frac_of y)) (product_bound A B)
unfolding mul_bound round_bound
product_near A B i I x y h k room =
    let m = A * B / S + 1 in
    let e = (0 * B + 0 * A + 0 * 0) / S + 1 in
    let r = rounds_by m e i I (below m e _ (2 ^ i) (2 ^ (54 + i)) room) in
    near_mul x y _ _ (exactly A) (exactly B) (λ t. near_self x A h.0 h.1) (λ t. near_self y B k.0 k.1) r.0
  where
    below : (m e x P B : ℕ) → m + (e + x) + P < B → m + e < B
    below m e x P B h = omega arith

-- one term has room where n have
pub one_fits : (j n W B : ℕ) → j < n → n * W < B → W < B
one_fits j n W B l h = lt_of_le_of_lt (let m = mul-le-mul_right W l in omega arith) h

pub products_near : (A B i : ℕ) → i ≤ 1000 → (f g : ℕ → Float) (n : ℕ) (s : Float) → Small 0 s → n * ((product_bound A B).most + (product_bound A B).off + 2 ^ i) < 2 ^ (54 + i)
    → ((j : ℕ) → j < n → Small A (f j)) → ((j : ℕ) → j < n → Small B (g j))
    → Near (sum_from doubles s (λ j. mul binary64 (f j) (g j)) n) (sum_from fractions (frac_of s) (λ j. mul_q (frac_of (f j)) (frac_of (g j))) n)
    (up_to (n * (product_bound A B).most) (n * ((product_bound A B).off + 2 ^ i)))
products_near A B i I f g n s z room h k =
    sum_near (product_bound A B) i I (λ j. mul binary64 (f j) (g j)) (λ j. mul_q (frac_of (f j)) (frac_of (g j))) n s z room
    (λ j l. product_near A B i I (f j) (g j) (h j l) (k j l) (one_fits j n _ (2 ^ (54 + i)) l room))

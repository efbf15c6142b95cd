-- The sums of lm.rs keep near the sums of the fractions, for any length: the sum of squares (`norm2_near`), an entry of the matrix (`gram_near`), an unknown after the step
-- (`stepped_near`). By the laws of sums in numbers/proofs/SumNear.antt. Bounds count units of 1 / S, which is 2 ^ -80; a term's bound is that of its products, which the kernel evaluates for given sizes. Assumes nothing.
use mathlib.Core.Path.{◌≡◌}
use mathlib.Core.List.{List}
use Prim.Native.Nat.{ℕ, ◌+◌, ◌*◌, ◌^◌, ◌≤◌, ◌<◌}
use native.Mathlib.Omega.{arith}
use lib.Dec.{T}
use lib.ListN.{length, get_or}
use lib.Ieee.{Float, nan, binary64, mul, neg}
use Rattle.numbers.specs.Frac.{Frac, frac_of, sub_q, mul_q}
use Rattle.numbers.specs.Double.{zero64}
use Rattle.numbers.specs.Ops.{fractions}
use Rattle.numbers.specs.Sum.{sum_from}
use Rattle.numbers.specs.Near.{Bound, Near, add_bound, mul_bound, exactly, up_to}
use Rattle.numbers.proofs.NearLaws.{near_sub, near_mul, near_self}
use Rattle.numbers.specs.Bound.{Small, AllSmall, product_bound}
use Rattle.numbers.proofs.BoundLaws.{small_at}
use Rattle.numbers.proofs.SumNear.{sum_near, products_near, zero_small, minus_zero_small}
use Rattle.least_squares.specs.Lm.{norm2, gram, stepped_at}
use Rattle.least_squares.proofs.TableLaws.{in_rows}

self : (m : ℕ) (x : Float) → Small m x → T (exactly m).ok → Near x (frac_of x) (exactly m)
self m x h t = near_self x m h.0 h.1

-- ---- the squares of a list, each entry at most m / S

-- `norm2` on fractions
abbrev pub norm2_q : List Float → Frac
norm2_q v = sum_from fractions (frac_of (neg zero64)) (λ i. mul_q (frac_of (get_or v i nan)) (frac_of (get_or v i nan))) (length v)

pub norm2_near : (m i : ℕ) → i ≤ 1000 → (v : List Float) → AllSmall m v → length v * ((product_bound m m).most + (product_bound m m).off + 2 ^ i) < 2 ^ (54 + i)
    → Near (norm2 v) (norm2_q v) (up_to (length v * (product_bound m m).most) (length v * ((product_bound m m).off + 2 ^ i)))
unfolding norm2
norm2_near m i I v a room =
    products_near m m i I (λ j. get_or v j nan) (λ j. get_or v j nan) (length v) (neg zero64) minus_zero_small room (λ j l. small_at m v j nan a l) (λ j l. small_at m v j nan a l)

-- ---- an entry of the matrix, each slope at most m / S and each inverse weight at most w / S

-- `gram` on fractions
abbrev pub gram_q : List Float → List Float → ℕ → ℕ → ℕ → Frac
gram_q jac winv n i k = sum_from fractions (frac_of zero64) (λ c. mul_q (mul_q (frac_of (get_or jac (i * n + c) nan)) (frac_of (get_or jac (k * n + c) nan))) (frac_of (get_or winv c nan))) n

-- the bound of two slopes times an inverse weight
abbrev pub weighted_bound : ℕ → ℕ → Bound
weighted_bound m w = mul_bound (product_bound m m) (exactly w)

pub gram_near : (m w e : ℕ) → e ≤ 1000 → (jac winv : List Float) (rows n i k : ℕ) → length jac ≡ rows * n → length winv ≡ n → i < rows → k < rows → AllSmall m jac → AllSmall w winv
    → T (weighted_bound m w).ok → n * ((weighted_bound m w).most + (weighted_bound m w).off + 2 ^ e) < 2 ^ (54 + e)
    → Near (gram jac winv n i k) (gram_q jac winv n i k) (up_to (n * (weighted_bound m w).most) (n * ((weighted_bound m w).off + 2 ^ e)))
unfolding gram
gram_near m w e E jac winv rows n i k hj hw hi hk a b ok room =
    sum_near (weighted_bound m w) e E (λ c. mul binary64 (mul binary64 (get_or jac (i * n + c) nan) (get_or jac (k * n + c) nan)) (get_or winv c nan))
    (λ c. mul_q (mul_q (frac_of (get_or jac (i * n + c) nan)) (frac_of (get_or jac (k * n + c) nan))) (frac_of (get_or winv c nan))) n zero64 zero_small room
    (λ c l. near_mul _ _ _ _ (product_bound m m) (exactly w) (near_mul _ _ _ _ (exactly m) (exactly m) (slope i hi c l) (slope k hk c l)) (self w (get_or winv c nan) (small_at w winv c nan b (omega arith))) ok)
  where
    slope : (i : ℕ) → i < rows → (c : ℕ) → c < n → T (exactly m).ok → Near (get_or jac (i * n + c) nan) (frac_of (get_or jac (i * n + c) nan)) (exactly m)
    slope i h c l = self m (get_or jac (i * n + c) nan) (small_at m jac (i * n + c) nan a (let g = in_rows i c n rows h l in omega arith))

-- ---- an unknown after the step: unknowns at most a / S, inverse weights w / S, slopes m / S and the answer's numbers b / S

-- `stepped_at` on fractions
abbrev pub stepped_q : List Float → List Float → List Float → List Float → ℕ → ℕ → Frac
stepped_q x jac winv y rows c =
    sub_q (frac_of (get_or x c nan)) (mul_q (frac_of (get_or winv c nan)) (sum_from fractions (frac_of zero64) (λ i. mul_q (frac_of (get_or jac (i * length x + c) nan)) (frac_of (get_or y i nan))) rows))

abbrev pub stepped_bound : ℕ → ℕ → ℕ → ℕ → ℕ → ℕ → Bound
stepped_bound a w m b rows e = add_bound (exactly a) (mul_bound (exactly w) (up_to (rows * (product_bound m b).most) (rows * ((product_bound m b).off + 2 ^ e))))

pub stepped_near : (a w m b e : ℕ) → e ≤ 1000 → (x jac winv y : List Float) (rows c : ℕ) → length jac ≡ rows * length x → length winv ≡ length x → length y ≡ rows → c < length x
    → AllSmall a x → AllSmall m jac → AllSmall w winv → AllSmall b y → rows * ((product_bound m b).most + (product_bound m b).off + 2 ^ e) < 2 ^ (54 + e) → T (stepped_bound a w m b rows e).ok
    → Near (stepped_at x jac winv y rows c) (stepped_q x jac winv y rows c) (stepped_bound a w m b rows e)
unfolding stepped_at
stepped_near a w m b e E x jac winv y rows c hj hw hy hc ax am aw ab room ok =
    near_sub _ _ _ _ (exactly a) (mul_bound (exactly w) (up_to (rows * (product_bound m b).most) (rows * ((product_bound m b).off + 2 ^ e)))) (self a (get_or x c nan) (small_at a x c nan ax hc))
    (near_mul _ _ _ _ (exactly w) (up_to (rows * (product_bound m b).most) (rows * ((product_bound m b).off + 2 ^ e))) (self w (get_or winv c nan) (small_at w winv c nan aw (omega arith)))
    (λ t. products_near m b e E (λ i. get_or jac (i * length x + c) nan) (λ i. get_or y i nan) rows zero64 zero_small room (λ i l. small_at m jac (i * length x + c) nan am (let g = in_rows i c (length x) rows l hc in omega arith)) (λ i l. small_at b y i nan ab (omega arith))))
    ok

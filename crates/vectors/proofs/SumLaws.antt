-- An entry of a product of two matrices (`cell`) is a sum of three products from -0, as Rust's `sum()` forms it (`cell_is_sum`), and keeps near the same sum of the fractions
-- (`cell_near`). By the laws of sums in numbers/proofs/SumNear.antt. Assumes nothing.
use mathlib.Core.Path.{◌≡◌, refl}
use Prim.Native.Nat.{ℕ, zero, suc, ◌+◌, ◌*◌, ◌^◌, ◌≤◌, ◌<◌}
use lib.Ieee.{Float, binary64, mul, neg}
use Rattle.numbers.specs.Frac.{frac_of, mul_q}
use Rattle.numbers.specs.Double.{zero64}
use Rattle.numbers.specs.Ops.{doubles, fractions}
use Rattle.numbers.specs.Sum.{sum_from}
use Rattle.numbers.specs.Near.{Near, up_to}
use Rattle.numbers.specs.Bound.{Small, product_bound}
use Rattle.numbers.proofs.SumNear.{products_near, minus_zero_small}
use Rattle.vectors.specs.Vec.{Vec}
use Rattle.vectors.specs.Math.{cell}

-- x, y, z by number
abbrev pub entry : {C : Type 0} → Vec C → ℕ → C
entry v zero = v.x
entry v (suc zero) = v.y
entry v (suc (suc k)) = v.z

pub cell_is_sum : (r c : Vec Float) → cell r c ≡ sum_from doubles (neg zero64) (λ k. mul binary64 (entry r k) (entry c k)) 3
unfolding sum_from
cell_is_sum r c = refl

-- entries of at most a / S and b / S
pub cell_near : (a b i : ℕ) → i ≤ 1000 → (r c : Vec Float) → ((k : ℕ) → k < 3 → Small a (entry r k)) → ((k : ℕ) → k < 3 → Small b (entry c k))
    → 3 * ((product_bound a b).most + (product_bound a b).off + 2 ^ i) < 2 ^ (54 + i)
    → Near (cell r c) (sum_from fractions (frac_of (neg zero64)) (λ k. mul_q (frac_of (entry r k)) (frac_of (entry c k))) 3) (up_to (3 * (product_bound a b).most) (3 * ((product_bound a b).off + 2 ^ i)))
cell_near a b i I r c h k room = rw (cell_is_sum r c) (products_near a b i I (entry r) (entry c) 3 (neg zero64) minus_zero_small room h k)

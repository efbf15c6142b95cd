-- The parts of an opposite, of a sum and of a product of whole numbers. Assumes nothing.
use mathlib.Core.Path.{◌≡◌, refl, ◌∙◌}
use Prim.Native.Nat.{ℕ, zero, suc, ◌+◌, ◌-◌, ◌*◌, ◌≤◌, ◌<◌}
use native.Mathlib.Omega.{arith}
use mathlib.Core.Bool.{Bool, true, false, not, cond}
use lib.Dec.{T, ltb, ltb→lt, nltb→le}
use lib.IntN.{ℤ, pos, negsuc, neg_ℤ, sub_ℕ, ◌+ℤ◌, ◌*ℤ◌}
use Rattle.numbers.specs.Parts.{plus_part, minus_part}

pub plus_part_neg : (z : ℤ) → plus_part (neg_ℤ z) ≡ minus_part z
plus_part_neg (pos zero) = refl
plus_part_neg (pos (suc n)) = refl
plus_part_neg (negsuc n) = refl

pub minus_part_neg : (z : ℤ) → minus_part (neg_ℤ z) ≡ plus_part z
minus_part_neg (pos zero) = refl
minus_part_neg (pos (suc n)) = refl
minus_part_neg (negsuc n) = refl

-- z is a - b, and its size is at most a + b
abbrev Differs : ℤ → ℕ → ℕ → Type 0
Differs z a b = (plus_part z + b ≡ minus_part z + a) × (plus_part z + minus_part z ≤ a + b)

sub_differs : (a b : ℕ) → Differs (sub_ℕ a b) a b
sub_differs a b = go (ltb a b) (ltb→lt a b) (nltb→le a b)
  where
    go : (t : Bool) → (T t → a < b) → (T (not t) → b ≤ a) → Differs (cond t (negsuc (b - suc a)) (pos (a - b))) a b
    go true h k = let l = h tt in omega arith
    go false h k = let l = k tt in omega arith

pub add_differs : (x y : ℤ) → Differs (x +ℤ y) (plus_part x + plus_part y) (minus_part x + minus_part y)
add_differs (pos a) (pos b) = omega arith
add_differs (pos a) (negsuc b) = omega (arith, sub_differs a (suc b))
add_differs (negsuc a) (pos b) = omega (arith, sub_differs b (suc a))
add_differs (negsuc a) (negsuc b) = omega arith

pub plus_part_mul : (x y : ℤ) → plus_part (x *ℤ y) ≡ plus_part x * plus_part y + minus_part x * minus_part y
plus_part_mul (pos a) (pos b) = omega arith
plus_part_mul (pos a) (negsuc b) = plus_part_neg (pos (a * suc b)) ∙ omega arith
plus_part_mul (negsuc a) (pos b) = plus_part_neg (pos (suc a * b)) ∙ omega arith
plus_part_mul (negsuc a) (negsuc b) = omega arith

pub minus_part_mul : (x y : ℤ) → minus_part (x *ℤ y) ≡ plus_part x * minus_part y + minus_part x * plus_part y
minus_part_mul (pos a) (pos b) = omega arith
minus_part_mul (pos a) (negsuc b) = minus_part_neg (pos (a * suc b)) ∙ omega arith
minus_part_mul (negsuc a) (pos b) = minus_part_neg (pos (suc a * b)) ∙ omega arith
minus_part_mul (negsuc a) (negsuc b) = omega arith

-- the numerator of a sum of two fractions, over the product of their denominators
pub add_parts : (x y : ℤ) (d c : ℕ) → let z = x *ℤ pos d +ℤ y *ℤ pos c in (plus_part x * d + plus_part y * c + minus_part z ≡ minus_part x * d + minus_part y * c + plus_part z) × (plus_part z + minus_part z ≤ plus_part x * d + plus_part y * c + (minus_part x * d + minus_part y * c))
add_parts x y d c =
    let h = add_differs (x *ℤ pos d) (y *ℤ pos c) in
    let a = plus_part_mul x (pos d) in
    let b = plus_part_mul y (pos c) in
    let a' = minus_part_mul x (pos d) in
    let b' = minus_part_mul y (pos c) in
    (omega arith, omega arith)

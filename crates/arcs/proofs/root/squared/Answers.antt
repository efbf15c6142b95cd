-- `arcs::root::squared` meets its contract: with c = a * 2 ^ 27 + b, c * c is a * a * 2 ^ 54 + a * b * 2 ^ 28 + b * b. Assumes nothing.
use Prim.Native.Nat.{ℕ, ◌+◌, ◌*◌, ◌/◌, ◌%◌, ◌^◌, ◌<◌}
use mathlib.Core.Path.{◌≡◌, sym, subst}
use native.Mathlib.Nat.{le_of_lt, lt_of_le_of_lt, mul-le-mul_left, mul-lt-mul_of_pos_right}
use native.Mathlib.Omega.{arith}
use lib.Pow.{pow_pos}
use Rattle.arcs.proofs.root.squared.Goals as goal

below : (a b i j : ℕ) → a < 2 ^ i → b < 2 ^ j → a * b < 2 ^ i * 2 ^ j
below a b i j h k = lt_of_le_of_lt (mul-le-mul_left a (le_of_lt k)) (mul-lt-mul_of_pos_right h (pow_pos j))

joined : (a b c : ℕ) → c ≡ a * 2 ^ 27 + b → c * c ≡ (a * a * 4 + a * b / 2 ^ 24) * 2 ^ 52 + (a * b % 2 ^ 24 * 2 ^ 28 + b * b)
joined a b c e = subst (λ (z : ℕ). z * z ≡ (a * a * 4 + a * b / 2 ^ 24) * 2 ^ 52 + (a * b % 2 ^ 24 * 2 ^ 28 + b * b)) (sym e) (omega arith)

-- the three products of the halves, and the square
record Halves (c a b : ℕ) : Type 0 where
  high : a * a < 2 ^ 52
  mixed : a * b < 2 ^ 53
  low : b * b < 2 ^ 54
  all : c * c < 2 ^ 106
  whole : c * c ≡ (a * a * 4 + a * b / 2 ^ 24) * 2 ^ 52 + (a * b % 2 ^ 24 * 2 ^ 28 + b * b)

halves : (c : ℕ) → c < 2 ^ 53 → Halves c (c / 2 ^ 27) (c % 2 ^ 27)
halves c h =
    let a = c / 2 ^ 27 in
    let b = c % 2 ^ 27 in
    let above : a < 2 ^ 26 = omega arith in
    let under : b < 2 ^ 27 = omega arith in
    record { high = below a a 26 26 above above; mixed = below a b 26 27 above under; low = below b b 27 27 under under; all = below c c 53 53 h h; whole = joined a b c (omega arith) }

module _ (c : goal.Start) where
  at : Halves c.args.c (c.args.c / 2 ^ 27) (c.args.c % 2 ^ 27)
  at = halves c.args.c c.requires

pub returns : goal.returns
returns c = record { same = (at c).whole; top = omega (arith, at c); bottom = omega (arith, at c) }

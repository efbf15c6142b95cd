-- Numbers without a sign compare as the fractions that they are. Assumes nothing.
use Prim.Native.Nat.{ℕ, ◌*◌, ◌≤◌, ◌<◌}
use native.Mathlib.Nat.{lt_of_not-le, not-le_of_lt, mul-le-mul_right, le_of_mul-le-mul_right}
use native.Mathlib.Omega.{arith}
use mathlib.Core.Path.{◌≡◌, refl, sym}
use mathlib.Core.Logic.{◌⊎◌, inl, inr, ⊎_elim}
use mathlib.Core.Bool.{Bool, true, false, ◌&&◌, ◌||◌, true≢false}
use lib.Dec.{T, leb, ltb, eqb, ltb→lt, eqb→eq, not_T}
use lib.Ieee.{Float, nan, inf, fin, up, down, lt, le}
use lib.Ieee.Bits.{is_true, is_false}
use lib.Ieee.Fits.{down_pos}
use lib.Ieee.Exact.{HasValue}
use lib.Ieee.Order.{transfer, le_of_values}
use borrow.Author.Tests.{leb-true, leb-false}

either : (x y c : Bool) → T (x || (y && c)) → T x ⊎ T y
either true y c t = inl tt
either false true c t = inr tt
either false false c t = absurd t

pub le_says : (a b : ℕ) (c : Bool) → T (ltb a b || (eqb a b && c)) → a ≤ b
le_says a b c t =
    ⊎_elim (λ l. let h = ltb→lt a b l in omega arith) (λ q. let h = eqb→eq a b q in omega arith)
    (either (ltb a b) (eqb a b) c t)

-- numbers that are a / c and b / d
module _ (a c b d : ℕ) (C : 0 < c) (D : 0 < d) where
  pub le_values : (x y : Float) → HasValue x false a c → HasValue y false b d → T (le x y) → a * d ≤ b * c
  unfolding le
  le_values nan y h k l = absurd h
  le_values (inf s) y h k l = absurd h
  le_values (fin true m e) y h k l = absurd (true≢false h.0)
  le_values (fin false m e) nan h k l = absurd k
  le_values (fin false m e) (inf t) h k l = absurd k
  le_values (fin false m e) (fin true n g) h k l = absurd (true≢false k.0)
  le_values (fin false m e) (fin false n g) h k l =
      transfer a b c d (m * up e) (n * up g) (down e) (down g) (down_pos e) (down_pos g) (sym h.1) (sym k.1)
      (le_says _ _ true l)

  pub lt_values : (x y : Float) → HasValue x false a c → HasValue y false b d → T (lt x y) → a * d < b * c
  unfolding lt
  lt_values nan y h k l = absurd h
  lt_values (inf s) y h k l = absurd h
  lt_values (fin true m e) y h k l = absurd (true≢false h.0)
  lt_values (fin false m e) nan h k l = absurd k
  lt_values (fin false m e) (inf t) h k l = absurd k
  lt_values (fin false m e) (fin true n g) h k l = absurd (true≢false k.0)
  lt_values (fin false m e) (fin false n g) h k l =
      lt_of_not-le
      (λ (q : b * c ≤ a * d). not-le_of_lt (ltb→lt _ _ l)
      (transfer (n * up g) (m * up e) (down g) (down e) b a d c D C k.1 h.1 q))

-- over one denominator the numerators decide
pub le_level : (x y : Float) (a b c : ℕ) → 0 < c → HasValue x false a c → HasValue y false b c → le x y ≡ leb a b
le_level x y a b c C p q = go (leb a b) refl
  where
    go : (z : Bool) → leb a b ≡ z → le x y ≡ z
    go true e = is_true (le x y) (le_of_values x y a c b c C C p q (mul-le-mul_right c (leb-true a b e)))
    go false e =
        is_false (le x y)
        (not_T (le x y)
        (λ t. not-le_of_lt (leb-false a b e) (le_of_mul-le-mul_right (le_values a c b c C C x y p q t) C)))

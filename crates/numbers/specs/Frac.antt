-- Fractions, one whole number over another, with exact operations, and a double as the fraction that it is. Document 01, "The words of demand 3". Definitions only.
use Rattle.std.specs.Prelude.{ℕ, ◌*◌, Bool, true, false, cond, ℤ, pos, negsuc, neg_ℤ, nat_abs, ◌+ℤ◌, ◌*ℤ◌, Float}
use Rattle.std.specs.Float.{nan, inf, fin}
use Rattle.std.specs.Float.Ieee.{up, down}

pub record Frac : Type 0 where
  pub num : ℤ
  pub den : ℕ

unfoldable pub add_q : Frac → Frac → Frac
add_q a b = record { num = a.num *ℤ pos b.den +ℤ b.num *ℤ pos a.den; den = a.den * b.den }

unfoldable pub mul_q : Frac → Frac → Frac
mul_q a b = record { num = a.num *ℤ b.num; den = a.den * b.den }

unfoldable pub neg_q : Frac → Frac
neg_q a = record { num = neg_ℤ a.num; den = a.den }

unfoldable pub sub_q : Frac → Frac → Frac
unfolding add_q neg_q
sub_q a b = add_q a (neg_q b)

abbrev pub below0 : ℤ → Bool
below0 (pos n) = false
below0 (negsuc n) = true

unfoldable pub lt_q : Frac → Frac → Bool
unfolding sub_q
lt_q x y = below0 (sub_q x y).num

unfoldable pub max_q : Frac → Frac → Frac
unfolding lt_q
max_q x y = cond (lt_q x y) y x

unfoldable pub abs_q : Frac → Frac
abs_q x = record { num = pos (nat_abs x.num); den = x.den }

-- the fraction that a double is; 0 for a NaN or an infinity, which is none
unfoldable pub frac_of : Float → Frac
frac_of nan = record { num = pos 0; den = 1 }
frac_of (inf s) = record { num = pos 0; den = 1 }
frac_of (fin false m e) = record { num = pos (m * up e); den = down e }
frac_of (fin true m e) = record { num = neg_ℤ (pos (m * up e)); den = down e }

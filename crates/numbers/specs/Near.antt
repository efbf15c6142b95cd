-- What it says that a double is near a fraction: finite, the fraction's size at most `most` and their distance at most `off`, both in units of 1 / S, and the bound that each
-- operation leaves. A bound has `ok` false where its sizes leave the range in which rounding is known. The words of the facts about sums and Horner forms of any length: document 01,
-- "Agreement". Definitions only.
use Rattle.std.specs.Prelude.{ℕ, ◌+◌, ◌-◌, ◌*◌, ◌/◌, ◌^◌, ◌<◌, Bool, true, false, ◌&&◌, T, leb, Float}
use Rattle.std.specs.Float.{nan, inf, fin}
use Rattle.std.specs.Float.Ieee.{up, down, size}
use Rattle.std.specs.Float.Ieee.Scale.{finite}
use Rattle.numbers.specs.Frac.{Frac}
use Rattle.numbers.specs.Parts.{plus_part, minus_part}
use Rattle.numbers.specs.Close.{Signed, Close, Mag}

abbrev pub signed : Bool → ℕ → ℕ → Signed
signed false a c = record { p = a; n = 0; d = c }
signed true a c = record { p = 0; n = a; d = c }

-- a double's own value, as a signed fraction
abbrev pub value_of : Float → Signed
value_of nan = record { p = 0; n = 0; d = 1 }
value_of (inf s) = record { p = 0; n = 0; d = 1 }
value_of (fin s m e) = signed s (m * up e) (down e)

-- a fraction, as a signed one
abbrev pub parts_of : Frac → Signed
parts_of x = record { p = plus_part x.num; n = minus_part x.num; d = x.den }

-- ---- the unit of bounds, and a bound
-- bounds count units of 2 ^ -80: half a last place of a double from 1 to 2 is 2 ^ 27 of them, and a smaller value is charged one unit at least
unfoldable pub S : ℕ
S = 2 ^ 80

pub record Bound : Type 0 where
  pub ok : Bool
  pub most : ℕ
  pub off : ℕ

-- the bound after rounding: below 2 ^ (54 + i) units, rounding moves by at most 2 ^ i of them
unfoldable pub round_bound : Bool → ℕ → ℕ → Bound
unfolding size
round_bound ok m e = let i = size (m + e) - 54 in record { ok = ok && leb i 1000; most = m; off = e + 2 ^ i }

unfoldable pub add_bound : Bound → Bound → Bound
unfolding round_bound
add_bound a b = round_bound (a.ok && b.ok) (a.most + b.most) (a.off + b.off)

unfoldable pub mul_bound : Bound → Bound → Bound
unfolding round_bound S
mul_bound a b = round_bound (a.ok && b.ok) (a.most * b.most / S + 1) ((a.off * b.most + b.off * a.most + a.off * b.off) / S + 1)

-- of size at most m / S, and no error
abbrev pub exactly : ℕ → Bound
exactly m = record { ok = true; most = m; off = 0 }

-- of size at most m / S, and off by at most e / S
abbrev pub up_to : ℕ → ℕ → Bound
up_to m e = record { ok = true; most = m; off = e }

-- x is near X
pub record Near (x : Float) (X : Frac) (b : Bound) : Type 0 where
  pub finite_number : T (finite x)
  pub den_pos : 0 < X.den
  pub most : Mag S (parts_of X) b.most
  pub close : Close S (value_of x) (parts_of X) b.off

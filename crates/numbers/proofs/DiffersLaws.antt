-- A double within 1 / R of a fraction, in the words of Differs.antt: the numerator of their difference is the difference of the cross products. Assumes nothing.
use mathlib.Core.Path.{◌≡◌, refl, sym, ap, subst}
use Prim.Native.Nat.{ℕ, ◌+◌, ◌*◌, ◌≤◌, ◌<◌}
use native.Mathlib.Nat.{mul-pos}
use native.Mathlib.Omega.{arith}
use mathlib.Core.Bool.{true, false}
use lib.IntN.{ℤ, pos, negsuc, neg_ℤ, nat_abs}
use lib.Ieee.{Float, nan, inf, fin, up, down}
use lib.Ieee.Fits.{down_pos}
use Rattle.numbers.specs.Frac.{Frac, frac_of, sub_q}
use Rattle.numbers.specs.Differs.{DiffersByAtMost}
use Rattle.numbers.specs.Parts.{plus_part, minus_part}
use Rattle.numbers.proofs.PartLaws.{plus_part_neg, minus_part_neg, add_parts}
use Rattle.numbers.specs.Close.{Signed, Close}
use Rattle.numbers.proofs.CloseLaws.{coarser}
use Rattle.numbers.specs.Near.{Bound, Near, S, value_of, parts_of}
use Rattle.numbers.proofs.NearLaws.{S_pos, signed_path}
use Rattle.numbers.proofs.Largest.{Within, finite_is}

pub value_is : (x : Float) → value_of x ≡ parts_of (frac_of x)
unfolding frac_of
value_is nan = refl
value_is (inf s) = refl
value_is (fin false m e) = refl
value_is (fin true m e) = signed_path (down e) (sym (plus_part_neg (pos (m * up e)))) (sym (minus_part_neg (pos (m * up e))))

size-le : (z : ℤ) (a b R W : ℕ) → a + minus_part z ≡ b + plus_part z → a * R ≤ b * R + W → b * R ≤ a * R + W → nat_abs z * R ≤ W
size-le (pos n) a b R W e h k = omega (arith, ap (λ (w : ℕ). w * R) e)
size-le (negsuc n) a b R W e h k = omega (arith, ap (λ (w : ℕ). w * R) e)

difference : (R : ℕ) (f X : Frac) → Close R (parts_of f) (parts_of X) 1 → nat_abs (sub_q f X).num * R ≤ f.den * X.den
unfolding sub_q
difference R f X h =
    let e = (add_parts f.num (neg_ℤ X.num) X.den f.den).0 in
    let p = ap (λ (w : ℕ). w * f.den) (plus_part_neg X.num) in
    let n = ap (λ (w : ℕ). w * f.den) (minus_part_neg X.num) in
    size-le (sub_q f X).num (plus_part f.num * X.den + minus_part X.num * f.den) (minus_part f.num * X.den + plus_part X.num * f.den) R (f.den * X.den)
    (omega arith) (omega (arith, h.0)) (omega (arith, h.1))

den_pos : (x : Float) → 0 < (frac_of x).den
unfolding frac_of
den_pos nan = omega arith
den_pos (inf s) = omega arith
den_pos (fin false m e) = down_pos e
den_pos (fin true m e) = down_pos e

pub within_differs : (R : ℕ) (x : Float) (X : Frac) → Within R 1 x X → DiffersByAtMost R x X
unfolding sub_q
within_differs R x X w =
    record {
      number = finite_is x w.finite_number;
      fraction = mul-pos (den_pos x) w.den_pos;
      small = difference R (frac_of x) X (subst (λ (z : Signed). Close R z (parts_of X) 1) (value_is x) w.close);
    }

-- from a computed bound to a distance of k / R
pub near_within : (R k : ℕ) (x : Float) (X : Frac) (b : Bound) → b.off * R ≤ k * S → Near x X b → Within R k x X
near_within R k x X b l h = record { finite_number = h.finite_number; den_pos = h.den_pos; close = coarser S R (value_of x) (parts_of X) b.off k S_pos l h.close }

pub near_differs : (R : ℕ) (x : Float) (X : Frac) (b : Bound) → b.off * R ≤ S → Near x X b → DiffersByAtMost R x X
near_differs R x X b l h = within_differs R x X (near_within R 1 x X b (omega arith) h)

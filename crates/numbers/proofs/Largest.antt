-- The larger of two, the magnitude, and the largest magnitude of a list keep a distance: where each double is within k / R of its fraction, so is `max_abs` of the doubles
-- of `largest_q` of the fractions, for lists of any length. What a comparison says of the values is all that is used of it. Assumes nothing.
use mathlib.Core.Path.{◌≡◌, refl, ap}
use Prim.Native.Nat.{ℕ, ◌+◌, ◌*◌, ◌<◌}
use native.Mathlib.Omega.{arith}
use mathlib.Core.Bool.{Bool, true, false, not, ◌&&◌, cond}
use mathlib.Core.List.{List, [], ◌∷◌, foldl}
use lib.Dec.{T, ltb→lt, nltb→le, lit≤}
use lib.IntN.{ℤ, pos, negsuc, neg_ℤ, nat_abs, ◌+ℤ◌, ◌*ℤ◌}
use lib.Ieee.{Float, nan, inf, fin, up, down, lt, below, eq, is_nan, of_bits}
use lib.Ieee.Bits.{is_true}
use lib.Ieee.Fits.{down_pos}
use lib.Ieee.Scale.{finite}
use Rattle.numbers.specs.Frac.{Frac, sub_q, lt_q, max_q, abs_q, below0}
use Rattle.numbers.specs.Parts.{plus_part, minus_part}
use Rattle.numbers.proofs.PartLaws.{plus_part_neg, minus_part_neg, add_parts}
use Rattle.numbers.specs.Double.{zero64, is_finite, abs, fmax}
use Rattle.numbers.proofs.DoubleLaws.{zero_value}
use Rattle.numbers.specs.MaxAbs.{max_abs, max_abs_step, zero_q, largest_q}
use Rattle.numbers.specs.Close.{Signed, Under, Close}
use Rattle.numbers.proofs.CloseLaws.{AtMost, under_chain, under_more, under_of}
use Rattle.numbers.specs.Near.{signed, value_of, parts_of}

-- ---- a distance of k / R
-- x is finite, and differs from X by at most k / R
pub record Within (R k : ℕ) (x : Float) (X : Frac) : Type 0 where
  pub finite_number : T (finite x)
  pub den_pos : 0 < X.den
  pub close : Close R (value_of x) (parts_of X) k

pub value_pos : (x : Float) → 0 < (value_of x).d
value_pos nan = omega arith
value_pos (inf s) = omega arith
value_pos (fin false m e) = down_pos e
value_pos (fin true m e) = down_pos e

-- what the comparison of doubles says
abbrev pub Said : Bool → Signed → Signed → Type 0
Said b x y = (T b → AtMost x y) × (T (not b) → AtMost y x)

said : (s : Bool) (a c : ℕ) (t : Bool) (b c' : ℕ) → Said (below s (a * c') t (b * c)) (signed s a c) (signed t b c')
said false a c false b c' = (λ h. omega (arith, ltb→lt (a * c') (b * c) h), λ h. omega (arith, nltb→le (a * c') (b * c) h))
said false a c true b c' = (λ h. absurd h, λ h. omega arith)
said true a c false b c' = (λ h. omega arith, λ h. omega (arith, nltb→le 0 (a * c' + b * c) h))
said true a c true b c' = (λ h. omega (arith, ltb→lt (b * c) (a * c') h), λ h. omega (arith, nltb→le (b * c) (a * c') h))

pub lt_says : (x y : Float) → T (finite x) → T (finite y) → Said (lt x y) (value_of x) (value_of y)
unfolding lt
lt_says nan y f g = absurd f
lt_says (inf s) y f g = absurd f
lt_says (fin s m e) nan f g = absurd g
lt_says (fin s m e) (inf t) f g = absurd g
lt_says (fin s m e) (fin t n d) f g = said s (m * up e) (down e) t (n * up d) (down d)

-- what the comparison of fractions says
sign_says : (z : ℤ) → (T (below0 z) → plus_part z ≡ 0) × (T (not (below0 z)) → minus_part z ≡ 0)
sign_says (pos n) = (λ h. absurd h, λ h. refl)
sign_says (negsuc n) = (λ h. refl, λ h. absurd h)

lt_q_says : (X Y : Frac) → Said (lt_q X Y) (parts_of X) (parts_of Y)
unfolding lt_q sub_q
lt_q_says X Y =
    let h = (add_parts X.num (neg_ℤ Y.num) Y.den X.den).0 in
    let k = sign_says (X.num *ℤ pos Y.den +ℤ neg_ℤ Y.num *ℤ pos X.den) in
    let p = ap (λ (w : ℕ). w * X.den) (plus_part_neg Y.num) in
    let n = ap (λ (w : ℕ). w * X.den) (minus_part_neg Y.num) in
    (λ t. omega (arith, k.0 t), λ t. omega (arith, k.1 t))

-- ---- what the methods of doubles say of numbers
pub finite_is : (x : Float) → T (finite x) → is_finite x ≡ true
unfolding is_finite
finite_is nan f = absurd f
finite_is (inf s) f = absurd f
finite_is (fin s m e) f = refl

numbers_max : (x y : Float) → T (finite x) → T (finite y) → fmax x y ≡ cond (eq x zero64 && eq y zero64) zero64 (cond (lt x y) y x)
unfolding fmax is_nan
numbers_max nan y f g = absurd f
numbers_max (inf s) y f g = absurd f
numbers_max (fin s m e) nan f g = absurd g
numbers_max (fin s m e) (inf t) f g = absurd g
numbers_max (fin s m e) (fin t n d) f g = refl

-- ---- the larger of two
module _ (R k : ℕ) where
  via : (a b c : Signed) → 0 < b.d → Under R a b k → AtMost b c → Under R a c k
  via a b c B h l = under_more R a c (k + 0) k (omega arith) (under_chain R a b c k 0 B h (under_of R b c l))

  pick : (b c : Bool) (x y : Float) (X Y : Frac) → Said b (value_of x) (value_of y) → Said c (parts_of X) (parts_of Y) → Within R k x X → Within R k y Y → Within R k (cond b y x) (cond c Y X)
  pick true true x y X Y l m h g = g
  pick false false x y X Y l m h g = h
  pick true false x y X Y l m h g =
      record { finite_number = g.finite_number; den_pos = h.den_pos; close = (via (value_of y) (parts_of Y) (parts_of X) g.den_pos g.close.0 (m.1 tt), via (parts_of X) (value_of x) (value_of y) (value_pos x) h.close.1 (l.0 tt)) }
  pick false true x y X Y l m h g =
      record { finite_number = h.finite_number; den_pos = g.den_pos; close = (via (value_of x) (parts_of X) (parts_of Y) h.den_pos h.close.0 (m.0 tt), via (parts_of Y) (value_of y) (value_of x) (value_pos y) g.close.1 (l.1 tt)) }

  -- another double of the same value
  same : (z x : Float) (X : Frac) → T (finite z) → AtMost (value_of z) (value_of x) → AtMost (value_of x) (value_of z) → Within R k x X → Within R k z X
  same z x X f l g h =
      record {
        finite_number = f;
        den_pos = h.den_pos;
        close = (
          under_more R (value_of z) (parts_of X) (0 + k) k (omega arith) (under_chain R (value_of z) (value_of x) (parts_of X) 0 k (value_pos x) (under_of R (value_of z) (value_of x) l) h.close.0),
          via (parts_of X) (value_of x) (value_of z) (value_pos x) h.close.1 g,
        );
      }

  zero_same : (x : Float) (X : Frac) → T (finite x) → eq x zero64 ≡ true → Within R k x X → Within R k zero64 X
  unfolding of_bits
  zero_same nan X f e h = absurd f
  zero_same (inf s) X f e h = absurd f
  zero_same (fin true m d) X f e h = let z = zero_value true m d e in same zero64 (fin true m d) X tt (omega arith) (omega arith) h
  zero_same (fin false m d) X f e h = let z = zero_value false m d e in same zero64 (fin false m d) X tt (omega arith) (omega arith) h

  pick_zero : (a b : Bool) (x y : Float) (Z : Frac) → (T a → T b → Within R k zero64 Z) → Within R k (cond (lt x y) y x) Z → Within R k (cond (a && b) zero64 (cond (lt x y) y x)) Z
  pick_zero true true x y Z h g = h tt tt
  pick_zero true false x y Z h g = g
  pick_zero false b x y Z h g = g

  larger_zero : (c : Bool) (x y : Float) (X Y : Frac) → Within R k x X → Within R k y Y → T (eq x zero64) → T (eq y zero64) → Within R k zero64 (cond c Y X)
  larger_zero true x y X Y h g p q = zero_same y Y g.finite_number (is_true (eq y zero64) q) g
  larger_zero false x y X Y h g p q = zero_same x X h.finite_number (is_true (eq x zero64) p) h

  pub within_max : (x y : Float) (X Y : Frac) → Within R k x X → Within R k y Y → Within R k (fmax x y) (max_q X Y)
  unfolding max_q
  within_max x y X Y h g =
      rw (numbers_max x y h.finite_number g.finite_number)
      (pick_zero (eq x zero64) (eq y zero64) x y (cond (lt_q X Y) Y X) (larger_zero (lt_q X Y) x y X Y h g)
      (pick (lt x y) (lt_q X Y) x y X Y (lt_says x y h.finite_number g.finite_number) (lt_q_says X Y) h g))

  -- ---- the magnitude
  abs_close : (s : Bool) (a c : ℕ) (z : ℤ) (d : ℕ) → Close R (signed s a c) (record { p = plus_part z; n = minus_part z; d = d }) k → Close R (signed false a c) (record { p = nat_abs z; n = 0; d = d }) k
  abs_close false a c (pos n) d h = h
  abs_close false a c (negsuc n) d h = (omega (arith, h.0), omega (arith, h.0))
  abs_close true a c (pos n) d h = (omega (arith, h.1), omega (arith, h.1))
  abs_close true a c (negsuc n) d h = (omega (arith, h.1), omega (arith, h.0))

  pub within_abs : (x : Float) (X : Frac) → Within R k x X → Within R k (abs x) (abs_q X)
  unfolding abs abs_q
  within_abs nan X h = absurd h.finite_number
  within_abs (inf s) X h = absurd h.finite_number
  within_abs (fin s m e) X h = record { finite_number = tt; den_pos = h.den_pos; close = abs_close s (m * up e) (down e) X.num X.den h.close }

  -- ---- the largest magnitude of a list
  abbrev pub AllWithin : List Float → List Frac → Type 0
  AllWithin [] [] = Unit {0}
  AllWithin [] (X ∷ L) = ⊥
  AllWithin (x ∷ l) [] = ⊥
  AllWithin (x ∷ l) (X ∷ L) = Within R k x X × AllWithin l L

  within_step : (m x : Float) (M X : Frac) → Within R k m M → Within R k x X → Within R k (max_abs_step m x) (max_q M (abs_q X))
  unfolding max_abs_step
  within_step m x M X h g = rw (finite_is x g.finite_number) (within_max m (abs x) M (abs_q X) h (within_abs x X g))

  fold_within : (l : List Float) (L : List Frac) (m : Float) (M : Frac) → Within R k m M → AllWithin l L → Within R k (foldl max_abs_step m l) (foldl (λ u a. max_q u (abs_q a)) M L)
  fold_within [] [] m M h w = h
  fold_within [] (X ∷ L) m M h w = absurd w
  fold_within (x ∷ l) [] m M h w = absurd w
  fold_within (x ∷ l) (X ∷ L) m M h w = fold_within l L (max_abs_step m x) (max_q M (abs_q X)) (within_step m x M X h w.0) w.1

  pub within_largest : (l : List Float) (L : List Frac) → AllWithin l L → Within R k (max_abs l) (largest_q L)
  unfolding max_abs largest_q of_bits
  within_largest l L w = fold_within l L zero64 zero_q (record { finite_number = tt; den_pos = lit≤ tt; close = (omega arith, omega arith) }) w

-- Bounds on magnitudes through one rounded operation: rounding is monotone, so that a fraction below a double rounds to no more than that double. Assumes nothing.
use Prim.Native.Nat.{ℕ, zero, suc, ◌+◌, ◌-◌, ◌*◌, ◌^◌, ◌≤◌, ◌<◌}
use native.Mathlib.Nat.{le_of_eq, mul-le-mul, mul-le-mul_right, le_of_mul-le-mul_right, le_trans, mul-pos, zero-mul}
use native.Mathlib.Omega.{arith}
use mathlib.Core.Path.{◌≡◌}
use mathlib.Core.Bool.{Bool, true, false, cond}
use lib.IntN.{ℤ}
use lib.Dec.{T, ltb}
use lib.Ieee.{Float, nan, inf, fin, Format, binary64, prec, low, emax, up, down, round, units, odd, sum, add, sub, mul, div, neg, lt, le, eq}
use lib.Ieee.Fits.{up_pos, down_pos, round_is}
use lib.Ieee.Order.{round_mono}
use lib.Ieee.Positive.{through}
use borrow.Author.Tests.{ne_eqb}
use Rattle.numbers.proofs.CloseLaws.{ring}
use Rattle.numbers.proofs.ValueOrder.{le_says}

-- x is finite, of magnitude at most p / r
abbrev pub AtMostOf : ℕ → ℕ → Float → Type 0
AtMostOf p r nan = ⊥
AtMostOf p r (inf s) = ⊥
AtMostOf p r (fin s m e) = m * up e * r ≤ p * down e

-- ---- rounding
module _ (p r : ℕ) where
  signless : (f : Format) (s : Bool) (q k : ℕ) → AtMostOf p r (units f false q k) → AtMostOf p r (units f s q k)
  unfolding units odd
  signless f s q k h = go (ltb (q * 2 ^ k) (2 ^ (low f + suc (emax f)))) q h
    where
      go : (t : Bool) (q : ℕ) → AtMostOf p r (cond t (odd (suc (prec f)) false q k (low f)) (inf false)) → AtMostOf p r (cond t (odd (suc (prec f)) s q k (low f)) (inf s))
      go true zero h = h
      go true (suc q) h = h
      go false q h = h

  under : (f : Format) (q k n : ℕ) (d : ℤ) → T (le (units f false q k) (fin false n d)) → n * up d * r ≤ p * down d → AtMostOf p r (units f false q k)
  unfolding units odd le lt eq
  under f q k n d h l = go (ltb (q * 2 ^ k) (2 ^ (low f + suc (emax f)))) q h
    where
      go : (t : Bool) (q : ℕ) → T (le (cond t (odd (suc (prec f)) false q k (low f)) (inf false)) (fin false n d)) → AtMostOf p r (cond t (odd (suc (prec f)) false q k (low f)) (inf false))
      go true zero h = omega arith
      go true (suc q) h = through _ (n * up d) p _ (down d) r (down_pos d) (le_says _ _ _ h) l
      go false q h = absurd h

  pub round_at_most : (f : Format) (s : Bool) (a b n : ℕ) (d : ℤ) → 0 < b → 0 < r → a * r ≤ p * b → round f false p r ≡ fin false n d → n * up d * r ≤ p * down d → AtMostOf p r (round f s a b)
  round_at_most f s a b n d B R h e l =
      rw (round_is f s a b)
      (signless f s _ _ (under f _ _ n d (rw (round_is f false a b, e) at (round_mono f a b p r B R h)) l))

  of_units : (f : Format) (q k : ℕ) (P : Float → Type 0) → ((m : ℕ) (e : ℤ) → m * up e * r ≤ p * down e → P (fin false m e)) → AtMostOf p r (units f false q k) → P (units f false q k)
  unfolding units odd
  of_units f q k P g h = go (ltb (q * 2 ^ k) (2 ^ (low f + suc (emax f)))) q h
    where
      go : (t : Bool) (q : ℕ) → AtMostOf p r (cond t (odd (suc (prec f)) false q k (low f)) (inf false)) → P (cond t (odd (suc (prec f)) false q k (low f)) (inf false))
      go true zero h = g _ _ h
      go true (suc q) h = g _ _ h
      go false q h = absurd h

  -- what holds of every number without a sign holds of one that was rounded
  pub of_round : (f : Format) (a b : ℕ) (P : Float → Type 0) → ((m : ℕ) (e : ℤ) → m * up e * r ≤ p * down e → P (fin false m e)) → AtMostOf p r (round f false a b) → P (round f false a b)
  of_round f a b P g h = rw (round_is f false a b) (of_units f _ _ P g (rw (round_is f false a b) at h))

  -- ---- a difference of two that are not negative
  pub sub_at_most : (m n : ℕ) (e d : ℤ) (n' : ℕ) (d' : ℤ) → 0 < r → (m * up e * down d - n * up d * down e) * r ≤ p * (down e * down d) → (n * up d * down e - m * up e * down d) * r ≤ p * (down e * down d)
      → round binary64 false p r ≡ fin false n' d' → n' * up d' * r ≤ p * down d' → AtMostOf p r (sub binary64 (fin false m e) (fin false n d))
  unfolding sub add neg sum
  sub_at_most m n e d n' d' R h k q l = go (ltb (m * up e * down d) (n * up d * down e))
    where
      C : 0 < down e * down d
      C = mul-pos (down_pos e) (down_pos d)

      go : (t : Bool) → AtMostOf p r (cond t (round binary64 true (n * up d * down e - m * up e * down d) (down e * down d)) (round binary64 false (m * up e * down d - n * up d * down e) (down e * down d)))
      go true = round_at_most binary64 true _ _ n' d' C R k q l
      go false = round_at_most binary64 false _ _ n' d' C R h q l

-- ---- a square
squares : (x y p r P R : ℕ) → 0 < r → x * r ≤ p * y → p * p * R ≤ P * (r * r) → x * x * R ≤ P * (y * y)
squares x y p r P R h k l =
    le_of_mul-le-mul_right (le_trans (le_trans (le_of_eq (simp ring)) (mul-le-mul_right R (mul-le-mul k k))) (le_trans (le_of_eq (simp ring)) (le_trans (mul-le-mul_right (y * y) l) (le_of_eq (simp ring))))) (mul-pos h h)

pub square_at_most : (p r P R : ℕ) (x : Float) (n : ℕ) (d : ℤ) → 0 < r → 0 < R → p * p * R ≤ P * (r * r) → round binary64 false P R ≡ fin false n d → n * up d * R ≤ P * down d → AtMostOf p r x → AtMostOf P R (mul binary64 x x)
unfolding mul
square_at_most p r P R nan n d h H k q l a = a
square_at_most p r P R (inf s) n d h H k q l a = absurd a
square_at_most p r P R (fin s m e) n d h H k q l a = round_at_most P R binary64 _ _ _ n d (mul-pos (down_pos e) (down_pos e)) H (squares (m * up e) (down e) p r P R h a k) q l

-- ---- a bound from below
-- x is finite, without a sign, at least p / r
abbrev pub AtLeast : ℕ → ℕ → Float → Type 0
AtLeast p r nan = ⊥
AtLeast p r (inf s) = ⊥
AtLeast p r (fin true m e) = ⊥
AtLeast p r (fin false m e) = p * down e ≤ m * up e * r

module _ (p r : ℕ) where
  above : (f : Format) (q k n : ℕ) (d : ℤ) (P R : ℕ) → T (le (fin false n d) (units f false q k)) → p * down d ≤ n * up d * r → AtMostOf P R (units f false q k) → AtLeast p r (units f false q k)
  unfolding units odd le lt eq
  above f q k n d P R h l a = go (ltb (q * 2 ^ k) (2 ^ (low f + suc (emax f)))) q h a
    where
      go : (t : Bool) (q : ℕ) → T (le (fin false n d) (cond t (odd (suc (prec f)) false q k (low f)) (inf false))) → AtMostOf P R (cond t (odd (suc (prec f)) false q k (low f)) (inf false)) → AtLeast p r (cond t (odd (suc (prec f)) false q k (low f)) (inf false))
      go true zero h a = through p (n * up d) _ r (down d) _ (down_pos d) l (le_says _ _ _ h)
      go true (suc q) h a = through p (n * up d) _ r (down d) _ (down_pos d) l (le_says _ _ _ h)
      go false q h a = absurd a

  pub round_at_least : (f : Format) (a b n : ℕ) (d : ℤ) (P R : ℕ) → 0 < b → 0 < r → p * b ≤ a * r → round f false p r ≡ fin false n d → p * down d ≤ n * up d * r → AtMostOf P R (round f false a b) → AtLeast p r (round f false a b)
  round_at_least f a b n d P R B H h e l m =
      rw (round_is f false a b)
      (above f _ _ n d P R (rw (e, round_is f false a b) at (round_mono f p r a b H B h)) l (rw (round_is f false a b) at m))

-- ---- a quotient
quotient : (x y z w p r k l P R : ℕ) → 0 < k * r → x * r ≤ p * y → k * w ≤ z * l → p * l * R ≤ P * (k * r) → x * w * R ≤ P * (z * y)
quotient x y z w p r k l P R h a b c =
    le_of_mul-le-mul_right (le_trans (le_trans (le_of_eq (simp ring)) (mul-le-mul_right R (mul-le-mul a b))) (le_trans (le_of_eq (simp ring)) (le_trans (mul-le-mul_right (z * y) c) (le_of_eq (simp ring))))) h

not_zero : (n k l : ℕ) (d : ℤ) → 0 < k → k * down d ≤ n * up d * l → n ≡ 0 → ⊥
not_zero n k l d h b e = let p = mul-pos h (down_pos d) in omega (arith, rw (e, zero-mul (up d), zero-mul l) at b)

-- at most p / r over at least k / l
pub div_at_most : (p r k l P R : ℕ) (x y : Float) (n : ℕ) (d : ℤ) → 0 < k → 0 < r → 0 < R → p * l * R ≤ P * (k * r) → round binary64 false P R ≡ fin false n d → n * up d * R ≤ P * down d
    → AtMostOf p r x → AtLeast k l y → AtMostOf P R (div binary64 x y)
unfolding div
div_at_most p r k l P R nan y n d K H Q c q u a b = absurd a
div_at_most p r k l P R (inf s) y n d K H Q c q u a b = absurd a
div_at_most p r k l P R (fin s m e) nan n d K H Q c q u a b = absurd b
div_at_most p r k l P R (fin s m e) (inf t) n d K H Q c q u a b = absurd b
div_at_most p r k l P R (fin s m e) (fin true j g) n d K H Q c q u a b = absurd b
div_at_most p r k l P R (fin s m e) (fin false j g) n d K H Q c q u a b =
    let z = not_zero j k l g K b in
    let J : 0 < j = omega (arith, z) in
    rw (ne_eqb j 0 z)
    (round_at_most P R binary64 _ _ _ n d (mul-pos (mul-pos J (up_pos g)) (down_pos e)) Q (quotient (m * up e) (down e) (j * up g) (down g) p r k l P R (mul-pos K H) a b c) q u)

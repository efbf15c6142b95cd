-- The bits of a root: those that are put together from a significand and an exponent, and their value. Assumes nothing.
use Prim.Native.Nat.{ℕ, zero, suc, ◌+◌, ◌-◌, ◌*◌, ◌%◌, ◌^◌, ◌≤◌, ◌<◌}
use mathlib.Core.Path.{◌≡◌, refl, sym, ap, subst, ◌∙◌}
use mathlib.Core.Logic.{◌⊎◌, inl, inr}
use mathlib.Core.Bool.{Bool, true, false, not}
use native.Mathlib.Nat.{mul-le-mul_right, mul-lt-mul_of_pos_right, eq-or-lt_of_le, mul_assoc, pow-succ'}
use native.Mathlib.Omega.{arith}
use lib.Dec.{T, leb}
use lib.Arith.{lt→nleb}
use lib.Pow.{pow_pos}
use lib.Ieee.{Float, nan, inf, fin, binary64, of_bits, to_bits, is_nan, nan_bits, fits}
use lib.Ieee.Bits.{is_false, of_bits-fits, nan_bits_is}
use lib.Ieee.Exact.{HasValue}
use lib.Ieee.Positive.{num, den, positive, value→cross}
use Rattle.numbers.specs.Bits.{field, significand, exponent}
use Rattle.numbers.proofs.BitLaws.{significand_normal, exponent_is, bits_value, by_bits}
use Rattle.arcs.specs.RootSteps.{Even, WholeRoot}
use Rattle.arcs.specs.Root.{NearestRoot, CorrectRoot}
use Rattle.arcs.proofs.RootNearest.{at_least, at_most, nearest}
use Rattle.arcs.proofs.RootLaws.{doubled}

pub no_nan : (x : Float) (s : Bool) (a c : ℕ) → HasValue x s a c → T (not (is_nan x))
unfolding is_nan
no_nan nan s a c h = h
no_nan (inf t) s a c h = absurd h
no_nan (fin t m e) s a c h = tt

pub positive_no_nan : (x : Float) → T (positive x) → T (not (is_nan x))
unfolding is_nan
positive_no_nan nan h = h
positive_no_nan (inf t) h = absurd h
positive_no_nan (fin t m e) h = tt

-- a finite double above 0, as a number under the root
module _ (x : Float) (f : T (fits binary64 x)) (p : T (positive x)) where
  pub radicand : num x * (2 ^ 1074 * 2 ^ 1074) ≡ significand (to_bits binary64 x) * 2 ^ (exponent (to_bits binary64 x) + 1074) * den x
  radicand =
      let b = to_bits binary64 x in
      doubled (num x) (significand b) (exponent b) (den x) 1074 (value→cross x (significand b * 2 ^ exponent b) (2 ^ 1074) (by_bits x f p))

-- ---- the bits k * 2 ^ 52 + q, for a q of 53 digits or 2 ^ 53, are those of q * 2 ^ k times 2 ^ -1074

pub record Joined (k q b : ℕ) : Type 0 where
  pub finite : field b < 2047
  pub size : significand b * 2 ^ exponent b ≡ q * 2 ^ k
  pub plus : b < 2 ^ 63

joined_at : (k q b s e : ℕ) → field b < 2047 → b < 2 ^ 63 → significand b ≡ s → exponent b ≡ e → s * 2 ^ e ≡ q * 2 ^ k → Joined k q b
joined_at k q b s e f p es ee h = record { finite = f; size = rw (es, ee) h; plus = p }

joined_short : (k q b : ℕ) → b ≡ k * 2 ^ 52 + q → 2 ^ 52 ≤ q → q < 2 ^ 53 → k ≤ 1533 → Joined k q b
joined_short k q b e lo hi short =
    let rest : 2 ^ 52 + b % 2 ^ 52 ≡ q = omega arith in
    let at : field b ≡ k + 1 = omega arith in
    let place : field b - 1 ≡ k = omega arith in
    joined_at k q b q k (omega arith) (omega arith) (significand_normal b (omega arith) ∙ rest) (exponent_is b ∙ place) refl

joined_long : (k b : ℕ) → b ≡ k * 2 ^ 52 + 2 ^ 53 → k ≤ 1533 → Joined k (2 ^ 53) b
joined_long k b e short =
    let rest : 2 ^ 52 + b % 2 ^ 52 ≡ 2 ^ 52 = omega arith in
    let at : field b ≡ k + 2 = omega arith in
    let place : field b - 1 ≡ suc k = omega arith in
    joined_at k (2 ^ 53) b (2 ^ 52) (suc k) (omega arith) (omega arith) (significand_normal b (omega arith) ∙ rest) (exponent_is b ∙ place) (rw (pow-succ' 2 k) (sym (mul_assoc (2 ^ 52) 2 (2 ^ k))))

pub joined : (k q : ℕ) → 2 ^ 52 ≤ q → q ≤ 2 ^ 53 → k ≤ 1533 → Joined k q (k * 2 ^ 52 + q)
joined k q lo hi short = go (eq-or-lt_of_le hi)
  where
    go : (q ≡ 2 ^ 53) ⊎ (q < 2 ^ 53) → Joined k q (k * 2 ^ 52 + q)
    go (inl e) = subst (λ (z : ℕ). Joined k z (k * 2 ^ 52 + z)) (sym e) (joined_long k (k * 2 ^ 52 + 2 ^ 53) refl short)
    go (inr l) = joined_short k q (k * 2 ^ 52 + q) refl lo l short

pub joined_value : (k q b : ℕ) → Joined k q b → HasValue (of_bits binary64 b) false (q * 2 ^ k) (2 ^ 1074)
joined_value k q b j =
    subst (λ (a : ℕ). HasValue (of_bits binary64 b) false a (2 ^ 1074)) j.size
    (subst (λ (s : Bool). HasValue (of_bits binary64 b) s (significand b * 2 ^ exponent b) (2 ^ 1074)) (is_false (leb (2 ^ 63) b) (lt→nleb (2 ^ 63) b j.plus)) (bits_value b j.finite))

-- ---- the root of x, put together

correct : (x r : Float) → T (positive x) → T (fits binary64 r) → NearestRoot x r → CorrectRoot x r
correct nan r p f h = absurd p
correct (inf s) r p f h = absurd p
correct (fin true m e) r p f h = absurd p
correct (fin false zero e) r p f h = absurd p
correct (fin false (suc m) e) r p f h = record { double = f; value = h }

module _ (x : Float) (f : T (fits binary64 x)) (p : T (positive x)) (m k q : ℕ) (e : Even (significand (to_bits binary64 x)) (exponent (to_bits binary64 x) + 1074) m k) (w : WholeRoot (m * 2 ^ 52) q) where
  big : 2 ^ 52 * 2 ^ 52 ≤ m * 2 ^ 52
  big = mul-le-mul_right (2 ^ 52) e.low

  pub root_joined : Joined k q (k * 2 ^ 52 + q)
  root_joined = joined k q (at_least (m * 2 ^ 52) q (2 ^ 52) w big) (at_most (m * 2 ^ 52) q (2 ^ 53) w (mul-lt-mul_of_pos_right e.high (pow_pos 52))) e.short

  pub root_no_nan : T (not (nan_bits binary64 (k * 2 ^ 52 + q)))
  root_no_nan =
      let b = k * 2 ^ 52 + q in
      subst (λ (z : Bool). T (not z)) (sym (nan_bits_is binary64 b)) (no_nan (of_bits binary64 b) false (q * 2 ^ k) (2 ^ 1074) (joined_value k q b root_joined))

  pub root_found : CorrectRoot x (of_bits binary64 (k * 2 ^ 52 + q))
  root_found =
      let b = k * 2 ^ 52 + q in
      correct x (of_bits binary64 b) p (of_bits-fits binary64 b)
      (nearest x (of_bits binary64 b) (m * 2 ^ 52) q k (joined_value k q b root_joined) (radicand x f p ∙ ap (λ (z : ℕ). z * den x) e.same) big w)

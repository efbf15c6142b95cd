-- Horner's rule on doubles keeps near Horner's rule on fractions, for any list of coefficients. Its bound is the rule read on
-- `bounds`, which the kernel evaluates: for numbers with bounds of their own (`horner_bounded`), for constant coefficients
-- (`horner_const`). Where z is at most 1 it is also written out in the length (`horner_near`). Assumes nothing.
use Prim.Native.Nat.{ℕ, suc, ◌+◌, ◌*◌, ◌/◌, ◌^◌, ◌≤◌, ◌<◌}
use native.Mathlib.Nat.{le_trans, div-le_of_le-mul}
use native.Mathlib.Omega.{arith}
use mathlib.Core.List.{List, [], ◌∷◌, map, map-map, map-id}
use lib.Dec.{T}
use lib.ListN.{length}
use lib.Ieee.{Float, of_bits}
use Rattle.numbers.specs.Frac.{frac_of}
use Rattle.numbers.specs.Double.{zero64}
use Rattle.numbers.specs.Ops.{doubles, fractions}
use Rattle.numbers.specs.Horner.{horner}
use Rattle.numbers.specs.Near.{Near, S, add_bound, mul_bound, exactly, up_to}
use Rattle.numbers.proofs.NearLaws.{near_add, near_mul, near_self, near_weaken, rounds_by}
use Rattle.numbers.specs.Bound.{Small, AllSmall, bounds, const_bound}
use Rattle.numbers.proofs.BoundLaws.{Bounded, bounded, input, near_const}

-- ---- bounds by evaluation
pub horner_bounded : (cs : List Bounded) (z : Bounded) → T (horner bounds (map (λ c. c.bound) cs) z.bound).ok
    → Near (horner doubles (map (λ c. c.double) cs) z.double) (horner fractions (map (λ c. c.frac) cs) z.frac) (horner bounds (map (λ c. c.bound) cs) z.bound)
unfolding horner
horner_bounded [] z t = near_const zero64 t
horner_bounded (c ∷ []) z t = c.near t
horner_bounded (c ∷ d ∷ cs) z t =
    near_add _ _ _ _ c.bound _ c.near
    (near_mul _ _ _ _ z.bound _ z.near (horner_bounded (d ∷ cs) z))
    t

-- constant coefficients, each with its own size, at a z of at most m / S
pub horner_const : (cs : List Float) (z : Float) (m : ℕ) → Small m z → T (horner bounds (map const_bound cs) (exactly m)).ok
    → Near (horner doubles cs z) (horner fractions (map frac_of cs) (frac_of z)) (horner bounds (map const_bound cs) (exactly m))
horner_const cs z m h t = simp (map-map, map-id) at (horner_bounded (map bounded.of cs) (input m z h) (simp map-map t))

-- ---- Horner's rule over n coefficients of at most C / S, at a z of at most 1: the bound is n * (2 * 2 ^ i + 1) units where all n, with their errors, stay below 2 ^ (54 + i) units
module _ (C i : ℕ) (I : i ≤ 1000) (z : Float) (Z : Small S z) where
  times_one : (m e : ℕ) → (S * m / S ≤ m) × ((0 * m + e * S + 0 * e) / S ≤ e)
  times_one m e = (div-le_of_le-mul S (omega arith), div-le_of_le-mul S (omega arith))

  pub horner_near : (cs : List Float) → length cs * (C + 2 + 2 * 2 ^ i) < 2 ^ (54 + i) → AllSmall C cs
      → Near (horner doubles cs z) (horner fractions (map frac_of cs) (frac_of z)) (up_to (length cs * (C + 1)) (length cs * (2 * 2 ^ i + 1)))
  unfolding horner add_bound mul_bound of_bits
  horner_near [] room a = near_weaken zero64 (frac_of zero64) (exactly 0) _ _ (omega arith) (omega arith) (near_self zero64 0 tt (omega arith))
  horner_near (c ∷ []) room a = near_weaken c (frac_of c) (exactly C) _ _ (omega arith) (omega arith) (near_self c C a.0.0 a.0.1)
  horner_near (c ∷ d ∷ cs) room a =
      let P = 2 ^ i in
      let n = suc (length cs) in
      let m = n * (C + 1) in
      let e = n * (2 * P + 1) in
      let q = times_one m e in
      let r = rounds_by (S * m / S + 1) ((0 * m + e * S + 0 * e) / S + 1) i I (fits n C P (S * m / S) ((0 * m + e * S + 0 * e) / S) (2 ^ (54 + i)) room q.0 q.1) in
      let u = near_mul z _ (frac_of z) _ (exactly S) (up_to m e) (λ t. near_self z S Z.0 Z.1) (λ t. horner_near (d ∷ cs) (fewer n (C + 2 + 2 * P) (2 ^ (54 + i)) room) a.1) r.0 in
      let v = near_weaken _ _ _ (m + 1) (e + 1 + P) (more (S * m / S) m q.0) (le_trans r.1 (more' ((0 * m + e * S + 0 * e) / S) e P q.1)) u in
      let w = rounds_by (C + (m + 1)) (0 + (e + 1 + P)) i I (fits' n C P (2 ^ (54 + i)) room) in
      near_weaken _ _ _ (suc n * (C + 1)) (suc n * (2 * P + 1)) (omega arith) (le_trans w.1 (last n P))
      (near_add c _ (frac_of c) _ (exactly C) (up_to (m + 1) (e + 1 + P)) (λ t. near_self c C a.0.0 a.0.1) (λ t. v) w.0)
    where
      fits : (n C P x y B : ℕ) → suc n * (C + 2 + 2 * P) < B → x ≤ n * (C + 1) → y ≤ n * (2 * P + 1) → x + 1 + (y + 1) < B
      fits n C P x y B h k l = omega arith

      fits' : (n C P B : ℕ) → suc n * (C + 2 + 2 * P) < B → C + (n * (C + 1) + 1) + (0 + (n * (2 * P + 1) + 1 + P)) < B
      fits' n C P B h = omega arith

      fewer : (n W B : ℕ) → suc n * W < B → n * W < B
      fewer n W B h = omega arith

      more : (x m : ℕ) → x ≤ m → x + 1 ≤ m + 1
      more x m h = omega arith

      more' : (y e P : ℕ) → y ≤ e → y + 1 + P ≤ e + 1 + P
      more' y e P h = omega arith

      last : (n P : ℕ) → 0 + (n * (2 * P + 1) + 1 + P) + P ≤ suc n * (2 * P + 1)
      last n P = omega arith

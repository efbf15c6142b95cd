-- Where the arguments of the polynomials lie. b is at most 101/128 in magnitude and z at most 5/8 for every finite t without the sign bit: the count q puts a
-- between two odd multiples of E, 884279719003555 / 2 ^ 50, whose middle is q * H. v * v is at most 3/16 for every ratio u from 0 to 1. Assumes nothing.
use Prim.Native.Nat.{ℕ, ◌+◌, ◌-◌, ◌*◌, ◌%◌, ◌≤◌, ◌<◌}
use native.Mathlib.Nat.{mod-lt, mul-pos, le_refl, zero-mul}
use native.Mathlib.Omega.{arith}
use mathlib.Core.Path.{◌≡◌, refl, sym, subst}
use mathlib.Core.Bool.{Bool, true, false, cond, true≢false, false≢true}
use lib.IntN.{ℤ, pos, negsuc}
use lib.Dec.{T, ltb}
use lib.Ieee.{Float, nan, inf, fin, binary64, up, down, round, rem, sum, add, mul, div, lt, eq, of_int, of_bits}
use lib.Ieee.Fits.{up_pos, down_pos}
use borrow.Author.Tests.{lt-ltb, le-ltb, ltb-true, ltb-false, eq-eqb, ne_eqb}
use Rattle.numbers.specs.Double.{zero64, is_finite, negative}
use Rattle.arcs.specs.Arcs.{tau, half_pi, root_two_less, ratio, turns, far, less_turns, reduced, quarters, passed, from_turn}
use Rattle.arcs.specs.Figures.{folded}
use Rattle.arcs.proofs.FarRange.{far_range}
use Rattle.arcs.proofs.Magnitudes.{AtMostOf, round_at_most, of_round, sub_at_most, square_at_most, round_at_least, div_at_most}

module _ (m : ℕ) (e : ℤ) where
  -- whether the edge k * E lies below
  abbrev edge : ℕ → Bool
  edge k = ltb (k * down e) (m * up e * 1125899906842624)

  below : (k : ℕ) → edge k ≡ true → k * down e < m * up e * 1125899906842624
  below k h = ltb-true _ _ h

  above : (k : ℕ) → edge k ≡ false → m * up e * 1125899906842624 ≤ k * down e
  above k h = ltb-false _ _ h

  yes : (k : ℕ) → k * down e < m * up e * 1125899906842624 → edge k ≡ true
  yes k h = lt-ltb _ _ h

  no : (k : ℕ) → m * up e * 1125899906842624 ≤ k * down e → edge k ≡ false
  no k h = le-ltb _ _ h

  quarters_is : (a b c d : Bool) → edge 884279719003555 ≡ a → edge 2652839157010665 ≡ b → edge 4421398595017775 ≡ c → edge 6189958033024885 ≡ d
      → quarters (fin false m e) ≡ cond a 1 0 + cond b 1 0 + cond c 1 0 + cond d 1 0
  unfolding quarters passed lt mul of_bits
  quarters_is a b c d h1 h3 h5 h7 = rw (h1, h3, h5, h7)

  near_turn : (q n : ℕ) (d : ℤ) → quarters (fin false m e) ≡ q → mul binary64 (of_int binary64 (pos q)) half_pi ≡ fin false n d
      → (m * up e * down d - n * up d * down e) * 128 ≤ 101 * (down e * down d) → (n * up d * down e - m * up e * down d) * 128 ≤ 101 * (down e * down d) → AtMostOf 101 128 (from_turn (fin false m e))
  unfolding from_turn round
  near_turn q n d hq hk l k = rw (hq, hk) (sub_at_most 101 128 m n e d 101 (negsuc 6) (omega arith) l k refl (le_refl _))

  turn_small : m * up e * 1125899906842624 ≤ 7958517471031995 * down e → AtMostOf 101 128 (from_turn (fin false m e))
  unfolding mul of_int of_bits
  turn_small top = seven (edge 6189958033024885) refl
    where
      D : 0 < down e
      D = down_pos e

      one : (t : Bool) → edge 884279719003555 ≡ t → m * up e * 1125899906842624 ≤ 2652839157010665 * down e → AtMostOf 101 128 (from_turn (fin false m e))
      one true h l =
          let g = below 884279719003555 h in
          near_turn 1 884279719003555 (negsuc 48) (quarters_is true false false false h (no 2652839157010665 l) (no 4421398595017775 (omega arith)) (no 6189958033024885 (omega arith))) refl (omega arith) (omega arith)
      one false h l =
          let g = above 884279719003555 h in
          near_turn 0 0 (pos 0) (quarters_is false false false false h (no 2652839157010665 l) (no 4421398595017775 (omega arith)) (no 6189958033024885 (omega arith))) refl (omega arith) (omega arith)

      three : (t : Bool) → edge 2652839157010665 ≡ t → m * up e * 1125899906842624 ≤ 4421398595017775 * down e → AtMostOf 101 128 (from_turn (fin false m e))
      three true h l =
          let g = below 2652839157010665 h in
          near_turn 2 884279719003555 (negsuc 47) (quarters_is true true false false (yes 884279719003555 (omega arith)) h (no 4421398595017775 l) (no 6189958033024885 (omega arith))) refl (omega arith) (omega arith)
      three false h l = one (edge 884279719003555) refl (above 2652839157010665 h)

      five : (t : Bool) → edge 4421398595017775 ≡ t → m * up e * 1125899906842624 ≤ 6189958033024885 * down e → AtMostOf 101 128 (from_turn (fin false m e))
      five true h l =
          let g = below 4421398595017775 h in
          near_turn 3 2652839157010665 (negsuc 48) (quarters_is true true true false (yes 884279719003555 (omega arith)) (yes 2652839157010665 (omega arith)) h (no 6189958033024885 l)) refl (omega arith) (omega arith)
      five false h l = three (edge 2652839157010665) refl (above 4421398595017775 h)

      seven : (t : Bool) → edge 6189958033024885 ≡ t → AtMostOf 101 128 (from_turn (fin false m e))
      seven true h =
          let g = below 6189958033024885 h in
          near_turn 4 884279719003555 (negsuc 46) (quarters_is true true true true (yes 884279719003555 (omega arith)) (yes 2652839157010665 (omega arith)) (yes 4421398595017775 (omega arith)) h) refl (omega arith) (omega arith)
      seven false h = five (edge 4421398595017775) refl (above 6189958033024885 h)

-- T is 8E, and 7 is below 9E
within : (m : ℕ) (e : ℤ) → m * up e * 140737488355328 ≤ 884279719003555 * down e → m * up e * 1125899906842624 ≤ 7958517471031995 * down e
within m e h = omega arith

under_nine : (m : ℕ) (e : ℤ) → m * up e * 1 ≤ 7 * down e → m * up e * 1125899906842624 ≤ 7958517471031995 * down e
under_nine m e h = omega arith

-- a of a finite t without the sign bit is without it too, and at most 9E
pub of_reduced : (P : Float → Type 0) → ((m : ℕ) (e : ℤ) → m * up e * 1125899906842624 ≤ 7958517471031995 * down e → P (fin false m e)) → (t : Float) → is_finite t ≡ true → negative t ≡ false → P (reduced t)
unfolding reduced is_finite negative rem of_bits round
of_reduced P g nan h s = absurd (false≢true h)
of_reduced P g (inf u) h s = absurd (false≢true h)
of_reduced P g (fin true m e) h s = absurd (true≢false s)
of_reduced P g (fin false m e) h s = go (far (fin false m e)) refl
  where
    go : (b : Bool) → far (fin false m e) ≡ b → P (cond b (less_turns (fin false m e) (turns (fin false m e))) (rem binary64 (fin false m e) tau))
    go true f = far_range P (λ n d k. g n d (under_nine n d k)) (fin false m e) (subst T (sym f) tt)
    go false f =
        let x = m * up e * 140737488355328 % (884279719003555 * down e) in
        let D = down_pos e in
        let l : x < 884279719003555 * down e = mod-lt (m * up e * 140737488355328) (omega arith) in
        of_round 884279719003555 140737488355328 binary64 x (down e * 140737488355328) P (λ n d k. g n d (within n d k))
        (round_at_most 884279719003555 140737488355328 binary64 false x (down e * 140737488355328) 884279719003555 (negsuc 46) (omega arith) (omega arith) (omega arith) refl (le_refl _))

-- b
pub turn_at_most : (t : Float) → is_finite t ≡ true → negative t ≡ false → AtMostOf 101 128 (from_turn (reduced t))
turn_at_most = of_reduced (λ a. AtMostOf 101 128 (from_turn a)) turn_small

-- z
pub turn_square : (t : Float) → is_finite t ≡ true → negative t ≡ false → (let b = from_turn (reduced t) in AtMostOf 5 8 (mul binary64 b b))
unfolding round
turn_square t h s = square_at_most 101 128 5 8 _ 5 (negsuc 2) (omega arith) (omega arith) (omega arith) refl (le_refl _) (turn_at_most t h s)

-- ---- the arctangent's v: u itself up to √2 - 1, and (u - 1) / (u + 1) above
pub record SeriesSmall (u : Float) : Type 0 where
  pub up_to : lt root_two_less u ≡ false → AtMostOf 3 16 (mul binary64 u u)
  pub beyond : lt root_two_less u ≡ true → AtMostOf 3 16 (mul binary64 (folded u) (folded u))

fourteenth : (x : Float) → AtMostOf 55 128 x → AtMostOf 3 16 (mul binary64 x x)
unfolding round
fourteenth x h = square_at_most 55 128 3 16 x 3 (negsuc 3) (omega arith) (omega arith) (omega arith) refl (le_refl _) h

folded_small : (m : ℕ) (e : ℤ) → m * up e * 1 ≤ 1 * down e → 3730904090310553 * down e < m * up e * 9007199254740992 → AtMostOf 55 128 (folded (fin false m e))
unfolding of_bits round add sum
folded_small m e top low =
    let D = down_pos e in
    let n = sub_at_most 19 32 m 1 e (pos 0) 19 (negsuc 4) (omega arith) (omega arith) (omega arith) refl (le_refl _) in
    let a = round_at_most 2 1 binary64 false (m * up e * 1 + 1 * down e) (down e * 1) 1 (pos 1) (omega arith) (omega arith) (omega arith) refl (le_refl _) in
    let b = round_at_least 45 32 binary64 (m * up e * 1 + 1 * down e) (down e * 1) 45 (negsuc 4) 2 1 (omega arith) (omega arith) (omega arith) refl (le_refl _) a in
    div_at_most 19 32 45 32 55 128 _ _ 55 (negsuc 6) (omega arith) (omega arith) (omega arith) (omega arith) refl (le_refl _) n b

unit_small : (m : ℕ) (e : ℤ) → m * up e * 1 ≤ 1 * down e → SeriesSmall (fin false m e)
unfolding lt of_bits
unit_small m e top =
    record {
      up_to = λ h. let g : m * up e * 9007199254740992 ≤ 3730904090310553 * down e = ltb-false _ _ h in fourteenth (fin false m e) (omega arith);
      beyond = λ h. fourteenth _ (folded_small m e top (ltb-true _ _ h));
    }

-- of two magnitudes, the smaller over the larger
pub ratio_small : (m n : ℕ) (e d : ℤ) → m * up e * down d ≤ n * up d * down e → SeriesSmall (ratio (fin false m e) (fin false n d))
unfolding ratio of_bits eq div round
ratio_small m n e d l = go (eq (fin false n d) zero64) refl
  where
    zeros : n ≡ 0 → n * up d * 1 ≡ 0 * down d
    zeros z = rw (z, zero-mul (up d), zero-mul (down d))

    go : (t : Bool) → eq (fin false n d) zero64 ≡ t → SeriesSmall (cond t zero64 (div binary64 (fin false m e) (fin false n d)))
    go true h = unit_small 0 (pos 0) (omega arith)
    go false h =
        let z : n ≡ 0 → ⊥ = λ z. true≢false (rw (eq-eqb (n * up d * 1) (0 * down d) (zeros z)) at h) in
        let N : 0 < n = omega (arith, z) in
        rw (ne_eqb n 0 z)
        (of_round 1 1 binary64 (m * up e * down d) (n * up d * down e) SeriesSmall unit_small
        (round_at_most 1 1 binary64 false _ _ 1 (pos 0) (mul-pos (mul-pos N (up_pos d)) (down_pos e)) (omega arith) (omega arith) refl (le_refl _)))

-- What is left of an angle over 64 and up to 2 ^ 20 after its turns is without the sign bit and at most 7: what is left after k * T1 is at least k * T2, and rounding is monotone.
-- Assumes nothing.
use Prim.Native.Nat.{ℕ, ◌+◌, ◌-◌, ◌*◌, ◌^◌, ◌≤◌, ◌<◌}
use native.Mathlib.Nat.{le_of_lt, le-add_right, add-le-add, mul-add, add-mul, mul_left_comm, mul-le-mul_left, le_refl, le_trans, le_of_eq, lt_of_lt_of_le, lt_of_le_of_lt, lt_of_not-le, not-le_of_lt, mul_assoc, mul-one, mul_right_comm, mul-le-mul_right, mul-lt-mul_of_pos_right, sub-le, mul-pos, le_of_mul-le-mul_right}
use native.Mathlib.Omega.{arith}
use mathlib.Core.Path.{◌≡◌, refl, sym, ap, ◌∙◌, subst}
use mathlib.Core.Bool.{true, false}
use lib.IntN.{ℤ, pos}
use lib.Dec.{T, leb→le, ltb→lt}
use lib.Pow.{pow_pos}
use lib.Ieee.{Float, fin, binary64, up, down, round, sub, mul, le, of_int}
use lib.Ieee.Fits.{down_pos}
use lib.Ieee.Order.{round_mono}
use lib.Ieee.Positive.{num, den, den_pos, own_value}
use Rattle.arcs.specs.Arcs.{tau1, turns, far, less_turns}
use Rattle.arcs.specs.TurnSteps.{first_part, second_part, turn}
use Rattle.numbers.proofs.ValueOrder.{le_says}
use Rattle.arcs.proofs.Magnitudes.{round_at_most, of_round}
use Rattle.arcs.proofs.FarLaws.{far_between}
use Rattle.arcs.proofs.TurnLaws.{turns_in_fractions}
use Rattle.arcs.proofs.LeftLaws.{first_value, second_is}
use Rattle.arcs.proofs.Values.{sub_mul, sub_values}

-- of an angle n / d, with x = k * d for its k turns, in units of 2 ^ -84
pub parts : (x : ℕ) → x * turn ≡ x * first_part * 2 ^ 54 + x * second_part
parts x = mul-add x (first_part * 2 ^ 54) second_part ∙ ap (λ (z : ℕ). z + x * second_part) (sym (mul_assoc x first_part (2 ^ 54)))

all : (n : ℕ) → n * 2 ^ 84 ≡ n * 2 ^ 30 * 2 ^ 54
all n = sym (mul_assoc n (2 ^ 30) (2 ^ 54))

first_fits : (n x : ℕ) → x * turn ≤ n * 2 ^ 84 → x * first_part ≤ n * 2 ^ 30
first_fits n x h = le_of_mul-le-mul_right (le_trans (le-add_right (x * first_part * 2 ^ 54) (x * second_part)) (le_trans (le_of_eq (sym (parts x))) (le_trans h (le_of_eq (all n))))) (pow_pos 54)

second_fits : (n x : ℕ) → x * turn ≤ n * 2 ^ 84 → x * second_part * 2 ^ 30 ≤ (n * 2 ^ 30 - x * first_part) * 2 ^ 84
second_fits n x h = omega arith

less : (p q l r : ℕ) → p < q + l + r → p - q ≤ l + r
less p q l r h = omega arith

rest_over : (n d x : ℕ) → n * 2 ^ 84 < (x + d) * turn → (n * 2 ^ 30 - x * first_part) * 2 ^ 54 ≤ x * second_part + d * turn
rest_over n d x h =
    le_trans (le_of_eq (sub_mul (n * 2 ^ 30) (x * first_part) (2 ^ 54)))
    (less (n * 2 ^ 30 * 2 ^ 54) (x * first_part * 2 ^ 54) (x * second_part) (d * turn) (lt_of_le_of_lt (le_of_eq (sym (all n))) (lt_of_lt_of_le h (le_of_eq (add-mul x d turn ∙ ap (λ (z : ℕ). z + d * turn) (parts x))))))

lows : (d x : ℕ) → x ≤ 2 ^ 18 * d → x * second_part ≤ d * 2 ^ 71
lows d x h = omega arith

seven_turns : (d p : ℕ) → p ≤ d * 2 ^ 71 → p + d * turn ≤ 7 * (d * 2 ^ 30) * 2 ^ 54
seven_turns d p h =
    let closed : 2 ^ 71 + turn ≤ 7 * 2 ^ 84 = leb→le (2 ^ 71 + turn) (7 * 2 ^ 84) tt in
    let same : d * (7 * 2 ^ 84) ≡ 7 * (d * 2 ^ 30) * 2 ^ 54 = mul_left_comm d 7 (2 ^ 84) ∙ ap (λ (z : ℕ). 7 * z) (all d) ∙ sym (mul_assoc 7 (d * 2 ^ 30) (2 ^ 54)) in
    le_trans (add-le-add h (le_refl (d * turn))) (le_trans (le_of_eq (sym (mul-add d (2 ^ 71) turn))) (le_trans (mul-le-mul_left d closed) (le_of_eq same)))

seven_over : (n d x : ℕ) → n * 2 ^ 84 < (x + d) * turn → x ≤ 2 ^ 18 * d → (n * 2 ^ 30 - x * first_part) * 1 ≤ 7 * (d * 2 ^ 30)
seven_over n d x over small =
    le_trans (le_of_eq (mul-one (n * 2 ^ 30 - x * first_part))) (le_of_mul-le-mul_right (le_trans (rest_over n d x over) (seven_turns d (x * second_part) (lows d x small))) (pow_pos 54))

few : (k d n : ℕ) → 0 < d → k * d * turn ≤ n * 2 ^ 84 → n ≤ 2 ^ 20 * d → k < 2 ^ 18
few k d n D fit most =
    let closed : 2 ^ 104 < 2 ^ 18 * turn = ltb→lt (2 ^ 104) (2 ^ 18 * turn) tt in
    lt_of_not-le (λ (q : 2 ^ 18 ≤ k). not-le_of_lt (mul-lt-mul_of_pos_right closed D)
    (le_trans (le_of_eq (mul_right_comm (2 ^ 18) turn d)) (le_trans (mul-le-mul_right turn (mul-le-mul_right d q)) (le_trans fit (le_trans (mul-le-mul_right (2 ^ 84) most) (le_of_eq (mul_right_comm (2 ^ 20) d (2 ^ 84))))))))

pub few_turns : (t : Float) → T (far t) → turns t < 2 ^ 18
few_turns t h = few (turns t) (den t) (num t) (den_pos t) (turns_in_fractions t).fit (far_between t h).up_to

-- ---- the two differences
module _ (P : Float → Type 0) (g : (m : ℕ) (e : ℤ) → m * up e * 1 ≤ 7 * down e → P (fin false m e)) where
  -- of two numbers without a sign, the second not above the first, which is at most 7
  difference : (m n : ℕ) (e d : ℤ) → m * up e * 1 ≤ 7 * down e → T (le (fin false n d) (fin false m e)) → P (sub binary64 (fin false m e) (fin false n d))
  unfolding le round
  difference m n e d l h =
      let a = m * up e * down d in
      let b = n * up d * down e in
      let c = down e * down d in
      let B : b ≤ a = le_says b a true h in
      let C : 0 < c = mul-pos (down_pos e) (down_pos d) in
      let A : (a - b) * 1 ≤ 7 * c = le_trans (mul-le-mul_right 1 (sub-le a b)) (le_trans (le_of_eq (mul_right_comm (m * up e) (down d) 1)) (le_trans (mul-le-mul_right (down d) l) (le_of_eq (mul_assoc 7 (down e) (down d))))) in
      subst P (sym (sub_values (m * up e) (down e) (n * up d) (down d) (down_pos e) (down_pos d) (fin false m e) (fin false n d) (refl, refl) (refl, refl) B))
      (of_round 7 1 binary64 (a - b) c P g (round_at_most 7 1 binary64 false (a - b) c 7 (pos 0) C (pow_pos 0) A refl (le_refl _)))

  pub far_range : (t : Float) → T (far t) → P (less_turns t (turns t))
  unfolding less_turns round
  far_range t h =
      let at = far_between t h in
      let n = num t in
      let d = den t in
      let k = turns t in
      let x = k * d in
      let f = turns_in_fractions t in
      let small : k < 2 ^ 18 = few_turns t h in
      let most : x ≤ 2 ^ 18 * d = mul-le-mul_right d (le_of_lt small) in
      let y = n * 2 ^ 30 - k * first_part * d in
      let same : k * first_part * d ≡ x * first_part = mul_right_comm k first_part d in
      let left_is = sub_values n d (k * first_part) (2 ^ 30) (den_pos t) (pow_pos 30) t (mul binary64 (of_int binary64 (pos k)) tau1) (own_value t at.above) (first_value k small) (le_trans (le_of_eq same) (first_fits n x f.fit)) in
      let D : 0 < d * 2 ^ 30 = mul-pos (den_pos t) (pow_pos 30) in
      let Y : y * 1 ≤ 7 * (d * 2 ^ 30) = rw same (seven_over n d x f.over most) in
      let W : k * second_part * 1 ≤ 7 * 2 ^ 84 = omega (arith, small) in
      let order : k * second_part * (d * 2 ^ 30) ≤ y * 2 ^ 84 = le_trans (le_of_eq (sym (mul_assoc (k * second_part) d (2 ^ 30)) ∙ ap (λ (z : ℕ). z * 2 ^ 30) (mul_right_comm k second_part d))) (rw same (second_fits n x f.fit)) in
      rw (left_is, second_is k small)
      (of_round 7 1 binary64 (k * second_part) (2 ^ 84) (λ w. T (le w (round binary64 false y (d * 2 ^ 30))) → P (sub binary64 (round binary64 false y (d * 2 ^ 30)) w))
      (λ i p z. of_round 7 1 binary64 y (d * 2 ^ 30) (λ v. T (le (fin false i p) v) → P (sub binary64 v (fin false i p))) (λ j q u. difference j i q p u) (round_at_most 7 1 binary64 false y (d * 2 ^ 30) 7 (pos 0) D (pow_pos 0) Y refl (le_refl _)))
      (round_at_most 7 1 binary64 false (k * second_part) (2 ^ 84) 7 (pos 0) (pow_pos 84) (pow_pos 0) W refl (le_refl _))
      (round_mono binary64 (k * second_part) (2 ^ 84) y (d * 2 ^ 30) (pow_pos 84) D order))

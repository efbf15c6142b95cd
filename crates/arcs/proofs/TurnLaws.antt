-- The number of turns in an angle, by fractions (`turns_greatest`) and by whole numbers of units. Assumes nothing.
use Prim.Native.Nat.{ℕ, suc, ◌+◌, ◌*◌, ◌/◌, ◌^◌, ◌≤◌, ◌<◌}
use native.Mathlib.Nat.{le_refl, le_trans, le_of_eq, lt_of_lt_of_le, lt_of_le_of_lt, le_antisymm, le_of_suc-le-suc, mul_assoc, mul_right_comm, le_of_mul-le-mul_right, lt_of_mul-lt-mul_right, mul-pos, suc-mul, le-div_iff_mul-le, div-lt_iff_lt-mul, lt-suc_self}
use native.Mathlib.Omega.{arith}
use mathlib.Core.Path.{◌≡◌, refl, sym, ap, ◌∙◌}
use lib.Pow.{pow_pos}
use lib.Ieee.{Float, of_bits}
use lib.Ieee.Positive.{num, den, den_pos}
use Rattle.numbers.proofs.CloseLaws.{ring}
use Rattle.arcs.specs.Arcs.{turns, turn_num, turn_den}
use Rattle.arcs.specs.Turns.{Greatest}
use Rattle.arcs.specs.TurnSteps.{turn}

turn_num_lem : turn_num ≡ turn * 2 ^ 28
unfolding of_bits
turn_num_lem = refl

turn_den_lem : turn_den ≡ 2 ^ 112
unfolding of_bits
turn_den_lem = refl

turn_pos : 0 < turn
turn_pos = omega arith

one_turn : (t : Float) → 0 < turn_num * den t
one_turn t = rw turn_num_lem (mul-pos (mul-pos turn_pos (pow_pos 28)) (den_pos t))

quotient_fits : (n c : ℕ) → 0 < c → n / c * c ≤ n
quotient_fits n c C = (le-div_iff_mul-le C).0 (le_refl (n / c))

quotient_over : (n c : ℕ) → 0 < c → n < suc (n / c) * c
quotient_over n c C = (div-lt_iff_lt-mul C).0 (lt-suc_self (n / c))

pub turns_greatest : (t : Float) → Greatest t (turns t)
unfolding turns
turns_greatest t =
    let c = turn_num * den t in
    record {
      fitting = le_trans (le_of_eq (mul_assoc (turns t) turn_num (den t))) (quotient_fits (num t * turn_den) c (one_turn t));
      greatest = λ j h. (le-div_iff_mul-le (one_turn t)).1 (le_trans (le_of_eq (sym (mul_assoc j turn_num (den t)))) h);
    }

-- the same in units of 2 ^ -84, times den t
pub record InFractions (t : Float) (x : ℕ) : Type 0 where
  pub fit : x * turn ≤ num t * 2 ^ 84
  pub over : num t * 2 ^ 84 < (x + den t) * turn

pub turns_in_fractions : (t : Float) → InFractions t (turns t * den t)
unfolding turns
turns_in_fractions t =
    let n = num t in
    let d = den t in
    let k = turns t in
    let c = turn_num * d in
    let some : (j : ℕ) → j * c ≡ j * d * turn * 2 ^ 28 = λ j. ap (λ (x : ℕ). j * (x * d)) turn_num_lem ∙ simp ring in
    let all : n * turn_den ≡ n * 2 ^ 84 * 2 ^ 28 = ap (λ (x : ℕ). n * x) turn_den_lem ∙ sym (mul_assoc n (2 ^ 84) (2 ^ 28)) in
    record {
      fit = le_of_mul-le-mul_right (le_trans (le_of_eq (sym (some k))) (le_trans (quotient_fits (n * turn_den) c (one_turn t)) (le_of_eq all))) (pow_pos 28);
      over = lt_of_mul-lt-mul_right (2 ^ 28) (lt_of_le_of_lt (le_of_eq (sym all)) (lt_of_lt_of_le (quotient_over (n * turn_den) c (one_turn t)) (le_of_eq (some (suc k) ∙ ap (λ (x : ℕ). x * turn * 2 ^ 28) (suc-mul k d)))));
    }

-- ---- an angle of v units of 2 ^ -46, which are v * 2 ^ 38 of 2 ^ -84
module _ (t : Float) (v : ℕ) (e : num t * 2 ^ 46 ≡ v * den t) where
  all : num t * 2 ^ 84 ≡ v * 2 ^ 38 * den t
  all = sym (mul_assoc (num t) (2 ^ 46) (2 ^ 38)) ∙ ap (λ (x : ℕ). x * 2 ^ 38) e ∙ mul_right_comm v (den t) (2 ^ 38)

  pub turns_fit : turns t * turn ≤ v * 2 ^ 38
  turns_fit = le_of_mul-le-mul_right (le_trans (le_of_eq (mul_right_comm (turns t) turn (den t))) (le_trans (turns_in_fractions t).fit (le_of_eq all))) (den_pos t)

  pub turns_over : v * 2 ^ 38 < suc (turns t) * turn
  turns_over =
      lt_of_mul-lt-mul_right (den t)
      (lt_of_le_of_lt (le_of_eq (sym all)) (lt_of_lt_of_le (turns_in_fractions t).over (le_of_eq (ap (λ (x : ℕ). x * turn) (sym (suc-mul (turns t) (den t))) ∙ mul_right_comm (suc (turns t)) (den t) turn))))

  -- and no other number lies there
  pub turns_is : (k : ℕ) → k * turn ≤ v * 2 ^ 38 → v * 2 ^ 38 < suc k * turn → k ≡ turns t
  turns_is k fit over = le_antisymm (within k (turns t) fit turns_over) (within (turns t) k turns_fit over)
    where
      within : (i j : ℕ) → i * turn ≤ v * 2 ^ 38 → v * 2 ^ 38 < suc j * turn → i ≤ j
      within i j h l = le_of_suc-le-suc (lt_of_mul-lt-mul_right turn (lt_of_le_of_lt h l))

-- What is left of a finite double without the sign bit after its turns is without it too, and at most T (`reduced_in_turn`). Over 64 and up to 2 ^ 20 what is left after k * T1 is exact, the product
-- k * T2 is off by at most 2 ^ -67, and the largest number that rounds to T is farther from T1 + T2 than that. Assumes nothing.
use Prim.Native.Nat.{ℕ, suc, ◌+◌, ◌-◌, ◌*◌, ◌%◌, ◌^◌, ◌≤◌, ◌<◌}
use native.Mathlib.Nat.{le_refl, le_trans, le_of_eq, le_of_lt, le-add_right, lt_of_lt_of_le, lt_of_mul-lt-mul_right, add_assoc, add-le-add, mul_assoc, mul_comm, add-mul, mul_right_comm, mul-le-mul_right, mul-lt-mul_of_pos_right, le_of_mul-le-mul_right, suc-mul, mod-lt}
use native.Mathlib.Omega.{arith}
use mathlib.Core.Path.{◌≡◌, refl, sym, ap, ◌∙◌, subst}
use mathlib.Core.Bool.{Bool, true, false, cond, true≢false, false≢true}
use lib.IntN.{ℤ, pos}
use lib.Dec.{T, leb→le, ltb→lt}
use lib.Pow.{pow_pos}
use lib.Ieee.{Float, nan, inf, fin, binary64, up, down, round, rem, sub, mul, lt, le, eq, fits, of_int, of_bits}
use lib.Ieee.Bits.{is_true}
use lib.Ieee.Fits.{down_pos}
use lib.Ieee.Exact.{HasValue}
use lib.Ieee.Order.{round_mono}
use lib.Ieee.Positive.{num, den, value→cross}
use Rattle.numbers.specs.Double.{is_finite, negative}
use Rattle.numbers.proofs.Round.{round_moves}
use Rattle.arcs.specs.Arcs.{tau, tau1, tau2, turns, far, less_turns, reduced}
use Rattle.arcs.specs.Turns.{InTurn}
use Rattle.arcs.specs.TurnSteps.{first_part, second_part, turn}
use Rattle.arcs.proofs.FarLaws.{units46, far_value}
use Rattle.arcs.proofs.TurnLaws.{turns_fit, turns_over}
use Rattle.arcs.proofs.LeftLaws.{left_is, left_value, second_is}
use Rattle.arcs.proofs.FarRange.{parts, few_turns}
use Rattle.numbers.proofs.ValueOrder.{le_values}
use Rattle.arcs.proofs.Values.{rounded, rescaled, sub_level}

-- ---- a rounded number not above T
of_value : (x : Float) (a c : ℕ) → HasValue x false a c → T (le x tau) → InTurn x
unfolding is_finite negative
of_value nan a c v h = absurd v
of_value (inf s) a c v h = absurd v
of_value (fin true m e) a c v h = absurd (true≢false v.0)
of_value (fin false m e) a c v h = record { number = refl; plus = refl; most = is_true (le (fin false m e) tau) h }

no_infinity : T (le (inf false) tau) → InTurn (inf false)
unfolding le lt eq of_bits
no_infinity h = absurd h

-- T1 + T2 and 2 ^ -67 more is rounded to T
abbrev most : ℕ
most = turn + 2 ^ 17

round_in_turn : (a b : ℕ) → 0 < b → a * 2 ^ 84 ≤ most * b → InTurn (round binary64 false a b)
round_in_turn a b B h =
    rounded false a b (λ x. T (le x tau) → InTurn x) of_value no_infinity (subst (λ (x : Float). T (le (round binary64 false a b) x)) rounds (round_mono binary64 a b most (2 ^ 84) B (pow_pos 84) h))
  where
    rounds : round binary64 false most (2 ^ 84) ≡ tau
    rounds = unfold round in unfold of_bits in refl

-- ---- the remainder
remainder_most : (x d : ℕ) → x ≤ 884279719003555 * 1 * d → x * 2 ^ 84 ≤ most * (d * 140737488355328)
remainder_most x d h =
    let closed : 884279719003555 * 2 ^ 37 ≤ most = leb→le (884279719003555 * 2 ^ 37) most tt in
    let same : 884279719003555 * d * 2 ^ 84 ≡ 884279719003555 * 2 ^ 37 * (d * 2 ^ 47) =
    mul_right_comm 884279719003555 d (2 ^ 84) ∙ mul_assoc (884279719003555 * 2 ^ 37) (2 ^ 47) d ∙ ap (λ (z : ℕ). 884279719003555 * 2 ^ 37 * z) (mul_comm (2 ^ 47) d) in
    le_trans (mul-le-mul_right (2 ^ 84) h) (le_trans (le_of_eq same) (mul-le-mul_right (d * 2 ^ 47) closed))

remainder_in_turn : (m : ℕ) (e : ℤ) → InTurn (rem binary64 (fin false m e) tau)
unfolding rem of_bits
remainder_in_turn m e =
    let D = down_pos e in
    let x = m * up e * 140737488355328 % (884279719003555 * 1 * down e) in
    let l : x < 884279719003555 * 1 * down e = mod-lt (m * up e * 140737488355328) (omega (arith, D)) in
    round_in_turn x (down e * 140737488355328) (omega (arith, D)) (remainder_most x (down e) (le_of_lt l))

-- ---- over 64 and up to 2 ^ 20
-- what is left after k * T1, in units of 2 ^ -46, is j
less : (a b q r : ℕ) → a + b ≡ q → q < a + r → b < r
less a b q r e h = omega arith

more : (a b q r : ℕ) → a + b ≡ q → a + r ≤ q → r ≤ b
more a b q r e h = omega arith

pub record Left (k j : ℕ) : Type 0 where
  pub few : k < 2 ^ 18
  pub at_least : k * second_part ≤ j * 2 ^ 38
  pub at_most : j * 2 ^ 38 < k * second_part + turn
  pub short : j < 2 ^ 49

-- the last difference, in units of 2 ^ -1074, which U of make one of 2 ^ -84
difference_most : (p q g U E : ℕ) → p ≤ q + turn → q * U ≤ g + E → p * U - g ≤ turn * U + E
difference_most p q g U E h l =
    let a : p * U ≤ q * U + turn * U = le_trans (mul-le-mul_right U h) (le_of_eq (add-mul q turn U)) in
    sub_most (p * U) (q * U) (turn * U) g E a l
  where
    sub_most : (a b c g E : ℕ) → a ≤ b + c → b ≤ g + E → a - g ≤ c + E
    sub_most a b c g E h l = omega arith

module _ (t : Float) (f : T (fits binary64 t)) (h : T (far t)) where
  abbrev pub v : ℕ
  v = units46 t f h

  abbrev pub k : ℕ
  k = turns t

  abbrev pub j : ℕ
  j = v - k * first_part * 2 ^ 16

  cross : num t * 2 ^ 46 ≡ v * den t
  cross = value→cross t v (2 ^ 46) (far_value t f h)

  fit : k * turn ≤ v * 2 ^ 38
  fit = turns_fit t v cross

  over : v * 2 ^ 38 < suc k * turn
  over = turns_over t v cross

  same : k * first_part * 2 ^ 54 ≡ k * first_part * 2 ^ 16 * 2 ^ 38
  same = sym (mul_assoc (k * first_part) (2 ^ 16) (2 ^ 38))

  pub whole : k * first_part * 2 ^ 16 + j ≡ v
  whole = add_sub (le_of_mul-le-mul_right (le_trans (le_of_eq (sym same)) (le_trans (le-add_right (k * first_part * 2 ^ 54) (k * second_part)) (le_trans (le_of_eq (sym (parts k))) fit))) (pow_pos 38))
    where
      add_sub : {a b : ℕ} → a ≤ b → a + (b - a) ≡ b
      add_sub l = omega arith

  all : k * first_part * 2 ^ 54 + j * 2 ^ 38 ≡ v * 2 ^ 38
  all = ap (λ (x : ℕ). x + j * 2 ^ 38) same ∙ sym (add-mul (k * first_part * 2 ^ 16) j (2 ^ 38)) ∙ ap (λ (x : ℕ). x * 2 ^ 38) whole

  pub left_units : Left k j
  left_units =
      let few = few_turns t h in
      let a = less (k * first_part * 2 ^ 54) (j * 2 ^ 38) (v * 2 ^ 38) (k * second_part + turn) all (lt_of_lt_of_le over (le_of_eq (suc-mul k turn ∙ ap (λ (x : ℕ). x + turn) (parts k) ∙ add_assoc (k * first_part * 2 ^ 54) (k * second_part) turn))) in
      record {
        few = few;
        at_least = more (k * first_part * 2 ^ 54) (j * 2 ^ 38) (v * 2 ^ 38) (k * second_part) all (le_trans (le_of_eq (sym (parts k))) fit);
        at_most = a;
        short = lt_of_mul-lt-mul_right (2 ^ 38) (lt_of_lt_of_le a (le_trans (add-le-add (mul-le-mul_right second_part (le_of_lt few)) (le_refl turn)) (leb→le (2 ^ 18 * second_part + turn) (2 ^ 49 * 2 ^ 38) tt)));
      }

  -- a, in units of 2 ^ -1074, is rounded once more from j * 2 ^ 1028 - g, where g stands for k * T2, rounded once
  pub record Worked : Type 0 where
    pub g : ℕ
    pub under : g ≤ j * 2 ^ 1028
    pub upper : g ≤ k * second_part * 2 ^ 990 + 2 ^ 1007
    pub lower : k * second_part * 2 ^ 990 ≤ g + 2 ^ 1007
    pub is : less_turns t k ≡ round binary64 false (j * 2 ^ 1028 - g) (2 ^ 1074)

  pub worked : Worked
  unfolding less_turns
  worked =
      let u = left_units in
      let n = of_int binary64 (pos k) in
      let w = mul binary64 n tau2 in
      let left = sub binary64 t (mul binary64 n tau1) in
      let is = left_is k u.few t v (far_value t f h) j whole in
      let value = left_value k u.few t v (far_value t f h) j whole (lt_of_lt_of_le u.short (leb→le (2 ^ 49) (2 ^ 53) tt)) in
      let second = second_is k u.few in
      let small : k * second_part * 2 ^ 1074 < 2 ^ 1061 * 2 ^ 84 = mul-lt-mul_of_pos_right (lt_of_lt_of_le (mul-lt-mul_of_pos_right u.few (ltb→lt 0 second_part tt)) (leb→le (2 ^ 18 * second_part) (2 ^ 71) tt)) (pow_pos 1074) in
      let moved = round_moves binary64 false (k * second_part) (2 ^ 84) 1007 (pow_pos 84) small (leb→le 1062 2098 tt) in
      let g = moved.0 in
      let G : HasValue w false g (2 ^ 1074) = subst (λ (x : Float). HasValue x false g (2 ^ 1074)) (sym second) moved.1 in
      let order : T (le w left) = rw (second, is) (round_mono binary64 (k * second_part) (2 ^ 84) j (2 ^ 46) (pow_pos 84) (pow_pos 46) (le_trans (mul-le-mul_right (2 ^ 46) u.at_least) (le_of_eq (mul_assoc j (2 ^ 38) (2 ^ 46))))) in
      let under : g ≤ j * 2 ^ 1028 = le_of_mul-le-mul_right (le_trans (le_values g (2 ^ 1074) j (2 ^ 46) (pow_pos 1074) (pow_pos 46) w left G value order) (le_of_eq (sym (mul_assoc j (2 ^ 1028) (2 ^ 46))))) (pow_pos 46) in
      let fine : HasValue left false (j * 2 ^ 1028) (2 ^ 1074) = rescaled left false j (2 ^ 46) (j * 2 ^ 1028) (2 ^ 1074) (pow_pos 46) (mul_assoc j (2 ^ 1028) (2 ^ 46)) value in
      let product : k * second_part * 2 ^ 990 * 2 ^ 84 ≡ k * second_part * 2 ^ 1074 = mul_assoc (k * second_part) (2 ^ 990) (2 ^ 84) in
      record {
        g = g;
        under = under;
        upper = le_of_mul-le-mul_right (le_trans moved.2 (le_of_eq (over_84 (k * second_part * 2 ^ 990) (k * second_part * 2 ^ 1074) product))) (pow_pos 84);
        lower = le_of_mul-le-mul_right (le_trans (le_of_eq product) (le_trans moved.3 (le_of_eq (over_84 g (g * 2 ^ 84) refl)))) (pow_pos 84);
        is = sub_level (j * 2 ^ 1028) g (2 ^ 1074) left w (pow_pos 1074) fine G under;
      }
    where
      over_84 : (x y : ℕ) → x * 2 ^ 84 ≡ y → y + 2 ^ 84 * 2 ^ 1007 ≡ (x + 2 ^ 1007) * 2 ^ 84
      over_84 x y e = ap (λ (z : ℕ). z + 2 ^ 84 * 2 ^ 1007) (sym e) ∙ ap (λ (z : ℕ). x * 2 ^ 84 + z) (mul_comm (2 ^ 84) (2 ^ 1007)) ∙ sym (add-mul x (2 ^ 1007) (2 ^ 84))

  less_in_turn : InTurn (less_turns t k)
  less_in_turn =
      let u = left_units in
      let w = worked in
      subst InTurn (sym w.is)
      (round_in_turn (j * 2 ^ 1028 - w.g) (2 ^ 1074) (pow_pos 1074) (mul-le-mul_right (2 ^ 84) (le_trans (le_of_eq (ap (λ (x : ℕ). x - w.g) (sym (mul_assoc j (2 ^ 38) (2 ^ 990))))) (difference_most (j * 2 ^ 38) (k * second_part) w.g (2 ^ 990) (2 ^ 1007) (le_of_lt u.at_most) w.lower))))

pub reduced_in_turn : (t : Float) → T (fits binary64 t) → is_finite t ≡ true → negative t ≡ false → InTurn (reduced t)
unfolding reduced is_finite negative
reduced_in_turn nan f h s = absurd (false≢true h)
reduced_in_turn (inf u) f h s = absurd (false≢true h)
reduced_in_turn (fin true m e) f h s = absurd (true≢false s)
reduced_in_turn (fin false m e) f h s = go (far (fin false m e)) refl
  where
    go : (b : Bool) → far (fin false m e) ≡ b → InTurn (cond b (less_turns (fin false m e) (turns (fin false m e))) (rem binary64 (fin false m e) tau))
    go true r = less_in_turn (fin false m e) f (subst T (sym r) tt)
    go false r = remainder_in_turn m e

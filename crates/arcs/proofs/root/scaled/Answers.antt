-- `arcs::root::scaled` meets its contract. n has z leading zeros in a word, at least 11, so s = z - 11 more zeros make it a number of 53 digits; one place more makes what is left of the exponent
-- even. Assumes nothing.
use Prim.Native.Nat.{ℕ, suc, ◌+◌, ◌-◌, ◌*◌, ◌%◌, ◌^◌, ◌≤◌, ◌<◌}
use mathlib.Core.Path.{◌≡◌, sym, ap, ◌∙◌}
use native.Mathlib.Nat.{le_trans, le_of_eq, lt_of_lt_of_le, lt_of_le_of_lt, lt_of_not-le, not-le_of_lt, mul_assoc, mul-le-mul_left, mul-le-mul_right, mul-lt-mul_of_pos_right, mod-eq_of_lt}
use native.Mathlib.Omega.{arith}
use lib.Pow.{pow_pos, pow_mono, pow-add}
use lib.Count.{count_leading_zeros, leading_top}
use Rattle.arcs.specs.RootSteps.{Even}
use Rattle.arcs.proofs.root.scaled.Goals as goal

-- n, with z leading zeros in a word, has 53 digits once z - 11 zeros are added
record Zeros (n z : ℕ) : Type 0 where
  least : 11 ≤ z
  most : z ≤ 63
  low : 2 ^ 52 ≤ n * 2 ^ (z - 11)
  high : n * 2 ^ (z - 11) < 2 ^ 53

zeros_at : (n z j : ℕ) → n < 2 ^ 53 → z + suc j ≡ 64 → 2 ^ j ≤ n → n < 2 ^ suc j → Zeros n z
zeros_at n z j h e lo hi =
    let top : j < 53 = lt_of_not-le (λ (g : 53 ≤ j). not-le_of_lt (lt_of_le_of_lt lo h) (pow_mono g)) in
    let up_to : j + (z - 11) ≡ 52 = omega arith in
    let past : suc j + (z - 11) ≡ 53 = omega arith in
    let to_52 : 2 ^ j * 2 ^ (z - 11) ≡ 2 ^ 52 = sym (pow-add 2 j (z - 11)) ∙ ap (λ (x : ℕ). 2 ^ x) up_to in
    let to_53 : 2 ^ suc j * 2 ^ (z - 11) ≡ 2 ^ 53 = sym (pow-add 2 (suc j) (z - 11)) ∙ ap (λ (x : ℕ). 2 ^ x) past in
    record {
      least = omega arith;
      most = omega arith;
      low = le_trans (le_of_eq (sym to_52)) (mul-le-mul_right (2 ^ (z - 11)) lo);
      high = lt_of_lt_of_le (mul-lt-mul_of_pos_right hi (pow_pos (z - 11))) (le_of_eq to_53);
    }

zeros : (n : ℕ) → 0 < n → n < 2 ^ 53 → Zeros n (count_leading_zeros 64 n)
zeros n p h =
    let t = leading_top 64 n p (lt_of_lt_of_le h (pow_mono {i = 53} {j = 64} (omega arith))) in
    zeros_at n (count_leading_zeros 64 n) t.0 h t.1 t.2 t.3

-- d zeros more, 0 or 1
even : (n e s d k : ℕ) → 2 ^ 52 ≤ n * 2 ^ s → n * 2 ^ s < 2 ^ 53 → d ≤ 1 → s + d + (52 + (k + k)) ≡ e → k ≤ 1533 → Even n e (n * 2 ^ (s + d) % 2 ^ 64) k
even n e s d k lo hi one sum short =
    let apart : n * 2 ^ (s + d) ≡ n * 2 ^ s * 2 ^ d = rw (pow-add 2 s d) (sym (mul_assoc n (2 ^ s) (2 ^ d))) in
    let double : n * 2 ^ s * 2 ^ d ≤ n * 2 ^ s * 2 ^ 1 = mul-le-mul_left (n * 2 ^ s) (pow_mono one) in
    let single : n * 2 ^ s * 1 ≤ n * 2 ^ s * 2 ^ d = mul-le-mul_left (n * 2 ^ s) (pow_pos d) in
    let high : n * 2 ^ (s + d) < 2 ^ 54 = omega arith in
    let low : 2 ^ 52 ≤ n * 2 ^ (s + d) = omega arith in
    let same : n * 2 ^ e ≡ n * 2 ^ (s + d) * 2 ^ 52 * (2 ^ k * 2 ^ k) =
    ap (λ (x : ℕ). n * 2 ^ x) (sym sum) ∙ rw (pow-add 2 (s + d) (52 + (k + k)), pow-add 2 52 (k + k), pow-add 2 k k) (sym (mul_assoc n (2 ^ (s + d)) (2 ^ 52 * (2 ^ k * 2 ^ k))) ∙ sym (mul_assoc (n * 2 ^ (s + d)) (2 ^ 52) (2 ^ k * 2 ^ k))) in
    rw (mod-eq_of_lt {n = n * 2 ^ (s + d)} {m = 2 ^ 64} (omega arith)) (record { same = same; low = low; high = high; short = short })

module _ (c : goal.Start) where
  at : Zeros c.args.n (count_leading_zeros 64 c.args.n)
  at = zeros c.args.n c.requires.0 c.requires.1

pub overflow_sub-s : goal.overflow_sub-s
overflow_sub-s c = omega (arith, at c)

pub returns : goal.returns
returns c = even c.args.n (c.args.e + 1074) (count_leading_zeros 64 c.args.n - 11) ((c.args.e + 1074 - (count_leading_zeros 64 c.args.n - 11)) % 2) _ (at c).low (at c).high (omega arith) (omega (arith, at c)) (omega (arith, at c))

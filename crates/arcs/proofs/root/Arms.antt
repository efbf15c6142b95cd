-- The four arms of `root`: what its comparisons say of x, a double. Assumes nothing.
use Prim.Native.Nat.{ℕ, zero, suc, ◌*◌, ◌<◌}
use mathlib.Core.Path.{◌≡◌, refl, sym, ap, subst, ◌∙◌}
use mathlib.Core.Bool.{Bool, true, false, ◌&&◌, ◌||◌, beq, true≢false}
use native.Mathlib.Nat.{zero-lt-suc, zero-mul, mul-pos, lt_irrefl}
use lib.IntN.{ℤ, pos}
use lib.Dec.{T, ltb, eqb, ltb→lt, lt→ltb, eqb→eq}
use lib.Ieee.{Float, nan, inf, fin, binary64, up, down, lt, eq, level, div, fits, of_bits}
use lib.Ieee.Bits.{is_true}
use lib.Ieee.Fits.{up_pos, and_i, and_l, eq→eqb, nan-fits, inf-fits}
use lib.Ieee.Positive.{positive, first_pos}
use Rattle.arcs.specs.Root.{CorrectRoot}

-- +0, +infinity and the NaN as the code writes them
abbrev plus_zero : Float
plus_zero = fin false 0 (pos 0)

pub is_zero : of_bits binary64 0 ≡ plus_zero
unfolding of_bits
is_zero = refl

pub is_infinity : div binary64 (of_bits binary64 0x3FF0_0000_0000_0000) (of_bits binary64 0) ≡ inf false
unfolding div of_bits
is_infinity = refl

pub is_nan : div binary64 (of_bits binary64 0) (of_bits binary64 0) ≡ nan
unfolding div of_bits
is_nan = refl

size_pos : (m : ℕ) (e : ℤ) → 0 < suc m * up e * 1
size_pos m e = mul-pos (mul-pos (zero-lt-suc m) (up_pos e)) (zero-lt-suc 0)

no_zero : (a b : ℕ) → 0 < a → a ≡ 0 * 1 * b → ⊥
no_zero a b h e = lt_irrefl 0 (subst (λ (z : ℕ). 0 < z) (e ∙ zero-mul b) h)

of_true : (b : Bool) → b ≡ true → T b
of_true b e = subst T (sym e) tt

or_right : (a b : Bool) → T b → T (a || b)
or_right true b t = tt
or_right false b t = t

zeros_level : (s : Bool) (a b : ℕ) → a ≡ 0 → b ≡ 0 → T (level s a false b)
zeros_level s a b h k = and_i (eqb a b) (beq s false || eqb a 0) (eq→eqb (h ∙ sym k)) (or_right (beq s false) (eqb a 0) (eq→eqb h))

pub positive_arm : (x : Float) → lt plus_zero x ≡ true → eq x (inf false) ≡ false → T (positive x)
unfolding lt eq
positive_arm nan h k = absurd (true≢false (sym h))
positive_arm (inf true) h k = absurd (true≢false (sym h))
positive_arm (inf false) h k = absurd (true≢false k)
positive_arm (fin true m e) h k = absurd (true≢false (sym h))
positive_arm (fin false m e) h k = lt→ltb 0 m (first_pos m (up e) (first_pos (m * up e) 1 (subst (λ (z : ℕ). z < m * up e * 1) (zero-mul (down e)) (ltb→lt (0 * 1 * down e) (m * up e * 1) (of_true (ltb (0 * 1 * down e) (m * up e * 1)) h)))))

pub infinity_arm : (x : Float) → eq x (inf false) ≡ true → CorrectRoot x x
unfolding eq
infinity_arm nan h = absurd (true≢false (sym h))
infinity_arm (inf true) h = absurd (true≢false (sym h))
infinity_arm (inf false) h = record { double = inf-fits binary64 false; value = refl }
infinity_arm (fin s m e) h = absurd (true≢false (sym h))

pub zero_arm : (x : Float) → T (fits binary64 x) → eq x plus_zero ≡ true → CorrectRoot x x
unfolding eq
zero_arm nan f h = absurd (true≢false (sym h))
zero_arm (inf s) f h = absurd (true≢false (sym h))
zero_arm (fin s zero e) f h = record { double = f; value = refl }
zero_arm (fin s (suc m) e) f h =
    let a = suc m * up e * 1 in
    let b = 0 * 1 * down e in
    let other = beq s false || eqb a 0 in
    absurd (no_zero a (down e) (size_pos m e) (eqb→eq a b (and_l (eqb a b) other (of_true (eqb a b && other) h))))

pub nan_arm : (x : Float) → lt plus_zero x ≡ false → eq x plus_zero ≡ false → CorrectRoot x nan
unfolding lt eq
nan_arm nan h k = record { double = nan-fits binary64; value = refl }
nan_arm (inf true) h k = record { double = nan-fits binary64; value = refl }
nan_arm (inf false) h k = absurd (true≢false h)
nan_arm (fin s zero e) h k = absurd (true≢false (sym (is_true (level s (0 * up e * 1) false (0 * 1 * down e)) (zeros_level s (0 * up e * 1) (0 * 1 * down e) (ap (λ (z : ℕ). z * 1) (zero-mul (up e))) (zero-mul (down e)))) ∙ k))
nan_arm (fin true (suc m) e) h k = record { double = nan-fits binary64; value = refl }
nan_arm (fin false (suc m) e) h k =
    let less : 0 * 1 * down e < suc m * up e * 1 = subst (λ (z : ℕ). z < suc m * up e * 1) (sym (zero-mul (down e))) (size_pos m e) in
    absurd (true≢false (sym (is_true (ltb (0 * 1 * down e) (suc m * up e * 1)) (lt→ltb (0 * 1 * down e) (suc m * up e * 1) less)) ∙ h))

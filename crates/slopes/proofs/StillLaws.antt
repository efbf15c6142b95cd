-- A row that stays as an unknown moves has the slope +0: a finite double less itself is +0, which over a step that is not negative is +0; what is not finite counts as 0. Assumes
-- nothing.
use mathlib.Core.Path.{◌≡◌, refl, sym, ap, ◌∙◌}
use mathlib.Core.Bool.{Bool, true, false, not, ◌&&◌, cond}
use Prim.Native.Nat.{ℕ, zero, suc, ◌+◌, ◌-◌, ◌*◌, ◌^◌, ◌<◌}
use native.Mathlib.Omega.{arith}
use native.Mathlib.Nat.{zero-mul, mul-pos, zero-lt-suc}
use borrow.Author.Tests.{le-ltb, ne_eqb}
use lib.Dec.{ltb, eqb}
use lib.Ieee.{Float, nan, inf, fin, Format, binary64, up, down, prec, emax, low, units, odd, round, sum, add, sub, neg, mul, div, lt, eq, is_nan, of_bits}
use lib.Ieee.Fits.{round_is, up_pos, down_pos}
use lib.Ieee.Scale.{round_same}
use Rattle.numbers.specs.Double.{zero64, one64, negative, is_finite, abs, fmax}
use Rattle.least_squares.specs.Lm.{step_of, slope_of}

-- ---- nothing is rounded to +0

round_nothing : (a c : ℕ) → 0 < c → a ≡ 0 → round binary64 false a c ≡ zero64
round_nothing a c h e = round_same binary64 false a c 0 1 h (omega arith) (rw e (sym (zero-mul c))) ∙ (unfold round of_bits in refl)

still_sum : (s : Bool) (a c : ℕ) → 0 < c → sum binary64 s a (not s) a c ≡ zero64
unfolding sum
still_sum false a c h = rw (le-ltb a a (omega arith)) (round_nothing (a - a) c h (omega arith))
still_sum true a c h = rw (le-ltb a a (omega arith)) (round_nothing (a - a) c h (omega arith))

-- ---- a double that is not negative

odd_sign : (d : ℕ) (s : Bool) (q k l : ℕ) → negative (odd d s q k l) ≡ s
unfolding odd negative
odd_sign d s zero k l = refl
odd_sign d s (suc q) k l = refl

sign_cond : (b s : Bool) (x y : Float) → negative x ≡ s → negative y ≡ s → negative (cond b x y) ≡ s
sign_cond true s x y h k = h
sign_cond false s x y h k = k

units_sign : (f : Format) (s : Bool) (q k : ℕ) → negative (units f s q k) ≡ s
unfolding units negative
units_sign f s q k = sign_cond (ltb (q * 2 ^ k) (2 ^ (low f + suc (emax f)))) s (odd (suc (prec f)) s q k (low f)) (inf s) (odd_sign (suc (prec f)) s q k (low f)) refl

round_sign : (f : Format) (s : Bool) (a c : ℕ) → negative (round f s a c) ≡ s
round_sign f s a c = rw (round_is f s a c) (units_sign f s _ _)

mul_sign : (f : Format) (x y : Float) → negative x ≡ false → negative y ≡ false → negative (mul f x y) ≡ false
unfolding mul negative
mul_sign f nan y h k = refl
mul_sign f (inf s) nan h k = refl
mul_sign f (inf false) (inf false) h k = refl
mul_sign f (inf true) (inf t) h k = absurd (let z : ◌≡◌ {A = ℕ} 0 1 = cc in omega arith)
mul_sign f (inf false) (inf true) h k = absurd (let z : ◌≡◌ {A = ℕ} 0 1 = cc in omega arith)
mul_sign f (inf true) (fin t n d) h k = absurd (let z : ◌≡◌ {A = ℕ} 0 1 = cc in omega arith)
mul_sign f (inf false) (fin false n d) h k = sign_cond (eqb n 0) false nan (inf false) refl refl
mul_sign f (inf false) (fin true n d) h k = absurd (let z : ◌≡◌ {A = ℕ} 0 1 = cc in omega arith)
mul_sign f (fin s m e) nan h k = refl
mul_sign f (fin true m e) (inf t) h k = absurd (let z : ◌≡◌ {A = ℕ} 0 1 = cc in omega arith)
mul_sign f (fin false m e) (inf false) h k = sign_cond (eqb m 0) false nan (inf false) refl refl
mul_sign f (fin false m e) (inf true) h k = absurd (let z : ◌≡◌ {A = ℕ} 0 1 = cc in omega arith)
mul_sign f (fin true m e) (fin t n d) h k = absurd (let z : ◌≡◌ {A = ℕ} 0 1 = cc in omega arith)
mul_sign f (fin false m e) (fin true n d) h k = absurd (let z : ◌≡◌ {A = ℕ} 0 1 = cc in omega arith)
mul_sign f (fin false m e) (fin false n d) h k = round_sign f false (m * up e * (n * up d)) (down e * down d)

abs_sign : (x : Float) → negative (abs x) ≡ false
unfolding abs negative
abs_sign nan = refl
abs_sign (inf s) = refl
abs_sign (fin s m e) = refl

one_sign : negative one64 ≡ false
unfolding negative of_bits
one_sign = refl

max_sign : (x y : Float) → negative x ≡ false → negative y ≡ false → negative (fmax x y) ≡ false
unfolding fmax
max_sign x y h k =
    sign_cond (is_nan x) false y _ k
    (sign_cond (is_nan y) false x _ h (sign_cond (eq x zero64 && eq y zero64) false zero64 _ (unfold negative of_bits in refl) (sign_cond (lt x y) false y x k h)))

pub step_sign : (x : Float) → negative (step_of x) ≡ false
unfolding step_of
step_sign x = mul_sign binary64 (of_bits binary64 0x3E7A_D7F2_9ABC_AF48) (fmax (abs x) one64) (unfold negative of_bits in refl) (max_sign (abs x) one64 (abs_sign x) one_sign)

-- ---- the slope

-- +0, or what counts as 0
counted : Float → Float
counted d = cond (is_finite d) d zero64

nothing_over : (h : Float) → negative h ≡ false → counted (div binary64 zero64 h) ≡ zero64
unfolding counted div negative is_finite of_bits
nothing_over nan k = refl
nothing_over (inf false) k = refl
nothing_over (inf true) k = absurd (let z : ◌≡◌ {A = ℕ} 0 1 = cc in omega arith)
nothing_over (fin true n d) k = absurd (let z : ◌≡◌ {A = ℕ} 0 1 = cc in omega arith)
nothing_over (fin false zero d) k = refl
nothing_over (fin false (suc n) d) k =
    rw (ne_eqb (suc n) 0 (λ e. absurd (omega arith)))
    (ap counted (round_nothing (0 * 1 * down d) (suc n * up d * 1) (mul-pos (mul-pos (zero-lt-suc n) (up_pos d)) (omega arith)) (rw (zero-mul 1) (zero-mul (down d)))))

still_any : (v g : Float) → negative g ≡ false → counted (div binary64 (sub binary64 v v) g) ≡ zero64
unfolding counted sub add neg div is_finite
still_any nan g k = refl
still_any (inf true) g k = refl
still_any (inf false) g k = refl
still_any (fin s m e) g k = ap (λ (w : Float). counted (div binary64 w g)) (still_sum s (m * up e * down e) (down e * down e) (mul-pos (down_pos e) (down_pos e))) ∙ nothing_over g k

pub still_over : (v h : Float) → negative h ≡ false → slope_of v v h ≡ zero64
unfolding counted
still_over v h k =
    still_any v (mul binary64 (of_bits binary64 0x4000_0000_0000_0000) h) (mul_sign binary64 (of_bits binary64 0x4000_0000_0000_0000) h (unfold negative of_bits in refl) k)

-- a step is never negative
pub slope_still : (v x : Float) → slope_of v v (step_of x) ≡ zero64
slope_still v x = still_over v (step_of x) (step_sign x)

-- Laws of the definitions in Double.antt: what the comparisons of a double with itself and with zero say, a sign read from the bits, and `fmax` of numbers in order. Assumes nothing.
use mathlib.Core.Path.{◌≡◌, refl, sym, ap, ◌∙◌}
use mathlib.Core.Bool.{Bool, true, false, not, ◌&&◌, ◌||◌, beq, cond}
use Prim.Native.Nat.{ℕ, zero, suc, ◌+◌, ◌-◌, ◌*◌, ◌/◌, ◌%◌, ◌^◌}
use native.Mathlib.Omega.{arith}
use native.Mathlib.Nat.{zero-mul}
use lib.IntN.{ℤ}
use lib.Dec.{ltb, leb, eqb, eqb_refl, eqb→eq}
use lib.Ieee.{Float, nan, inf, fin, Format, binary64, up, down, prec, emax, low, units, odd, round, sum, below, sub, add, neg, lt, eq, ne, is_nan, fits, hid, ones, top, of_fields, of_bits, to_bits}
use lib.Ieee.Bits.{is_true, of_bits-to_bits}
use lib.Ieee.Fits.{and_l, round_is}
use borrow.Author.Tests.{le-ltb, ltb-true}
use Rattle.numbers.specs.Double.{zero64, negative, is_finite, abs, fmax, before}

-- ---- a double compared with itself
pub eq_self : (x : Float) → eq x x ≡ not (is_nan x)
unfolding eq is_nan
eq_self nan = refl
eq_self (inf true) = refl
eq_self (inf false) = refl
eq_self (fin true m e) = rw (is_true (eqb (m * up e * down e) (m * up e * down e)) (eqb_refl (m * up e * down e)))
eq_self (fin false m e) = rw (is_true (eqb (m * up e * down e) (m * up e * down e)) (eqb_refl (m * up e * down e)))

not_not : (b : Bool) → not (not b) ≡ b
not_not true = refl
not_not false = refl

pub ne_self : (x : Float) → ne x x ≡ is_nan x
unfolding ne
ne_self x = ap not (eq_self x) ∙ not_not (is_nan x)

pub nan_only : (x : Float) → is_nan x ≡ true → x ≡ nan
unfolding is_nan
nan_only nan h = refl
nan_only (inf s) h = cc
nan_only (fin s m e) h = cc

-- ---- an infinity less itself is a NaN, and a number less itself is none
odd_number : (d : ℕ) (s : Bool) (q k l : ℕ) → is_nan (odd d s q k l) ≡ false
unfolding odd is_nan
odd_number d s zero k l = refl
odd_number d s (suc q) k l = refl

cond_number : (t : Bool) (x y : Float) → is_nan x ≡ false → is_nan y ≡ false → is_nan (cond t x y) ≡ false
cond_number true x y h k = h
cond_number false x y h k = k

units_number : (f : Format) (s : Bool) (q k : ℕ) → is_nan (units f s q k) ≡ false
unfolding units is_nan
units_number f s q k = cond_number (ltb (q * 2 ^ k) (2 ^ (low f + suc (emax f)))) (odd (suc (prec f)) s q k (low f)) (inf s) (odd_number (suc (prec f)) s q k (low f)) refl

pub round_number : (f : Format) (s : Bool) (n d : ℕ) → is_nan (round f s n d) ≡ false
round_number f s n d = rw (round_is f s n d, units_number)

pub sum_number : (f : Format) (s : Bool) (a : ℕ) (t : Bool) (b c : ℕ) → is_nan (sum f s a t b c) ≡ false
unfolding sum
sum_number f s a t b c =
    cond_number (beq s t) (round f s (a + b) c) (cond (ltb a b) (round f t (b - a) c) (round f (s && ltb b a) (a - b) c)) (round_number f s (a + b) c)
    (cond_number (ltb a b) (round f t (b - a) c) (round f (s && ltb b a) (a - b) c) (round_number f t (b - a) c) (round_number f (s && ltb b a) (a - b) c))

pub sub_self : (x : Float) → is_nan (sub binary64 x x) ≡ not (is_finite x)
unfolding sub add neg is_nan is_finite
sub_self nan = refl
sub_self (inf true) = refl
sub_self (inf false) = refl
sub_self (fin true m e) = sum_number binary64 true (m * up e * down e) false (m * up e * down e) (down e * down e)
sub_self (fin false m e) = sum_number binary64 false (m * up e * down e) true (m * up e * down e) (down e * down e)

pub finite_by_itself : (x : Float) → eq (sub binary64 x x) (sub binary64 x x) ≡ is_finite x
finite_by_itself x = eq_self (sub binary64 x x) ∙ ap not (sub_self x) ∙ not_not (is_finite x)

-- ---- the sign is the highest bit
odd_sign : (d : ℕ) (s : Bool) (q k l : ℕ) → negative (odd d s q k l) ≡ s
unfolding odd negative
odd_sign d s zero k l = refl
odd_sign d s (suc q) k l = refl

pick_sign : (s a b : Bool) (v : Float) → negative v ≡ s → is_nan (cond a (cond b (inf s) nan) v) ≡ false → negative (cond a (cond b (inf s) nan) v) ≡ s
unfolding is_nan negative
pick_sign s true true v e h = refl
pick_sign s true false v e h = cc
pick_sign s false b v e h = e

fields_sign : (f : Format) (s : Bool) (x t : ℕ) → is_nan (of_fields f s x t) ≡ false → negative (of_fields f s x t) ≡ s
unfolding of_fields
fields_sign f s zero t h = odd_sign (prec f) s t 0 (low f)
fields_sign f s (suc x) t h = pick_sign s (eqb (suc x) (ones f)) (eqb t 0) (odd (prec f) s (hid f + t) x (low f)) (odd_sign (prec f) s (hid f + t) x (low f)) h

bits_sign : (f : Format) (n : ℕ) → is_nan (of_bits f n) ≡ false → negative (of_bits f n) ≡ leb (top f) n
unfolding of_bits
bits_sign f n h = fields_sign f (leb (top f) n) (n % top f / hid f) (n % hid f) h

pub negative_bits : (x : Float) → fits binary64 x ≡ true → is_nan x ≡ false → leb 0x8000_0000_0000_0000 (to_bits binary64 x) ≡ negative x
negative_bits x h k = let e = of_bits-to_bits binary64 x (rw h tt) in sym (bits_sign binary64 (to_bits binary64 x) (ap is_nan e ∙ k)) ∙ ap negative e

pub negative_nan : (x : Float) → is_nan x ≡ true → negative x ≡ false
unfolding negative is_nan
negative_nan nan h = refl
negative_nan (inf s) h = cc
negative_nan (fin s m e) h = cc

-- ---- the magnitude, by the sign
pub abs_negative : (x : Float) → negative x ≡ true → abs x ≡ neg x
unfolding abs neg negative
abs_negative nan h = refl
abs_negative (inf true) h = refl
abs_negative (inf false) h = cc
abs_negative (fin true m e) h = refl
abs_negative (fin false m e) h = cc

pub abs_positive : (x : Float) → negative x ≡ false → abs x ≡ x
unfolding abs negative
abs_positive nan h = refl
abs_positive (inf false) h = refl
abs_positive (inf true) h = cc
abs_positive (fin false m e) h = refl
abs_positive (fin true m e) h = cc

-- ---- numbers that are in order, or equal, are no NaN
pub lt_numbers : (x y : Float) → lt x y ≡ true → (is_nan x ≡ false) × (is_nan y ≡ false)
unfolding lt is_nan
lt_numbers nan y h = (cc, cc)
lt_numbers (inf s) nan h = (refl, cc)
lt_numbers (inf s) (inf t) h = (refl, refl)
lt_numbers (inf s) (fin t n d) h = (refl, refl)
lt_numbers (fin s m e) nan h = (refl, cc)
lt_numbers (fin s m e) (inf t) h = (refl, refl)
lt_numbers (fin s m e) (fin t n d) h = (refl, refl)

pub eq_numbers : (x y : Float) → eq x y ≡ true → (is_nan x ≡ false) × (is_nan y ≡ false)
unfolding eq is_nan
eq_numbers nan y h = (cc, cc)
eq_numbers (inf s) nan h = (refl, cc)
eq_numbers (inf s) (inf t) h = (refl, refl)
eq_numbers (inf s) (fin t n d) h = (refl, refl)
eq_numbers (fin s m e) nan h = (refl, cc)
eq_numbers (fin s m e) (inf t) h = (refl, refl)
eq_numbers (fin s m e) (fin t n d) h = (refl, refl)

-- ---- the larger of two numbers
pub zero_value : (s : Bool) (m : ℕ) (e : ℤ) → eq (fin s m e) zero64 ≡ true → m * up e ≡ 0
unfolding eq of_bits
zero_value s m e h = omega (arith, eqb→eq (m * up e * 1) (0 * 1 * down e) (and_l (eqb (m * up e * 1) (0 * 1 * down e)) (beq s false || eqb (m * up e * 1) 0) (rw h tt)))

below_zeros : (s t : Bool) (a b : ℕ) → a ≡ 0 → b ≡ 0 → below s a t b ≡ false
below_zeros true true a b p q = rw (p, q)
below_zeros true false a b p q = rw (p, q)
below_zeros false true a b p q = refl
below_zeros false false a b p q = rw (p, q)

and-false : (a : Bool) → (a && false) ≡ false
and-false true = refl
and-false false = refl

not_both : (a b : Bool) → (a ≡ true → b ≡ true → true ≡ false) → (a && b) ≡ false
not_both true true h = h refl refl
not_both true false h = refl
not_both false b h = refl

-- of two numbers in order not both are zero
lt_zeros : (x y : Float) → lt x y ≡ true → (eq x zero64 && eq y zero64) ≡ false
unfolding lt of_bits
lt_zeros nan y h = cc
lt_zeros (inf s) y h = unfold eq in refl
lt_zeros (fin s m e) nan h = cc
lt_zeros (fin s m e) (inf t) h = unfold eq in and-false (eq (fin s m e) zero64)
lt_zeros (fin s m e) (fin t n d) h =
    not_both (eq (fin s m e) zero64) (eq (fin t n d) zero64)
    (λ a b. sym h ∙ below_zeros s t (m * up e * down d) (n * up d * down e) (rw (zero_value s m e a) (zero-mul (down d))) (rw (zero_value t n d b) (zero-mul (down e))))

pub fmax_less : (x y : Float) → lt x y ≡ true → fmax x y ≡ y
unfolding fmax
fmax_less x y h = rw ((lt_numbers x y h).0, (lt_numbers x y h).1, lt_zeros x y h, h)

below_asym : (s : Bool) (a : ℕ) (t : Bool) (b : ℕ) → below t b s a ≡ true → below s a t b ≡ false
below_asym true a true b h = le-ltb b a (omega (arith, ltb-true a b h))
below_asym true a false b h = cc
below_asym false a true b h = refl
below_asym false a false b h = le-ltb a b (omega (arith, ltb-true b a h))

and_not : (s t : Bool) → (t && not s) ≡ true → (s && not t) ≡ false
and_not true true h = refl
and_not true false h = cc
and_not false t h = refl

pub lt_asym : (x y : Float) → lt y x ≡ true → lt x y ≡ false
unfolding lt
lt_asym nan y h = refl
lt_asym (inf s) nan h = refl
lt_asym (inf s) (inf t) h = and_not s t h
lt_asym (inf true) (fin t n d) h = cc
lt_asym (inf false) (fin t n d) h = refl
lt_asym (fin s m e) nan h = refl
lt_asym (fin s m e) (inf true) h = refl
lt_asym (fin s m e) (inf false) h = cc
lt_asym (fin s m e) (fin t n d) h = below_asym s (m * up e * down d) t (n * up d * down e) h

and_comm : (a b : Bool) → (a && b) ≡ (b && a)
and_comm true true = refl
and_comm true false = refl
and_comm false true = refl
and_comm false false = refl

pub fmax_more : (x y : Float) → lt y x ≡ true → fmax x y ≡ x
unfolding fmax
fmax_more x y h = rw ((lt_numbers y x h).1, (lt_numbers y x h).0, and_comm (eq x zero64) (eq y zero64), lt_zeros y x h, lt_asym x y h)

-- ---- the order of `total_cmp`
pub before_less : (a b : Float) → lt a b ≡ true → before a b ≡ true
unfolding before
before_less a b h = rw ((lt_numbers a b h).0, (lt_numbers a b h).1, h)

pub before_level : (a b : Float) → lt a b ≡ false → eq a b ≡ true → before a b ≡ (negative a && not (negative b))
unfolding before
before_level a b h k = rw ((eq_numbers a b k).0, (eq_numbers a b k).1, h, k)

or-false : (a : Bool) → (a || false) ≡ a
or-false true = refl
or-false false = refl

pub before_apart : (a b : Float) → lt a b ≡ false → eq a b ≡ false → before a b ≡ (not (is_nan a) && is_nan b)
unfolding before
before_apart a b h k = rw (h, k, or-false)

-- The doubles whose roots cases.rt compares, by their bits, in order, and the count of what was compared. Definitions only.
use Rattle.std.specs.Prelude.{ℕ, zero, suc, ◌+◌, ◌-◌, ◌*◌, ◌/◌, ◌%◌, ◌^◌, Bool, false, cond, ◌==◌, bit_and, bit_or, bit_xor, from_bits, nat_lt, Float}
use Rattle.std.specs.Float.{binary64}
use Rattle.std.specs.Float.Ieee.{div, neg, eq, ne}
use Rattle.numbers.specs.Double.{zero64, one64}
use Rattle.arcs.specs.Root.{root}
use Rattle.roots.specs.Second.{second_root}
use Rattle.roots.specs.declared.cases.Tally.{Tally}

-- A step of Marsaglia's generator with the shifts 13, 7 and 17.
unfoldable pub seed_after : ℕ → ℕ
seed_after n =
    let a = bit_xor n (n * 2 ^ 13 % 2 ^ 64) in
    let b = bit_xor a (a / 2 ^ 7) in
    bit_xor b (b * 2 ^ 17 % 2 ^ 64)

abbrev pub next : Tally → Tally
next t = record { seed = seed_after t.seed; compared = t.compared; different = t.different }

-- One more was compared, and differed or not. A count goes on at 0 after 2^64 - 1.
abbrev pub count : Tally → Bool → Tally
count t same =
    record {
      seed = t.seed;
      compared = (t.compared + 1) % 2 ^ 64;
      different = cond same t.different ((t.different + 1) % 2 ^ 64);
    }

-- one number with one sign, or two NaNs
unfoldable pub same : Float → Float → Bool
same a b =
    cond (eq a b) (eq (div binary64 one64 a) (div binary64 one64 b)) (cond (ne a a) (ne b b) false)

-- the root of x, both ways
unfoldable pub compare : Tally → Float → Tally
compare t x = count t (same (root x) (second_root x))

-- the root of the double with the bits b; a NaN's bits are passed over
unfoldable pub compare_bits : Tally → ℕ → Tally
compare_bits t b = cond (nat_lt 0x7FF0_0000_0000_0000 (b % 2 ^ 63)) t (compare t (from_bits binary64 b))

-- the bits b and their neighbours
unfoldable pub compare_around : Tally → ℕ → Tally
compare_around t b =
    compare_bits (compare_bits (compare_bits t ((b + (2 ^ 64 - 1)) % 2 ^ 64)) b) ((b + 1) % 2 ^ 64)

-- the bits of a positive double: its field and its digits, cut to their places
abbrev pub put : ℕ → ℕ → ℕ
put field digits = field % 2047 * 2 ^ 52 + digits % 2 ^ 52

-- f 0, f 1, .. and f (n - 1), in turn
unfoldable pub in_turn : ℕ → (ℕ → Tally → Tally) → Tally → Tally
in_turn zero f t = t
in_turn (suc n) f t = f n (in_turn n f t)

-- ---- every exponent
unfoldable pub ends : Tally → ℕ → Tally
ends t field =
    compare_around (compare_around (compare_around t (put field 1)) (put field (2 ^ 51))) (put field (2 ^ 52 - 2))

unfoldable pub one_random : ℕ → Tally → Tally
one_random field t = compare_bits (next t) (put field (seed_after t.seed))

unfoldable pub one_exponent : ℕ → Tally → Tally
one_exponent field t = in_turn 24 (λ k u. one_random field u) (ends t field)

abbrev pub exponents : Tally → Tally
exponents t = in_turn 2047 one_exponent t

-- ---- the smallest and the largest subnormals, and random ones of every length
unfoldable pub one_subnormal : ℕ → Tally → Tally
one_subnormal k t =
    let u = next (compare_bits (compare_bits t (put 0 k)) (put 0 (2 ^ 52 - 1 - k))) in
    compare_bits u (u.seed % 2 ^ 52 / 2 ^ (k % 52))

abbrev pub subnormals : Tally → Tally
subnormals t = in_turn 4096 one_subnormal t

-- ---- squares of whole numbers of 26 digits, times a power of 4
unfoldable pub one_square : Tally → ℕ → ℕ → Tally
one_square t c field =
    let d = 2 ^ 25 + c % 2 ^ 25 in
    let n = d * d in
    cond (nat_lt n (2 ^ 51)) (compare_around t (put (field % 1023 * 2 + 1) (n * 4)))
    (compare_around t (put (field % 1023 * 2) (n * 2)))

abbrev pub squares : Tally → Tally
squares t = in_turn 8192 (λ k u. one_square (next u) (seed_after u.seed / 4096) k) t

-- ---- nearest to halfway between two doubles
-- c * c by halves of c's 52 digits: its last 52 digits, and (c * c + more) / 2^52
unfoldable pub square_low : ℕ → ℕ
square_low c =
    let a = c / 2 ^ 26 % 2 ^ 26 in
    let b = c % 2 ^ 26 in
    (a * b * 2 % 2 ^ 26 * 2 ^ 26 + b * b) % 2 ^ 52

unfoldable pub square_high : ℕ → ℕ → ℕ
square_high c more =
    let a = c / 2 ^ 26 % 2 ^ 26 in
    let b = c % 2 ^ 26 in
    let d = a * b * 2 in
    a * a + d / 2 ^ 26 + (d % 2 ^ 26 * 2 ^ 26 + b * b + more) / 2 ^ 52

-- the digit i of a c with c * c + c + s a multiple of 2^52, and those below
unfoldable pub digit : ℕ → ℕ → ℕ → ℕ
digit s i c =
    cond (bit_and ((square_low c + c % 2 ^ 52 + s % 2 ^ 52) / 2 ^ i) 1 == 1) (bit_or c (1 * 2 ^ i % 2 ^ 64)) c

unfoldable pub digits : ℕ → ℕ → ℕ → ℕ
digits s last zero = last % 2
digits s last (suc i) = digit s (suc i) (digits s last i)

unfoldable pub lifted : ℕ → ℕ → ℕ
lifted s last = digits s last 51 % 2 ^ 52

unfoldable pub one_halfway : ℕ → ℕ → ℕ → Tally → Tally
one_halfway s last less t =
    let c = lifted s last in
    let m = 2 ^ 52 + 1 - less % 2 + c * 2 + square_high c (c + s % 2 ^ 52) in
    cond (nat_lt m (2 ^ 53)) (compare_around t (put 1023 m))
    (cond (m % 2 == 0) (compare_around t (put 1024 (m / 2))) t)

unfoldable pub four_halfways : ℕ → Tally → Tally
four_halfways k t =
    one_halfway (2 ^ 52 - 2 - k * 2) 1 1 (one_halfway (2 ^ 52 - 2 - k * 2) 0 1
    (one_halfway (k * 2) 1 0 (one_halfway (k * 2) 0 0 t)))

abbrev pub halfways : Tally → Tally
halfways t = in_turn 2048 four_halfways t

-- ---- random bits, of either sign
abbrev pub randoms : Tally → Tally
randoms t = in_turn 32768 (λ k u. compare_bits (next u) (seed_after u.seed)) t

-- ---- the zeros, the infinities, a NaN, the least and the largest doubles, and negative numbers
unfoldable pub specials : Tally → Tally
specials t =
    let a = compare_bits (compare_bits t 0) 0x8000_0000_0000_0000 in
    let b = compare_bits (compare_bits a 0x7FF0_0000_0000_0000) 0xFFF0_0000_0000_0000 in
    let c = compare (compare b (div binary64 zero64 zero64)) (neg one64) in
    let d = compare_bits (compare_bits c 1) 0x8000_0000_0000_0001 in
    compare_bits (compare_bits d 0x7FEF_FFFF_FFFF_FFFF) 0xFFEF_FFFF_FFFF_FFFF

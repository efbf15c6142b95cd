-- Words of eight bytes as whole numbers: a word is 0 exactly where its eight bytes are, and words joined by `|` have the highest bit exactly where one of them has. Assumes
-- nothing.
use mathlib.Core.Path.{◌≡◌, sym}
use mathlib.Core.Bool.{Bool, ◌&&◌, and-true, and-false, and_assoc}
use mathlib.Core.List.{List}
use Prim.Native.Nat.{ℕ, zero, suc, ◌+◌, ◌*◌, ◌^◌, ◌<◌}
use native.Mathlib.Nat.{add_assoc, add-suc, add-zero, zero-mul, suc-mul}
use native.Mathlib.Numerals.{add-one}
use native.Mathlib.Omega.{arith}
use lib.Dec.{eqb, eqb-suc-zero}
use lib.Bits.{bit_or, or_lt, or_add_and, and_le_l, and_le_r}
use borrow.Author.Tests.{ltb-true, lt-ltb, ne_eqb}
use Rattle.records.specs.Record.{byte_at, u64_at, zero_bytes}
use Rattle.format.specs.Words.{Tells, below_sign}
use Rattle.format.proofs.RefusalLaws.{same, and_left, and_right, and_both}

-- ---- zeros

-- one byte more
pub zero_bytes_more : (s : List ℕ) (o i : ℕ) (z : Bool) → z ≡ zero_bytes s o i → z && eqb (byte_at s (o + i)) 0 ≡ zero_bytes s o (i + 1)
unfolding zero_bytes
zero_bytes_more s o i z h = rw (add-one i, h)

-- two runs side by side
pub runs_join : (s : List ℕ) (o i n : ℕ) → zero_bytes s o (i + n) ≡ zero_bytes s o i && zero_bytes s (o + i) n
unfolding zero_bytes
runs_join s o i zero = rw (add-zero i) (sym (and-true (zero_bytes s o i)))
runs_join s o i (suc n) =
    rw (add-suc i n, runs_join s o i n, add_assoc o i n) (and_assoc (zero_bytes s o i) (zero_bytes s (o + i) n) (eqb (byte_at s (o + (i + n))) 0))

-- a byte at any place of a word
both_zero : (a b w : ℕ) → 0 < w → eqb (a + b * w) 0 ≡ eqb a 0 && eqb b 0
both_zero a zero w p = rw (zero-mul w, add-zero a) (sym (and-true (eqb a 0)))
both_zero a (suc b) w p = rw (eqb-suc-zero b, and-false (eqb a 0)) (ne_eqb (a + suc b * w) 0 (λ q. omega (arith, suc-mul b w)))

pub word_zero : (s : List ℕ) (p : ℕ) → eqb (u64_at s p) 0 ≡ zero_bytes s p 8
unfolding zero_bytes
word_zero s p =
    rw (
      both_zero _ (byte_at s (p + 7)) 0x100_0000_0000_0000 (omega arith),
      both_zero _ (byte_at s (p + 6)) 0x1_0000_0000_0000 (omega arith),
      both_zero _ (byte_at s (p + 5)) 0x100_0000_0000 (omega arith),
      both_zero _ (byte_at s (p + 4)) 0x1_0000_0000 (omega arith),
      both_zero _ (byte_at s (p + 3)) 0x100_0000 (omega arith),
      both_zero _ (byte_at s (p + 2)) 0x1_0000 (omega arith),
      both_zero _ (byte_at s (p + 1)) 0x100 (omega arith),
      add-zero p,
    )

-- one word more
pub zero_words_more : (s : List ℕ) (o i : ℕ) (z : Bool) → z ≡ zero_bytes s o (8 * i) → z && eqb (u64_at s (o + 8 * i)) 0 ≡ zero_bytes s o (8 * (i + 1))
zero_words_more s o i z h = let e : 8 * (i + 1) ≡ 8 * i + 8 = omega arith in rw (e, runs_join s o (8 * i) 8, h, word_zero s (o + 8 * i))

-- ---- limits

or_below : (a b : ℕ) → below_sign (bit_or a b) ≡ below_sign a && below_sign b
or_below a b =
    same (below_sign (bit_or a b)) (below_sign a && below_sign b)
    (λ h.
    let l = ltb-true (bit_or a b) (2 ^ 63) h in
    and_both (below_sign a) (below_sign b) (lt-ltb a (2 ^ 63) (omega (arith, l, or_add_and a b, and_le_r a b))) (lt-ltb b (2 ^ 63) (omega (arith, l, or_add_and a b, and_le_l a b))))
    (λ h. lt-ltb (bit_or a b) (2 ^ 63) (or_lt 63 a b (ltb-true a (2 ^ 63) (and_left (below_sign a) (below_sign b) h)) (ltb-true b (2 ^ 63) (and_right (below_sign a) (below_sign b) h))))

-- joined, two words tell what each of them tells
pub both : {a b : ℕ} {p q : Bool} → Tells a p → Tells b q → Tells (bit_or a b) (p && q)
both {a} {b} h k = record { told = rw (or_below a b, h.told, k.told) }

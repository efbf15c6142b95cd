-- Words of 64 bits for doubles, and what a word tells of doubles and their limits. Words joined by `|` tell of all
-- their doubles. Definitions only; the limits stand in records' Limits.antt.
use Rattle.std.specs.Prelude.{ℕ, ◌+◌, ◌-◌, ◌%◌, ◌^◌, ◌≡◌, Bool, List, ltb}
use Rattle.std.specs.Int.Bits.{bit_or}
use Rattle.records.specs.Record.{u64_at}

-- the highest bit, where a double has its sign, is 0
abbrev pub below_sign : ℕ → Bool
below_sign w = ltb w 0x8000_0000_0000_0000

-- w tells of some doubles: its highest bit is 0 exactly where all of them are within their limits; the other bits are
-- open
pub record Tells (w : ℕ) (within : Bool) : Type 0 where
  pub told : below_sign w ≡ within

-- for the double at o and a limit by its bits: the double's bits without the sign, and what the limit leaves below the
-- sign
unfoldable pub double_word : ℕ → List ℕ → ℕ → ℕ
double_word limit s o = u64_at s o % 2 ^ 63 + (2 ^ 63 - 1 - limit)

-- for the three doubles at o
unfoldable pub vec_word : ℕ → List ℕ → ℕ → ℕ
vec_word limit s o = bit_or (double_word limit s o) (bit_or (double_word limit s (o + 8)) (double_word limit s (o + 16)))

-- w is this word, and tells of its doubles
pub record IsWord (w word : ℕ) (within : Bool) : Type 0 where
  pub bits : w ≡ word
  pub tells : Tells w within

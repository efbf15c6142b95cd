-- A double is within a limit where its bits without the sign are at most the limit's: doubles without a sign are in the
-- order of their bits (`le_bits`). Added to what the limit leaves below 2 ^ 63 they stay below the sign exactly there.
-- Assumes nothing.
use mathlib.Core.Path.{◌≡◌, sym, ◌∙◌}
use Prim.Native.Nat.{ℕ, ◌+◌, ◌-◌, ◌%◌, ◌^◌, ◌<◌}
use native.Mathlib.Omega.{arith}
use lib.Dec.{leb, ltb}
use lib.Ieee.{binary64, of_bits}
use borrow.Author.Tests.{ltb-true, leb-true, le-leb, lt-ltb}
use Rattle.numbers.proofs.BitOrder.{abs_bits, le_bits}
use Rattle.records.specs.Limits.{within}
use Rattle.format.specs.Words.{Tells}
use Rattle.format.proofs.RefusalLaws.{same}

-- the limit by its bits, and the bits of any double
pub within_bits : (limit n : ℕ) → limit < 0x7FF0_0000_0000_0000
    → within (of_bits binary64 limit) (of_bits binary64 n) ≡ leb (n % 2 ^ 63) limit
unfolding within
within_bits limit n h = rw (abs_bits n) (le_bits (n % 2 ^ 63) limit (omega arith) h)

-- the sum that reaches the sign where the double is over the limit
sum_below : (a limit : ℕ) → limit < 2 ^ 63 → ltb (a + (0x7FFF_FFFF_FFFF_FFFF - limit)) (2 ^ 63) ≡ leb a limit
sum_below a limit h =
    same (ltb (a + (0x7FFF_FFFF_FFFF_FFFF - limit)) (2 ^ 63)) (leb a limit)
    (λ e. le-leb a limit (omega (arith, ltb-true (a + (0x7FFF_FFFF_FFFF_FFFF - limit)) (2 ^ 63) e)))
    (λ e. lt-ltb (a + (0x7FFF_FFFF_FFFF_FFFF - limit)) (2 ^ 63) (omega (arith, leb-true a limit e)))

pub over_bits : (limit n : ℕ) → limit < 0x7FF0_0000_0000_0000
    → Tells (n % 2 ^ 63 + (0x7FFF_FFFF_FFFF_FFFF - limit)) (within (of_bits binary64 limit) (of_bits binary64 n))
over_bits limit n h = record { told = sum_below (n % 2 ^ 63) limit (omega arith) ∙ sym (within_bits limit n h) }

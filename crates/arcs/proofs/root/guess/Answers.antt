-- `arcs::root::guess` is safe and ends: bits below those of the infinity are no NaN's. Nothing is said of how near it is. Assumes nothing.
use Prim.Native.Nat.{ℕ, ◌-◌, ◌*◌, ◌/◌, ◌%◌, ◌^◌, ◌≤◌}
use mathlib.Core.Path.{sym, subst}
use mathlib.Core.Bool.{Bool, not}
use native.Mathlib.Omega.{arith}
use lib.Dec.{T}
use lib.Arith.{le→nltb}
use lib.Ieee.{binary64, nan_bits}
use lib.Ieee.Bits.{nan_bits_above}
use Rattle.arcs.proofs.root.guess.Goals as goal

no_nan_bits : (n : ℕ) → n % 2 ^ 63 ≤ 2047 * 2 ^ 52 → T (not (nan_bits binary64 n))
no_nan_bits n h = subst (λ (z : Bool). T (not z)) (sym (nan_bits_above binary64 n)) (le→nltb (2047 * 2 ^ 52) (n % 2 ^ 63) h)

pub float_from_bits-y : goal.float_from_bits-y
float_from_bits-y c = no_nan_bits (0x5fe6_eb50_c7b5_37a9 - c.args.b % 2 ^ 63 / 2) (omega arith)

-- A double's bits: the exponent's field, and the significand and exponent that make its magnitude. Definitions only.
use Rattle.std.specs.Prelude.{ℕ, ◌+◌, ◌-◌, ◌/◌, ◌%◌, ◌^◌, cond, eqb}

-- The double with the bits b, if finite, is `significand b * 2 ^ exponent b` times 2 ^ -1074, with the sign in front:
-- the exponent's field counts from 1, and 0 there counts as 1 and means that the leading digit is 0.
abbrev pub field : ℕ → ℕ
field b = b % 2 ^ 63 / 2 ^ 52

unfoldable pub significand : ℕ → ℕ
significand b = cond (eqb (field b) 0) (b % 2 ^ 52) (2 ^ 52 + b % 2 ^ 52)

unfoldable pub exponent : ℕ → ℕ
exponent b = field b - 1

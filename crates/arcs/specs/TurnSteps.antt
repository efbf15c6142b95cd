-- The words of the contracts of the steps that count turns. Definitions only.
use Rattle.std.specs.Prelude.{ℕ, ◌+◌, ◌*◌, ◌^◌, ◌≤◌, ◌<◌, ◌≡◌, Float}
use Rattle.std.specs.Float.Ieee.Positive.{num, den}

-- T1 in units of 2 ^ -30, T2 in units of 2 ^ -84, and T1 + T2 in units of 2 ^ -84
abbrev pub first_part : ℕ
first_part = 6746518852

abbrev pub second_part : ℕ
second_part = 4701928774853425

abbrev pub turn : ℕ
turn = first_part * 2 ^ 54 + second_part

-- t in units of 2 ^ -46 is high * 2 ^ 16 + low
pub record Steps (t : Float) (high low : ℕ) : Type 0 where
  pub value : num t * 2 ^ 46 ≡ (high * 2 ^ 16 + low) * den t
  pub bottom : low < 2 ^ 16
  pub top : (high * 2 ^ 16 + low) ≤ 2 ^ 66

-- of an angle of v units of 2 ^ -84, k turns fit and k + room do not
pub record Room (v k room : ℕ) : Type 0 where
  pub fit : k * turn ≤ v
  pub over : v < (k + room) * turn
  pub top : k + room ≤ 2 ^ 18
  pub some : 0 < room

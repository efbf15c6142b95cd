-- The limits of the doubles that a sheet holds, and the test of them. Document 01, "The sheet". What test 7 asks of a sheet and what the row bound asks of a relation both go
-- by these. Definitions only.
use Rattle.std.specs.Prelude.{Bool, ◌&&◌, Float}
use Rattle.std.specs.Float.{binary64}
use Rattle.std.specs.Float.Ieee.{le, of_bits}
use Rattle.numbers.specs.Double.{abs}
use Rattle.vectors.specs.Vec.{Vec}

-- 1.01, its nearest double: for directions, frame axes and the reference
abbrev pub UNIT_LIMIT : Float
UNIT_LIMIT = of_bits binary64 0x3FF0_28F5_C28F_5C29

-- 1000: for every other double of a sheet
abbrev pub THOUSAND : Float
THOUSAND = of_bits binary64 0x408F_4000_0000_0000

-- the comparison of doubles: the magnitude of x is at most the limit; neither a NaN nor an infinity passes
unfoldable pub within : Float → Float → Bool
within limit x = le (abs x) limit

unfoldable pub within_v : Float → Vec Float → Bool
within_v limit v = within limit v.x && (within limit v.y && within limit v.z)

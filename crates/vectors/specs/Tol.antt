-- The tolerances of tol.rs and lib.rs of tenon's geom that the port uses. Millimetres, radians. Definitions only.
use Rattle.std.specs.Prelude.{Float}
use Rattle.std.specs.Float.{binary64}
use Rattle.std.specs.Float.Ieee.{of_bits}

-- 1e-7: two points closer than this are one
abbrev pub LINEAR : Float
LINEAR = of_bits binary64 0x3E7A_D7F2_9ABC_AF48

-- 1e-9: a vector no longer than this has no direction
abbrev pub EPS : Float
EPS = of_bits binary64 0x3E11_2E0B_E826_D695

-- 1e-9: a relation holds when its rows are at most this
abbrev pub ASSEMBLY : Float
ASSEMBLY = of_bits binary64 0x3E11_2E0B_E826_D695

-- 1e-7: a motion is free when it is resisted by less than this part of the stiffest
abbrev pub DOF_REL : Float
DOF_REL = of_bits binary64 0x3E7A_D7F2_9ABC_AF48

-- A test as a number and as an index, and one test asked twice. Assumes nothing.
use mathlib.Core.Path.{◌≡◌, refl}
use mathlib.Core.Bool.{Bool, true, false, cond}
use mathlib.Core.List.{[], ◌∷◌}
use mir.Val.{bool_byte}
use lib.ListN.{get_or}
use lib.Ieee.{Float}

pub byte_at : (b : Bool) (x y d : Float) → get_or (x ∷ y ∷ []) (bool_byte b) d ≡ cond b y x
byte_at true x y d = refl
byte_at false x y d = refl

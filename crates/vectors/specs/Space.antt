-- `Frame` of space.rs. Document 01, "The train of files", item 2. Definitions only; `Axis` and `Aabb3` are left out.
use Rattle.std.specs.Prelude.{not, ◌||◌, cond, Float, Some, None}
use Rattle.std.specs.Prelude.{Option as MaybeOf}
use Rattle.std.proofs.Math.Option.{Option, none, some}
use Rattle.std.specs.Float.{binary64}
use Rattle.std.specs.Float.Ieee.{lt, le, of_bits}
use Rattle.numbers.specs.Ops.{doubles}
use Rattle.numbers.specs.Double.{abs}
use Rattle.vectors.specs.declared.space.Frame.{Frame as FrameStruct}
use Rattle.vectors.specs.Tol.{LINEAR}
use Rattle.vectors.specs.Vec.{Vec, vec, zero_v, x_v, y_v, z_v, sub_v, scale_v, dot, cross, len, normalized, is_finite_v}

pub record Frame : Type 0 where
  pub origin : Vec Float
  pub x : Vec Float
  pub y : Vec Float
  pub z : Vec Float

-- the twelve numbers of a `Frame`
abbrev pub frame : FrameStruct → Frame
frame f = record { origin = vec f.origin; x = vec f.x; y = vec f.y; z = vec f.z }

-- what `Frame::new` answers: a frame or none
abbrev pub made : MaybeOf FrameStruct → Option Frame
made (Some f) = some (frame f)
made None = none

-- Frame::WORLD
abbrev pub world : Frame
world = record { origin = zero_v; x = x_v; y = y_v; z = z_v }

-- the part of `hint` that is perpendicular to the unit `z`
abbrev pub remaining : Vec Float → Vec Float → Vec Float
remaining z hint = sub_v doubles hint (scale_v doubles z (dot doubles hint z))

abbrev pub squared : Vec Float → Vec Float → Vec Float → Option Frame
squared origin z x = cond (le (len x) LINEAR) none (some (record { origin = origin; x = normalized x; y = cross doubles z (normalized x); z = z }))

-- Frame::new: none for a non-finite part, or z or the remaining x no longer than LINEAR
unfoldable pub new_frame : Vec Float → Vec Float → Vec Float → Option Frame
new_frame origin z hint =
    cond (not (is_finite_v origin) || (not (is_finite_v z) || (not (is_finite_v hint) || le (len z) LINEAR))) none
    (squared origin (normalized z) (remaining (normalized z) hint))

-- Frame::from_normal: x is the world's X made perpendicular, or its Y where z is close to X (0.9)
unfoldable pub from_normal : Vec Float → Vec Float → Option Frame
unfolding new_frame
from_normal origin z = new_frame origin z (cond (lt (of_bits binary64 0x3FEC_CCCC_CCCC_CCCD) (abs (normalized z).x)) y_v x_v)

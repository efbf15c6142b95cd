-- Rotations of math.rs: `M3`, `rotation_between`, `frame_of`. Document 01, "The train of files", item 3. Definitions only; `axis_angle` is left out.
use Rattle.std.specs.Prelude.{ℕ, zero, suc, cond, Float}
use Rattle.std.proofs.Math.Option.{Option}
use Rattle.std.specs.Float.{binary64}
use Rattle.std.specs.Float.Ieee.{add, sub, mul, div, neg, lt, of_bits}
use Rattle.numbers.specs.Ops.{Ops, doubles}
use Rattle.numbers.specs.Double.{zero64, one64, abs, clamp}
use Rattle.arcs.specs.Arcs.{sine, cosine, arctangent}
use Rattle.vectors.specs.declared.math.M3.{M3}
use Rattle.vectors.specs.Vec.{Vec, vec, x_v, y_v, z_v, scale_v, dot, cross, len, normalized}
use Rattle.vectors.specs.Space.{Frame, new_frame}

-- three rows
pub record Mat (C : Type 0) : Type 0 where
  pub r0 : Vec C
  pub r1 : Vec C
  pub r2 : Vec C

-- the nine numbers of an `M3`
abbrev pub mat : M3 → Mat Float
mat m = record { r0 = vec m.r0; r1 = vec m.r1; r2 = vec m.r2 }

-- M3::IDENTITY
abbrev pub identity : Mat Float
identity = record { r0 = x_v; r1 = y_v; r2 = z_v }

abbrev pub transpose : Mat Float → Mat Float
transpose m =
    record {
      r0 = record { x = m.r0.x; y = m.r1.x; z = m.r2.x };
      r1 = record { x = m.r0.y; y = m.r1.y; z = m.r2.y };
      r2 = record { x = m.r0.z; y = m.r1.z; z = m.r2.z };
    }

abbrev pub from_columns : Vec Float → Vec Float → Vec Float → Mat Float
from_columns x y z = transpose (record { r0 = x; r1 = y; r2 = z })

abbrev pub of_frame : Frame → Mat Float
of_frame f = from_columns f.x f.y f.z

-- the column i, the last for any i above 1
unfoldable pub col : Mat Float → ℕ → Vec Float
col m zero = (transpose m).r0
col m (suc zero) = (transpose m).r1
col m (suc (suc i)) = (transpose m).r2

module _ {C : Type 0} (o : Ops C) where
  abbrev pub apply : Mat C → Vec C → Vec C
  apply m v = record { x = dot o m.r0 v; y = dot o m.r1 v; z = dot o m.r2 v }

-- three products, summed from -0
abbrev pub cell : Vec Float → Vec Float → Float
cell r c = add binary64 (add binary64 (add binary64 (neg zero64) (mul binary64 r.x c.x)) (mul binary64 r.y c.y)) (mul binary64 r.z c.z)

abbrev pub row_mul : Vec Float → Mat Float → Vec Float
row_mul r o = record { x = cell r (transpose o).r0; y = cell r (transpose o).r1; z = cell r (transpose o).r2 }

abbrev pub mul_m : Mat Float → Mat Float → Mat Float
mul_m m o = record { r0 = row_mul m.r0 o; r1 = row_mul m.r1 o; r2 = row_mul m.r2 o }

-- below a length of 1e-12
abbrev pub linear : Vec Float → Mat Float
linear w =
    record {
      r0 = record { x = one64; y = neg w.z; z = w.y };
      r1 = record { x = w.z; y = one64; z = neg w.x };
      r2 = record { x = neg w.y; y = w.x; z = one64 };
    }

-- a * b * v
abbrev pub product3 : Float → Float → Float → Float
product3 a b v = mul binary64 (mul binary64 a b) v

-- Rodrigues: the turn about the unit k whose sine is s and cosine c, with v = 1 - c
abbrev pub rodrigues : Vec Float → Float → Float → Float → Mat Float
rodrigues k s c v =
    record {
      r0 =
          record {
            x = add binary64 c (product3 k.x k.x v);
            y = sub binary64 (product3 k.x k.y v) (mul binary64 k.z s);
            z = add binary64 (product3 k.x k.z v) (mul binary64 k.y s);
          };
      r1 =
          record {
            x = add binary64 (product3 k.y k.x v) (mul binary64 k.z s);
            y = add binary64 c (product3 k.y k.y v);
            z = sub binary64 (product3 k.y k.z v) (mul binary64 k.x s);
          };
      r2 =
          record {
            x = sub binary64 (product3 k.z k.x v) (mul binary64 k.y s);
            y = add binary64 (product3 k.z k.y v) (mul binary64 k.x s);
            z = add binary64 c (product3 k.z k.z v);
          };
    }

unfoldable pub exp : Vec Float → Mat Float
exp w =
    let t = len w in
    cond (lt t (of_bits binary64 0x3D71_9799_812D_EA11)) (linear w)
    (rodrigues (scale_v doubles w (div binary64 one64 t)) (sine t) (cosine t) (sub binary64 one64 (cosine t)))

-- pi
abbrev pub PI : Float
PI = of_bits binary64 0x4009_21FB_5444_2D18

-- half a turn about a perpendicular of `from`, X's where from.x is below 0.9 in magnitude, else Y's
abbrev pub half_turn : Vec Float → Mat Float
half_turn from = exp (scale_v doubles (normalized (cross doubles from (cond (lt (abs from.x) (of_bits binary64 0x3FEC_CCCC_CCCC_CCCD)) x_v y_v))) PI)

-- the smallest turn that takes the unit `from` to the unit `to`; 1e-12 tells parallel ones
unfoldable pub rotation_between : Vec Float → Vec Float → Mat Float
unfolding exp
rotation_between from to =
    let c = cross doubles from to in
    let d = clamp (dot doubles from to) in
    cond (lt (len c) (of_bits binary64 0x3D71_9799_812D_EA11)) (cond (lt zero64 d) identity (half_turn from))
    (exp (scale_v doubles (normalized c) (arctangent (len c) d)))

abbrev pub frame_of : Mat Float → Vec Float → Option Frame
frame_of r origin = new_frame origin (transpose r).r2 (transpose r).r0

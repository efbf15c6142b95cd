-- `Vec3` of vec.rs. What rows are made of is written once over the record of operations; lengths are of doubles alone. Document 01, "The train of files", item 2. Definitions only.
use Rattle.std.specs.Prelude.{Bool, ◌&&◌, cond, Float}
use Rattle.std.specs.Float.{binary64}
use Rattle.std.specs.Float.Ieee.{div, lt}
use Rattle.numbers.specs.Ops.{Ops, doubles}
use Rattle.numbers.specs.Double.{zero64, one64, is_finite}
use Rattle.arcs.specs.Root.{root}
use Rattle.vectors.specs.declared.vec.Vec3.{Vec3}
use Rattle.vectors.specs.Tol.{EPS}

pub record Vec (C : Type 0) : Type 0 where
  pub x : C
  pub y : C
  pub z : C

-- the three numbers of a `Vec3`
abbrev pub vec : Vec3 → Vec Float
vec v = record { x = v.x; y = v.y; z = v.z }

-- Vec3::ZERO, Vec3::X, Vec3::Y, Vec3::Z
abbrev pub zero_v : Vec Float
zero_v = record { x = zero64; y = zero64; z = zero64 }

abbrev pub x_v : Vec Float
x_v = record { x = one64; y = zero64; z = zero64 }

abbrev pub y_v : Vec Float
y_v = record { x = zero64; y = one64; z = zero64 }

abbrev pub z_v : Vec Float
z_v = record { x = zero64; y = zero64; z = one64 }

module _ {C : Type 0} (o : Ops C) where
  abbrev pub add_v : Vec C → Vec C → Vec C
  add_v a b = record { x = o.add a.x b.x; y = o.add a.y b.y; z = o.add a.z b.z }

  abbrev pub sub_v : Vec C → Vec C → Vec C
  sub_v a b = record { x = o.sub a.x b.x; y = o.sub a.y b.y; z = o.sub a.z b.z }

  -- a * s
  abbrev pub scale_v : Vec C → C → Vec C
  scale_v a s = record { x = o.mul a.x s; y = o.mul a.y s; z = o.mul a.z s }

  abbrev pub neg_v : Vec C → Vec C
  neg_v a = record { x = o.neg a.x; y = o.neg a.y; z = o.neg a.z }

  abbrev pub dot : Vec C → Vec C → C
  dot a b = o.add (o.add (o.mul a.x b.x) (o.mul a.y b.y)) (o.mul a.z b.z)

  abbrev pub cross : Vec C → Vec C → Vec C
  cross a b =
      record {
        x = o.sub (o.mul a.y b.z) (o.mul a.z b.y);
        y = o.sub (o.mul a.z b.x) (o.mul a.x b.z);
        z = o.sub (o.mul a.x b.y) (o.mul a.y b.x);
      }

unfoldable pub len : Vec Float → Float
len a = root (dot doubles a a)

-- zero unless the length is above EPS
unfoldable pub normalized : Vec Float → Vec Float
unfolding len
normalized a = let l = len a in cond (lt EPS l) (scale_v doubles a (div binary64 one64 l)) zero_v

unfoldable pub is_finite_v : Vec Float → Bool
is_finite_v a = is_finite a.x && (is_finite a.y && is_finite a.z)

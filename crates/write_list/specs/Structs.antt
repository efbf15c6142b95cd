-- The scene of structs that the known cases are made from: bodies like one another, and mates of the ground's point 0
-- with itself. Definitions only.
use Rattle.std.specs.Prelude.{ℕ, false, replicate}
use Rattle.std.specs.Float.{binary64}
use Rattle.std.specs.Float.Ieee.{of_bits}
use Rattle.vectors.specs.declared.vec.Vec3.{Vec3}
use Rattle.relations.specs.declared.model.Body.{Body}
use Rattle.std.specs.Prelude.{None}
use Rattle.relations.specs.declared.geometry.Primitive.TheVariants.{Point}
use Rattle.relations.specs.declared.model.End.{End}
use Rattle.relations.specs.declared.model.Law.TheVariants.{Mate}
use Rattle.relations.specs.declared.model.Rel.{Rel}
use Rattle.saving.specs.declared.save.Scene.{Scene}

abbrev vector : ℕ → ℕ → ℕ → Vec3
vector x y z = record { x = of_bits binary64 x; y = of_bits binary64 y; z = of_bits binary64 z }

-- 1
abbrev one : ℕ
one = 0x3FF0_0000_0000_0000

-- a free body of size 2 at the ground's axes
abbrev body : Body
body =
    record {
      frame = record { origin = vector 0 0 0; x = vector one 0 0; y = vector 0 one 0; z = vector 0 0 one };
      fixed = false;
      center = vector 0 0 0;
      size = of_bits binary64 0x4000_0000_0000_0000;
    }

abbrev ground_pose : End
ground_pose = record { body = None; prim = Point (vector 0 0 0); radius = of_bits binary64 0; mirrored = false }

abbrev mate : Rel
mate = record { law = Mate (of_bits binary64 0); a = ground_pose; b = ground_pose }

abbrev pub plain : ℕ → ℕ → Scene
plain m k = record { m = m; k = k; bodies = replicate 64 body; rels = replicate 128 mate }

-- How a body and a relation stand in bytes, field by field: which byte holds what, and which law and primitive uses which field. Document 01, "The sheet"; document
-- 02, 1/14, for the gear. Little endian. The numbers of the cases stand in Numbers.antt. Definitions only.
use Rattle.std.specs.Prelude.{ℕ, zero, suc, ◌+◌, ◌*◌, Bool, true, not, ◌&&◌, ◌||◌, List, [], ◌∷◌, get_or, eqb, Float}
use Rattle.std.proofs.Math.Option.{Option, none, some}
use Rattle.std.specs.Float.{binary64}
use Rattle.std.specs.Float.Ieee.{of_bits}
use Rattle.vectors.specs.Vec.{Vec}
use Rattle.vectors.specs.Space.{Frame}
use Rattle.relations.specs.Geometry.{Geo, plane, line, point, circle}
use Rattle.relations.specs.Model.{Body, End, Law, mate, flush, angle, insert, tangent, symmetry, joint, gear, Rel}
use Rattle.relations.specs.declared.model.JointKind.{JointKind}
use Rattle.relations.specs.declared.model.JointKind.TheVariants.{Rigid, Revolute, Slider, Cylindrical, Planar, Ball}
use Rattle.records.specs.Numbers.{MATE, FLUSH, ANGLE, INSERT, TANGENT, SYMMETRY, JOINT, GEAR, POINT, CIRCLE, law_number, joint_number, prim_number, flag_number, body_ref_number, by_number}

-- ---- numbers

abbrev pub byte_at : List ℕ → ℕ → ℕ
byte_at s o = get_or s o 0

abbrev pub u16_at : List ℕ → ℕ → ℕ
u16_at s o = byte_at s o + byte_at s (o + 1) * 0x100

abbrev pub u32_at : List ℕ → ℕ → ℕ
u32_at s o = byte_at s o + byte_at s (o + 1) * 0x100 + byte_at s (o + 2) * 0x1_0000 + byte_at s (o + 3) * 0x100_0000

abbrev pub u64_at : List ℕ → ℕ → ℕ
u64_at s o =
    byte_at s o + byte_at s (o + 1) * 0x100 + byte_at s (o + 2) * 0x1_0000 + byte_at s (o + 3) * 0x100_0000 + byte_at s (o + 4) * 0x1_0000_0000
    + byte_at s (o + 5) * 0x100_0000_0000
    + byte_at s (o + 6) * 0x1_0000_0000_0000
    + byte_at s (o + 7) * 0x100_0000_0000_0000

unfoldable pub double_at : List ℕ → ℕ → Float
double_at s o = of_bits binary64 (u64_at s o)

abbrev pub vec_at : List ℕ → ℕ → Vec Float
vec_at s o = record { x = double_at s o; y = double_at s (o + 8); z = double_at s (o + 16) }

abbrev pub flag_at : List ℕ → ℕ → Bool
flag_at s o = eqb (byte_at s o) (flag_number true)

-- the n bytes from o on are 0
unfoldable pub zero_bytes : List ℕ → ℕ → ℕ → Bool
zero_bytes s o zero = true
zero_bytes s o (suc n) = zero_bytes s o n && eqb (byte_at s (o + n)) 0

-- ---- a body: 136 bytes

abbrev pub frame_at : List ℕ → ℕ → Frame
frame_at s o = record { origin = vec_at s o; x = vec_at s (o + 24); y = vec_at s (o + 48); z = vec_at s (o + 72) }

-- fixed; origin, x, y, z of the frame; centre; size
unfoldable pub body_at : List ℕ → ℕ → Body
body_at s o = record { frame = frame_at s (o + 8); fixed = flag_at s o; center = vec_at s (o + 104); size = double_at s (o + 128) }

-- ---- a relation: 264 bytes

-- by a law's number: which fields the law uses
abbrev pub uses_offset : ℕ → Bool
uses_offset law = eqb law MATE || (eqb law FLUSH || (eqb law INSERT || (eqb law TANGENT || eqb law JOINT)))

abbrev pub uses_angle : ℕ → Bool
uses_angle law = eqb law ANGLE || (eqb law JOINT || eqb law GEAR)

abbrev pub uses_reference : ℕ → Bool
uses_reference law = eqb law ANGLE

-- aligned, inside or flip
abbrev pub uses_flag : ℕ → Bool
uses_flag law = eqb law INSERT || (eqb law TANGENT || eqb law JOINT)

-- the joint byte
abbrev pub uses_joint : ℕ → Bool
uses_joint law = eqb law JOINT

-- the mirrored bytes of the ends that the law uses
abbrev pub uses_mirrored : ℕ → Bool
uses_mirrored law = eqb law JOINT || eqb law GEAR

-- the teeth of a and of b
abbrev pub uses_teeth : ℕ → Bool
uses_teeth law = eqb law GEAR

abbrev pub uses_end_radius : ℕ → Bool
uses_end_radius law = eqb law TANGENT

-- the third end: symmetry's plane, or a gear's carrier
abbrev pub uses_third : ℕ → Bool
uses_third law = eqb law SYMMETRY || eqb law GEAR

-- by a primitive's number
abbrev pub uses_direction : ℕ → Bool
uses_direction prim = not (eqb prim POINT)

abbrev pub uses_circle_radius : ℕ → Bool
uses_circle_radius prim = eqb prim CIRCLE

-- an end, 72 bytes: primitive, mirrored, body; point, direction, circle radius, end radius

-- the primitive by its number, with what it takes of the point, the direction and the circle radius
unfoldable pub prim_at : ℕ → Vec Float → Vec Float → Float → Geo Float
prim_at n p d r = by_number prim_number n (plane p d ∷ line p d ∷ point p ∷ []) (circle p d r)

-- the body by its number, none for the ground
unfoldable pub body_number_at : ℕ → Option ℕ
body_number_at b = by_number body_ref_number b (none ∷ []) (some b)

unfoldable pub end_at : List ℕ → ℕ → End
end_at s e =
    record {
      body = body_number_at (u16_at s (e + 2));
      prim = prim_at (byte_at s e) (vec_at s (e + 8)) (vec_at s (e + 32)) (double_at s (e + 56));
      radius = double_at s (e + 64);
      mirrored = flag_at s (e + 1);
    }

-- the kind of joint by its number
unfoldable pub joint_kind_at : ℕ → JointKind
joint_kind_at n = by_number joint_number n (Rigid ∷ Revolute ∷ Slider ∷ Cylindrical ∷ Planar ∷ []) Ball

-- the law by its number, with what it takes of the relation at r: offset, angle, reference, flag, third end, joint kind, teeth
unfoldable pub law_by : ℕ → List ℕ → ℕ → Law
law_by n s r =
    by_number law_number n
    (mate (double_at s (r + 8))
    ∷ flush (double_at s (r + 8))
    ∷ angle (double_at s (r + 16)) (vec_at s (r + 24))
    ∷ insert (double_at s (r + 8)) (flag_at s (r + 2))
    ∷ tangent (double_at s (r + 8)) (flag_at s (r + 2))
    ∷ symmetry (end_at s (r + 192))
    ∷ joint (joint_kind_at (byte_at s (r + 1))) (flag_at s (r + 2)) (double_at s (r + 8)) (double_at s (r + 16))
    ∷ [])
    (gear (u16_at s (r + 4)) (u16_at s (r + 6)) (double_at s (r + 16)) (end_at s (r + 192)))

-- law, then the ends a and b
unfoldable pub rel_at : List ℕ → ℕ → Rel
rel_at s r = record { law = law_by (byte_at s r) s r; a = end_at s (r + 48); b = end_at s (r + 120) }

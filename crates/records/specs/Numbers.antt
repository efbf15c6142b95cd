-- The number that stands in a sheet's bytes for each case of an enum. Document 01, "The sheet": the laws in `Law`'s order, the kinds of joint in `JointKind`'s, the
-- primitives, flags and bodies; document 02, 1/14, for the gear. What is read, what is tested and what reading gives back all go by these numbers. Definitions only.
use Rattle.std.specs.Prelude.{ℕ, Bool, true, false, cond, List, [], ◌∷◌, eqb, Float}
use Rattle.std.proofs.Math.Option.{Option, none, some}
use Rattle.relations.specs.Geometry.{Geo, plane, line, point, circle}
use Rattle.relations.specs.Model.{Law, mate, flush, angle, insert, tangent, symmetry, joint, gear}
use Rattle.relations.specs.declared.model.JointKind.{JointKind}
use Rattle.relations.specs.declared.model.JointKind.TheVariants.{Rigid, Revolute, Slider, Cylindrical, Planar, Ball}

-- ---- the laws

abbrev pub MATE : ℕ
MATE = 0

abbrev pub FLUSH : ℕ
FLUSH = 1

abbrev pub ANGLE : ℕ
ANGLE = 2

abbrev pub INSERT : ℕ
INSERT = 3

abbrev pub TANGENT : ℕ
TANGENT = 4

abbrev pub SYMMETRY : ℕ
SYMMETRY = 5

abbrev pub JOINT : ℕ
JOINT = 6

abbrev pub GEAR : ℕ
GEAR = 7

abbrev pub law_number : Law → ℕ
law_number (mate off) = MATE
law_number (flush off) = FLUSH
law_number (angle want reference) = ANGLE
law_number (insert off aligned) = INSERT
law_number (tangent off inside) = TANGENT
law_number (symmetry p) = SYMMETRY
law_number (joint kind flip off want) = JOINT
law_number (gear teeth_a teeth_b want carrier) = GEAR

-- ---- the kinds of joint

abbrev pub joint_number : JointKind → ℕ
joint_number Rigid = 0
joint_number Revolute = 1
joint_number Slider = 2
joint_number Cylindrical = 3
joint_number Planar = 4
joint_number Ball = 5

-- ---- the primitives

abbrev pub PLANE : ℕ
PLANE = 0

abbrev pub LINE : ℕ
LINE = 1

abbrev pub POINT : ℕ
POINT = 2

abbrev pub CIRCLE : ℕ
CIRCLE = 3

abbrev pub prim_number : Geo Float → ℕ
prim_number (plane p n) = PLANE
prim_number (line p d) = LINE
prim_number (point p) = POINT
prim_number (circle c n r) = CIRCLE

-- ---- flags, and the body of an end

abbrev pub flag_number : Bool → ℕ
flag_number false = 0
flag_number true = 1

abbrev pub GROUND : ℕ
GROUND = 0xFFFF

abbrev pub body_ref_number : Option ℕ → ℕ
body_ref_number none = GROUND
body_ref_number (some i) = i

-- ---- from the number to its case

-- the case whose number is n, and the last where no other's is
unfoldable pub by_number : {A : Type 0} → (A → ℕ) → ℕ → List A → A → A
by_number number n [] last = last
by_number number n (a ∷ rest) last = cond (eqb n (number a)) a (by_number number n rest last)

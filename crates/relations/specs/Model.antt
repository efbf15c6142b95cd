-- What the solver works on: `Body`, `Law`, `End` and `Rel` of solve.rs, with `JointKind` of model.rs. Document 01, "The train of files", item 6; document 02, 1/14, for
-- the gear, which the Rust has not. Definitions only.
use Rattle.std.specs.Prelude.{ℕ, Bool, Float, Some, None}
use Rattle.std.specs.Prelude.{Option as MaybeOf}
use Rattle.std.proofs.Math.Option.{Option, none, some}
use Rattle.vectors.specs.Vec.{Vec, vec}
use Rattle.vectors.specs.Space.{Frame, frame}
use Rattle.vectors.specs.Math.{mat, of_frame}
use Rattle.relations.specs.Geometry.{Geo, prim, Pose}
use Rattle.relations.specs.declared.model.JointKind.{JointKind}
use Rattle.relations.specs.declared.model.End.{End as EndStruct}
use Rattle.relations.specs.declared.model.Law.{Law as LawEnum}
use Rattle.relations.specs.declared.model.Law.TheVariants.{Mate, Flush, Angle, Insert, Tangent, Symmetry, Joint, Gear}
use Rattle.relations.specs.declared.model.Rel.{Rel as RelStruct}
use Rattle.relations.specs.declared.model.Body.{Body as BodyStruct}
use Rattle.relations.specs.declared.model.Pose.{Pose as PoseStruct}

pub record Body : Type 0 where
  pub frame : Frame
  pub fixed : Bool
  pub center : Vec Float
  pub size : Float

-- one side of a relation: the number of its body, none for the ground, and its geometry in the body's coordinates
pub record End : Type 0 where
  pub body : Option ℕ
  pub prim : Geo Float
  pub radius : Float
  pub mirrored : Bool

pub data Law : Type 0 where
  mate : Float → Law
  flush : Float → Law
  angle : Float → Vec Float → Law
  insert : Float → Bool → Law
  tangent : Float → Bool → Law
  symmetry : End → Law
  joint : JointKind → Bool → Float → Float → Law
  -- the teeth of a and of b, the angle, and the carrier, in which the two wheels turn
  gear : ℕ → ℕ → Float → End → Law

pub record Rel : Type 0 where
  pub law : Law
  pub a : End
  pub b : End

-- ---- the numbers of the structs and enums of the code

abbrev pub body_number : MaybeOf ℕ → Option ℕ
body_number (Some i) = some i
body_number None = none

abbrev pub end_of : EndStruct → End
end_of e = record { body = body_number e.body; prim = prim e.prim; radius = e.radius; mirrored = e.mirrored }

abbrev pub law_of : LawEnum → Law
law_of (Mate offset) = mate offset
law_of (Flush offset) = flush offset
law_of (Angle want reference) = angle want (vec reference)
law_of (Insert offset aligned) = insert offset aligned
law_of (Tangent offset inside) = tangent offset inside
law_of (Symmetry plane) = symmetry (end_of plane)
law_of (Joint kind flip offset want) = joint kind flip offset want
law_of (Gear teeth_a teeth_b want carrier) = gear teeth_a teeth_b want (end_of carrier)

abbrev pub rel_of : RelStruct → Rel
rel_of r = record { law = law_of r.law; a = end_of r.a; b = end_of r.b }

abbrev pub body_of : BodyStruct → Body
body_of b = record { frame = frame b.frame; fixed = b.fixed; center = vec b.center; size = b.size }

abbrev pub pose : PoseStruct → Pose Float
pose q = record { r = mat q.r; t = vec q.t }

-- the pose of a frame: its axes as columns, its origin
abbrev pub pose_of_frame : Frame → Pose Float
pose_of_frame f = record { r = of_frame f; t = f.origin }

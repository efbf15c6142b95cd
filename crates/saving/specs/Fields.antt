-- What the code hands on of a primitive and of a law, field by field, as Saving.antt has it. Definitions only.
use Rattle.std.specs.Prelude.{◌≡◌, ℕ, Float}
use Rattle.vectors.specs.Vec.{Vec, vec}
use Rattle.relations.specs.Geometry.{Geo, point_of}
use Rattle.relations.specs.Model.{End, Law, end_of}
use Rattle.records.specs.Numbers.{law_number, prim_number}
use Rattle.saving.specs.Saving.{direction_field, radius_field, joint_field, flag_field, first_teeth, second_teeth, offset_field, angle_field, reference_field, third_field}
use Rattle.saving.specs.declared.parts.PrimFields.{PrimFields}
use Rattle.saving.specs.declared.parts.LawFields.{LawFields}

pub record PrimFieldsOf (g : Geo Float) (f : PrimFields) : Type 0 where
  pub number : f.number ≡ prim_number g
  pub point : vec f.point ≡ point_of g
  pub direction : vec f.direction ≡ direction_field g
  pub radius : f.radius ≡ radius_field g

pub record FieldsAre (n j g s t : ℕ) (off want : Float) (v : Vec Float) (e : End) (f : LawFields) : Type 0 where
  pub number : f.number ≡ n
  pub joint : f.joint ≡ j
  pub flag : f.flag ≡ g
  pub first : f.first ≡ s
  pub second : f.second ≡ t
  pub offset : f.offset ≡ off
  pub angle : f.angle ≡ want
  pub reference : vec f.reference ≡ v
  pub third : end_of f.third ≡ e

abbrev pub LawFieldsOf : Law → LawFields → Type 0
LawFieldsOf law f =
    FieldsAre (law_number law) (joint_field law) (flag_field law) (first_teeth law) (second_teeth law) (offset_field law) (angle_field law) (reference_field law) (third_field law) f

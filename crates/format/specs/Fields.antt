-- Which bytes a body and a relation give back: each byte and body by the number of its case, and the bits of each double that is used. Document 01, "The sheet";
-- document 02, 1/14, for the gear. Definitions only.
use Rattle.std.specs.Prelude.{ℕ, ◌+◌, ◌≡◌, List, Float}
use Rattle.std.specs.Float.{binary64}
use Rattle.std.specs.Float.Ieee.{to_bits}
use Rattle.vectors.specs.Vec.{Vec}
use Rattle.relations.specs.Geometry.{Geo, plane, line, point, circle}
use Rattle.relations.specs.Model.{Body, End, Law, mate, flush, angle, insert, tangent, symmetry, joint, gear, Rel}
use Rattle.records.specs.Numbers.{law_number, joint_number, prim_number, flag_number, body_ref_number}
use Rattle.records.specs.Record.{byte_at, u16_at, u64_at}

-- ---- the bits at place o

abbrev pub DoubleBack : List ℕ → ℕ → Float → Type 0
DoubleBack s o x = to_bits binary64 x ≡ u64_at s o

pub record VecBack (s : List ℕ) (o : ℕ) (v : Vec Float) : Type 0 where
  pub x : DoubleBack s o v.x
  pub y : DoubleBack s (o + 8) v.y
  pub z : DoubleBack s (o + 16) v.z

pub record BodyBack (s : List ℕ) (o : ℕ) (b : Body) : Type 0 where
  pub fixed : flag_number b.fixed ≡ byte_at s o
  pub origin : VecBack s (o + 8) b.frame.origin
  pub x : VecBack s (o + 32) b.frame.x
  pub y : VecBack s (o + 56) b.frame.y
  pub z : VecBack s (o + 80) b.frame.z
  pub center : VecBack s (o + 104) b.center
  pub size : DoubleBack s (o + 128) b.size

-- the numbers that a primitive carries, in the end at e
abbrev pub PrimBack : List ℕ → ℕ → Geo Float → Type 0
PrimBack s e (plane p n) = VecBack s (e + 8) p × VecBack s (e + 32) n
PrimBack s e (line p d) = VecBack s (e + 8) p × VecBack s (e + 32) d
PrimBack s e (point p) = VecBack s (e + 8) p
PrimBack s e (circle c n r) = VecBack s (e + 8) c × (VecBack s (e + 32) n × DoubleBack s (e + 56) r)

pub record EndBack (s : List ℕ) (e : ℕ) (a : End) : Type 0 where
  pub kind : prim_number a.prim ≡ byte_at s e
  pub mirrored : flag_number a.mirrored ≡ byte_at s (e + 1)
  pub body : body_ref_number a.body ≡ u16_at s (e + 2)
  pub prim : PrimBack s e a.prim
  pub radius : DoubleBack s (e + 64) a.radius

-- the numbers that a law carries, in the relation at r
abbrev pub LawBack : List ℕ → ℕ → Law → Type 0
LawBack s r (mate off) = DoubleBack s (r + 8) off
LawBack s r (flush off) = DoubleBack s (r + 8) off
LawBack s r (angle want reference) = DoubleBack s (r + 16) want × VecBack s (r + 24) reference
LawBack s r (insert off aligned) = DoubleBack s (r + 8) off × (flag_number aligned ≡ byte_at s (r + 2))
LawBack s r (tangent off inside) = DoubleBack s (r + 8) off × (flag_number inside ≡ byte_at s (r + 2))
LawBack s r (symmetry p) = EndBack s (r + 192) p
LawBack s r (joint kind flip off want) =
    (joint_number kind ≡ byte_at s (r + 1))
    × ((flag_number flip ≡ byte_at s (r + 2)) × (DoubleBack s (r + 8) off × DoubleBack s (r + 16) want))
LawBack s r (gear teeth_a teeth_b want carrier) =
    (teeth_a ≡ u16_at s (r + 4)) × ((teeth_b ≡ u16_at s (r + 6)) × (DoubleBack s (r + 16) want × EndBack s (r + 192) carrier))

pub record RelBack (s : List ℕ) (r : ℕ) (rel : Rel) : Type 0 where
  pub number : law_number rel.law ≡ byte_at s r
  pub law : LawBack s r rel.law
  pub a : EndBack s (r + 48) rel.a
  pub b : EndBack s (r + 120) rel.b

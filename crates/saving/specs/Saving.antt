-- A scene in memory, m bodies and k relations as the solver's structs, in parts and as a sheet. Document 02, 2/14; document 01, "The sheet", for which law and which primitive
-- uses which field: what is not used is 0. Definitions only.
use Rattle.std.specs.Prelude.{ℕ, ◌<◌, ◌≡◌, Bool, true, false, ◌&&◌, ◌||◌, cond, List, [], ◌∷◌, ◌++◌, eqb, ltb, Float}
use Rattle.std.proofs.Math.Option.{Option, none, some}
use Rattle.numbers.specs.Double.{zero64}
use Rattle.vectors.specs.Vec.{Vec, zero_v}
use Rattle.relations.specs.Geometry.{Geo, plane, line, point, circle, point_of}
use Rattle.relations.specs.Model.{Body, End, Law, mate, flush, angle, insert, tangent, symmetry, joint, gear, Rel}
use Rattle.records.specs.Numbers.{GROUND, law_number, joint_number, prim_number, flag_number}
use Rattle.records.specs.Record.{body_number_at, body_at, rel_at}
use Rattle.format.specs.Format.{bodies_of, relations_of, body_start, rel_start}
use Rattle.format.specs.Faults.{or_else, unless, rel_shape, rel_teeth, rel_limits, sheet_fault}
use Rattle.writing.specs.Writing.{BodyParts, RelParts, SceneParts, AllBytes, rel_bytes, sheet_bytes, body_parts_fault, first_fault, counts_fault, records_fault, room_fault}

-- ---- a body

unfoldable pub body_parts : Body → BodyParts
body_parts b =
    let f = b.frame in
    let c = b.center in
    record {
      bytes = flag_number b.fixed ∷ 0 ∷ [];
      numbers =
          f.origin.x
          ∷ f.origin.y
          ∷ f.origin.z
          ∷ f.x.x
          ∷ f.x.y
          ∷ f.x.z
          ∷ f.y.x
          ∷ f.y.y
          ∷ f.y.z
          ∷ f.z.x
          ∷ f.z.y
          ∷ f.z.z
          ∷ c.x
          ∷ c.y
          ∷ c.z
          ∷ b.size
          ∷ [];
    }

-- ---- an end

-- the largest word that is not the ground's; no sheet has so many bodies
abbrev pub NO_BODY : ℕ
NO_BODY = 0xFFFE

-- a body's number as a word; a number that a word does not hold, or that is the ground's, names no body
abbrev pub body_word : Option ℕ → ℕ
body_word none = GROUND
body_word (some i) = cond (ltb i NO_BODY) i NO_BODY

-- a point has no direction, and only a circle has a radius
abbrev pub direction_field : Geo Float → Vec Float
direction_field (plane p n) = n
direction_field (line p d) = d
direction_field (point p) = zero_v
direction_field (circle c n r) = n

abbrev pub radius_field : Geo Float → Float
radius_field (plane p n) = zero64
radius_field (line p d) = zero64
radius_field (point p) = zero64
radius_field (circle c n r) = r

unfoldable pub end_numbers : End → List Float
end_numbers e =
    let p = point_of e.prim in
    let d = direction_field e.prim in
    p.x ∷ p.y ∷ p.z ∷ d.x ∷ d.y ∷ d.z ∷ radius_field e.prim ∷ e.radius ∷ []

-- ---- a law's fields

abbrev pub joint_field : Law → ℕ
joint_field (mate off) = 0
joint_field (flush off) = 0
joint_field (angle want reference) = 0
joint_field (insert off aligned) = 0
joint_field (tangent off inside) = 0
joint_field (symmetry p) = 0
joint_field (joint kind flip off want) = joint_number kind
joint_field (gear teeth_a teeth_b want carrier) = 0

abbrev pub flag_field : Law → ℕ
flag_field (mate off) = 0
flag_field (flush off) = 0
flag_field (angle want reference) = 0
flag_field (insert off aligned) = flag_number aligned
flag_field (tangent off inside) = flag_number inside
flag_field (symmetry p) = 0
flag_field (joint kind flip off want) = flag_number flip
flag_field (gear teeth_a teeth_b want carrier) = 0

-- the teeth of a, and of b
abbrev pub first_teeth : Law → ℕ
first_teeth (mate off) = 0
first_teeth (flush off) = 0
first_teeth (angle want reference) = 0
first_teeth (insert off aligned) = 0
first_teeth (tangent off inside) = 0
first_teeth (symmetry p) = 0
first_teeth (joint kind flip off want) = 0
first_teeth (gear teeth_a teeth_b want carrier) = teeth_a

abbrev pub second_teeth : Law → ℕ
second_teeth (mate off) = 0
second_teeth (flush off) = 0
second_teeth (angle want reference) = 0
second_teeth (insert off aligned) = 0
second_teeth (tangent off inside) = 0
second_teeth (symmetry p) = 0
second_teeth (joint kind flip off want) = 0
second_teeth (gear teeth_a teeth_b want carrier) = teeth_b

abbrev pub offset_field : Law → Float
offset_field (mate off) = off
offset_field (flush off) = off
offset_field (angle want reference) = zero64
offset_field (insert off aligned) = off
offset_field (tangent off inside) = off
offset_field (symmetry p) = zero64
offset_field (joint kind flip off want) = off
offset_field (gear teeth_a teeth_b want carrier) = zero64

abbrev pub angle_field : Law → Float
angle_field (mate off) = zero64
angle_field (flush off) = zero64
angle_field (angle want reference) = want
angle_field (insert off aligned) = zero64
angle_field (tangent off inside) = zero64
angle_field (symmetry p) = zero64
angle_field (joint kind flip off want) = want
angle_field (gear teeth_a teeth_b want carrier) = want

abbrev pub reference_field : Law → Vec Float
reference_field (mate off) = zero_v
reference_field (flush off) = zero_v
reference_field (angle want reference) = reference
reference_field (insert off aligned) = zero_v
reference_field (tangent off inside) = zero_v
reference_field (symmetry p) = zero_v
reference_field (joint kind flip off want) = zero_v
reference_field (gear teeth_a teeth_b want carrier) = zero_v

-- the end whose 72 bytes are 0
abbrev pub no_end : End
no_end = record { body = some 0; prim = plane zero_v zero_v; radius = zero64; mirrored = false }

abbrev pub third_field : Law → End
third_field (mate off) = no_end
third_field (flush off) = no_end
third_field (angle want reference) = no_end
third_field (insert off aligned) = no_end
third_field (tangent off inside) = no_end
third_field (symmetry p) = p
third_field (joint kind flip off want) = no_end
third_field (gear teeth_a teeth_b want carrier) = carrier

-- ---- a relation

unfoldable pub rel_parts : Rel → RelParts
rel_parts r =
    let v = reference_field r.law in
    let third = third_field r.law in
    record {
      bytes =
          law_number r.law
          ∷ joint_field r.law
          ∷ flag_field r.law
          ∷ prim_number r.a.prim
          ∷ flag_number r.a.mirrored
          ∷ prim_number r.b.prim
          ∷ flag_number r.b.mirrored
          ∷ prim_number third.prim
          ∷ flag_number third.mirrored
          ∷ [];
      words = first_teeth r.law ∷ second_teeth r.law ∷ body_word r.a.body ∷ body_word r.b.body ∷ body_word third.body ∷ [];
      numbers = offset_field r.law ∷ angle_field r.law ∷ v.x ∷ v.y ∷ v.z ∷ (end_numbers r.a ++ (end_numbers r.b ++ end_numbers third));
    }

-- ---- the scene

abbrev pub scene_parts : ℕ → ℕ → (ℕ → Body) → (ℕ → Rel) → SceneParts
scene_parts m k body rel = record { m = m; k = k; body = (λ i. body_parts (body i)); rel = (λ j. rel_parts (rel j)) }

module _ (m k : ℕ) (body : ℕ → Body) (rel : ℕ → Rel) where
  -- a sheet that is accepted, and whose m bodies and k relations are read as the scene's
  pub record Holds (s : List ℕ) : Type 0 where
    pub bytes : AllBytes s
    pub accepted : sheet_fault s ≡ 0
    pub bodies : bodies_of s ≡ m
    pub relations : relations_of s ≡ k
    pub body_is : (i : ℕ) → i < m → body_at s (body_start i) ≡ body i
    pub rel_is : (j : ℕ) → j < k → rel_at s (rel_start m j) ≡ rel j

  -- both round trips
  pub record SavedOnce : Type 0 where
    -- the tests give the number that reading the sheet gives
    pub number : records_fault (scene_parts m k body rel) ≡ sheet_fault (sheet_bytes (scene_parts m k body rel))
    -- a scene that passes has a sheet, which reads as the scene
    pub there : records_fault (scene_parts m k body rel) ≡ 0 → Holds (sheet_bytes (scene_parts m k body rel))
    -- and only this one: saving what was read from a sheet gives its bytes, and the tests pass it
    pub only : (s : List ℕ) → Holds s → (sheet_bytes (scene_parts m k body rel) ≡ s) × (records_fault (scene_parts m k body rel) ≡ 0)

-- ---- 6: a body's number of m or more, before it is cut to a word

-- true if a scene of m bodies has it: the ground, or a body's number below m
abbrev pub body_there : ℕ → Option ℕ → Bool
body_there m none = true
body_there m (some i) = ltb i m

-- the same of the third end, where the law has one
abbrev pub third_there : ℕ → Law → Bool
third_there m (mate off) = true
third_there m (flush off) = true
third_there m (angle want reference) = true
third_there m (insert off aligned) = true
third_there m (tangent off inside) = true
third_there m (symmetry p) = body_there m p.body
third_there m (joint kind flip off want) = true
third_there m (gear teeth_a teeth_b want carrier) = body_there m carrier.body

-- the same of every end that the relation uses
abbrev pub bodies_there : ℕ → Rel → Bool
bodies_there m r = body_there m r.a.body && (body_there m r.b.body && third_there m r.law)

-- a relation's number: 5, 14 and 7 by its bytes, 6 by the bodies of its ends
unfoldable pub rel_struct_fault : ℕ → Rel → ℕ
rel_struct_fault m r =
    let s = rel_bytes (rel_parts r) in
    cond (rel_shape s 0) (cond (rel_teeth s 0) (cond (bodies_there m r) (unless (rel_limits s 0) 7) 6) 14) 5

-- a scene's number, where `room` bytes are lent
unfoldable pub scene_struct_fault : ℕ → ℕ → (ℕ → Body) → (ℕ → Rel) → ℕ → ℕ
scene_struct_fault m k body rel room =
    let bodies = first_fault (λ i. body_parts_fault (body_parts (body i))) m in
    let rels = first_fault (λ j. rel_struct_fault m (rel j)) k in
    or_else (counts_fault m k) (or_else (or_else bodies rels) (room_fault m k room))

-- what the word of an end's body says in a scene of m bodies
pub record WordNames (m : ℕ) (b : Option ℕ) : Type 0 where
  -- test 6 passes it exactly where the body is the ground or a number below m: 65535 as a body's number is not the
  -- ground, and 65539 is not body 3
  pub passes : eqb (body_word b) GROUND || ltb (body_word b) m ≡ body_there m b
  -- and then it is read as this body
  pub read : body_there m b ≡ true → body_number_at (body_word b) ≡ b

-- what 6 means, of a scene whose number is r
pub record Six (m k : ℕ) (body : ℕ → Body) (rel : ℕ → Rel) (room r : ℕ) : Type 0 where
  pub word : counts_fault m k ≡ 0 → (b : Option ℕ) → WordNames m b
  -- r is 6 exactly where the first record that fails is a relation that passes 5 and 14 and has an end in use whose
  -- body's number is m or more
  pub number : r ≡ scene_struct_fault m k body rel room

-- A scene of the code, and what saving it promises. Document 02, 2/14. Definitions only.
use Rattle.std.specs.Prelude.{ℕ, ◌<◌, ◌≡◌, false, cond, List, ◌++◌, length, get_or, drop, eqb}
use Rattle.std.specs.Float.{nan}
use Rattle.vectors.specs.declared.vec.Vec3.{Vec3}
use Rattle.relations.specs.declared.geometry.Primitive.TheVariants.{Plane}
use Rattle.std.specs.Prelude.{None}
use Rattle.relations.specs.declared.model.End.{End as EndStruct}
use Rattle.relations.specs.declared.model.Law.TheVariants.{Mate}
use Rattle.relations.specs.declared.model.Body.{Body as BodyStruct}
use Rattle.relations.specs.declared.model.Rel.{Rel as RelStruct}
use Rattle.relations.specs.Model.{Body, Rel, body_of, rel_of}
use Rattle.format.specs.Format.{rel_start}
use Rattle.writing.specs.Writing.{SceneParts, BodyIs, RelIs, sheet_bytes, body_parts_fault, rel_parts_fault, first_fault, counts_fault, scene_fault}
use Rattle.saving.specs.Saving.{body_parts, rel_parts, scene_parts, SavedOnce, Six}
use Rattle.saving.specs.declared.save.Scene.{Scene}

-- ---- the bodies and relations of the scene; past the end of an array, where no count within its limit reaches, stands one that has no say

abbrev no_vec : Vec3
no_vec = record { x = nan; y = nan; z = nan }

abbrev pub no_body : BodyStruct
no_body = record { frame = record { origin = no_vec; x = no_vec; y = no_vec; z = no_vec }; fixed = false; center = no_vec; size = nan }

abbrev no_side : EndStruct
no_side = record { body = None; prim = Plane no_vec no_vec; radius = nan; mirrored = false }

abbrev pub no_rel : RelStruct
no_rel = record { law = Mate nan; a = no_side; b = no_side }

abbrev pub body_in : Scene → ℕ → Body
body_in sc i = body_of (get_or sc.bodies i no_body)

abbrev pub rel_in : Scene → ℕ → Rel
rel_in sc j = rel_of (get_or sc.rels j no_rel)

abbrev pub parts_of : Scene → SceneParts
parts_of sc = scene_parts sc.m sc.k (body_in sc) (rel_in sc)

-- ---- promises

-- a record's number, and that its parts are numbers of the machine
pub record BodySaved (b : Body) (r : ℕ) : Type 0 where
  pub number : r ≡ body_parts_fault (body_parts b)
  pub is : BodyIs (body_parts b)

pub record RelSaved (m : ℕ) (rel : Rel) (r : ℕ) : Type 0 where
  pub number : r ≡ rel_parts_fault m (rel_parts rel)
  pub is : RelIs (rel_parts rel)

-- the same of the first n
pub record BodiesSaved (sc : Scene) (n r : ℕ) : Type 0 where
  pub number : r ≡ first_fault (λ i. body_parts_fault (body_parts (body_in sc i))) n
  pub is : (i : ℕ) → i < n → BodyIs (body_parts (body_in sc i))

pub record RelsSaved (sc : Scene) (n r : ℕ) : Type 0 where
  pub number : r ≡ first_fault (λ j. rel_parts_fault sc.m (rel_parts (rel_in sc j))) n
  pub is : (j : ℕ) → j < n → RelIs (rel_parts (rel_in sc j))

-- a scene's number where `room` bytes are lent, what 6 means in it, and both round trips where it passes 3
pub record SceneSaved (sc : Scene) (room r : ℕ) : Type 0 where
  pub number : r ≡ scene_fault (parts_of sc) room
  pub six : Six sc.m sc.k (body_in sc) (rel_in sc) room r
  pub once : counts_fault sc.m sc.k ≡ 0 → SavedOnce sc.m sc.k (body_in sc) (rel_in sc)

-- The promise of `save`: the number r, and the sheet at entry and at exit.
pub record SaveAnswer (sc : Scene) (r : ℕ) (sheet sheet' : List ℕ) : Type 0 where
  pub number : r ≡ scene_fault (parts_of sc) (length sheet)
  -- 6 is a body's number of m or more, also where a word does not hold it
  pub six : Six sc.m sc.k (body_in sc) (rel_in sc) (length sheet) r
  -- on refusal the same; else the scene's sheet, and a longer slice keeps its rest
  pub sheet_is : sheet' ≡ cond (eqb r 0) (sheet_bytes (parts_of sc) ++ drop (rel_start sc.m sc.k) sheet) sheet
  pub once : counts_fault sc.m sc.k ≡ 0 → SavedOnce sc.m sc.k (body_in sc) (rel_in sc)

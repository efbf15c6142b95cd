-- The scene as the code hands it on, and what the functions over the lent scratch promise. Document 01, "Recut for Rattle": a scene record passed by value, read in
-- place from a sheet's bytes. s is the scratch at entry and t at exit. Definitions only.
use Rattle.std.specs.Prelude.{Option as Entry, None, Some}
use Rattle.std.specs.Prelude.{ℕ, ◌+◌, ◌-◌, ◌*◌, ◌≤◌, ◌<◌, ◌≡◌, Bool, cond, List, [], ◌∷◌, ◌++◌, map, length, get_or, set, take, Float}
use Rattle.std.proofs.Math.Option.{Option, none, some}
use Rattle.std.specs.Float.{nan}
use Rattle.vectors.specs.Vec.{Vec}
use Rattle.relations.specs.Geometry.{Pose}
use Rattle.least_squares.specs.Lm.{list_of, inverse_weight, jacobian}
use Rattle.least_squares.specs.Memory.{part, Kept}
use Rattle.relations.specs.Model.{Body, Rel}
use Rattle.records.specs.Record.{body_at, rel_at}
use Rattle.scene.specs.Solve.{Scene, layout, unknowns, three, pose_at, rows_at, all_rows, rows_of, Parameters, drag_factor, half_size, body_weights}
use Rattle.scene.specs.declared.scene.Unknowns.{Unknowns as UnknownsStruct}
use Rattle.scene.specs.declared.scene.Scene.{Scene as SceneStruct}
use Rattle.scene.specs.declared.parameters.Parameters.{Parameters as ParametersStruct}

-- ---- the scene

-- an entry of `index`, read: a body that has no unknowns has none
abbrev pub first_unknown : Entry ℕ → Option ℕ
first_unknown None = none
first_unknown (Some k) = some k

-- m bodies from the place `bodies` on, and k relations from the place `rels` on
unfoldable pub scene_in : List ℕ → ℕ → ℕ → ℕ → ℕ → Scene
scene_in s bodies m rels k =
    record { bodies = list_of (λ i. body_at s (bodies + 136 * i)) m; rels = list_of (λ j. rel_at s (rels + 264 * j)) k }

-- the bodies and relations at a scene's places
abbrev pub scene_of : List ℕ → SceneStruct → Scene
scene_of sheet c = scene_in sheet c.bodies c.m c.rels c.k

-- a scene's numbers are those of its bodies and relations, which stand within the sheet
pub record Laid (sheet : List ℕ) (c : SceneStruct) : Type 0 where
  pub body_count : c.m ≤ 64
  pub rel_count : c.k ≤ 128
  pub bodies_fit : c.bodies + 136 * c.m ≤ length sheet
  pub rels_fit : c.rels + 264 * c.k ≤ length sheet
  pub unknown_count : c.n ≡ unknowns (scene_of sheet c)
  pub row_count : (poses : List (Pose Float)) → length (all_rows poses (scene_of sheet c).rels) ≡ c.rows
  pub index : (i : ℕ) → i < c.m → get_or (layout (scene_of sheet c)) i none ≡ first_unknown (get_or c.index i None)

-- the pose of body i at the unknowns xs
abbrev pub body_pose : List ℕ → SceneStruct → List Float → ℕ → Pose Float
body_pose sheet c xs i = pose_at xs (body_at sheet (c.bodies + 136 * i)) (first_unknown (get_or c.index i None))

-- the rows of relation j at these poses
abbrev pub rel_rows : List ℕ → SceneStruct → List (Pose Float) → ℕ → List Float
rel_rows sheet c poses j = rows_at poses (rel_at sheet (c.rels + 264 * j))

-- the weights of a body, by its entry of the layout
abbrev pub weights_of : Float → Option ℕ → ℕ → Body → Option ℕ → List Float
weights_of weight drag i b none = []
weights_of weight drag i b (some k) = body_weights (drag_factor weight drag i) (half_size b.size)

-- 1 over each weight of body i
abbrev pub inverse_at : List ℕ → SceneStruct → Float → Option ℕ → ℕ → List Float
inverse_at sheet c weight drag i = map inverse_weight (weights_of weight drag i (body_at sheet (c.bodies + 136 * i)) (first_unknown (get_or c.index i None)))

-- ---- what a call chooses

abbrev pub parameters_of : ParametersStruct → Parameters
parameters_of q = record { tolerance = q.tolerance; rounds = q.rounds; row_limit = q.limit; drag_weight = q.weight }

-- ---- poses in doubles

abbrev pub vec_doubles : Vec Float → List Float
vec_doubles v = v.x ∷ v.y ∷ v.z ∷ []

abbrev pub four_doubles : Vec Float → Vec Float → Vec Float → Vec Float → List Float
four_doubles a b c d = vec_doubles a ++ (vec_doubles b ++ (vec_doubles c ++ vec_doubles d))

-- the turning, row by row, and the position
abbrev pub pose_doubles : Pose Float → List Float
pose_doubles q = four_doubles q.r.r0 q.r.r1 q.r.r2 q.t

unfoldable pub poses_doubles : List (Pose Float) → List Float
poses_doubles [] = []
poses_doubles (q ∷ poses) = pose_doubles q ++ poses_doubles poses

-- the pose that the twelve doubles from place o on are
abbrev pub pose_in : List Float → ℕ → Pose Float
pose_in s o = record { r = record { r0 = three s o; r1 = three s (o + 3); r2 = three s (o + 6) }; t = three s (o + 9) }

-- m of them
abbrev pub poses_in : List Float → ℕ → ℕ → List (Pose Float)
poses_in s p m = list_of (λ i. pose_in s (p + 12 * i)) m

-- ---- promises

-- from s to t the k doubles of a list have come to stand from place o on, and nothing else has changed
pub record Put (s t : List Float) (o k : ℕ) (l : List Float) : Type 0 where
  pub holds : part t o k ≡ l
  pub kept : Kept s t o (o + k)

-- the same, with the place r behind them
pub record PutNext (s t : List Float) (o r k : ℕ) (l : List Float) : Type 0 where
  pub next : r ≡ o + k
  pub put : Put s t o k l

-- the rows at the unknowns from x on, from place r on; nothing else below p has changed. The places from p on are scratch: only their number is promised, what they hold is open
pub record RowsAt (sc : Scene) (s t : List Float) (x n r rows p : ℕ) : Type 0 where
  pub size : length t ≡ length s
  pub holds : part t r rows ≡ rows_of sc (part s x n)
  pub below : (q : ℕ) → q < r → get_or t q nan ≡ get_or s q nan
  pub between : (q : ℕ) → r + rows ≤ q → q < p → get_or t q nan ≡ get_or s q nan

-- the slopes at the unknowns from x on, from place j on; below a nothing else has changed. The places from a on are scratch: what they hold is open
pub record Slopes (sc : Scene) (s t : List Float) (j n rows x a : ℕ) : Type 0 where
  pub size : length t ≡ length s
  pub holds : part t j (rows * n) ≡ jacobian (rows_of sc) (part s x n) rows
  pub below : take j t ≡ take j s
  pub between : part t (j + rows * n) (a - (j + rows * n)) ≡ part s (j + rows * n) (a - (j + rows * n))

-- ---- how the scene is made

-- the relations at these places
abbrev pub rels_in : List ℕ → ℕ → ℕ → List Rel
rels_in sheet rels k = list_of (λ j. rel_at sheet (rels + 264 * j)) k

-- body i behind the unknowns so far, where it moves
abbrev pub place_body : UnknownsStruct → ℕ → Bool → UnknownsStruct
place_body l i moving = cond moving (record { n = l.n + 6; index = set l.index i (Some l.n) }) l

-- the layout of the m bodies and k relations at these places; the entries behind the last body's are None
pub record LaidOut (sheet : List ℕ) (bodies m rels k : ℕ) (l : UnknownsStruct) : Type 0 where
  pub unknown_count : l.n ≡ unknowns (scene_in sheet bodies m rels k)
  pub index : (i : ℕ) → i < m → get_or (layout (scene_in sheet bodies m rels k)) i none ≡ first_unknown (get_or l.index i None)
  pub unused : (i : ℕ) → m ≤ i → i < 64 → get_or l.index i None ≡ None

-- the scene of the m bodies and k relations at these places; `laid` fixes the counts and the m bodies' entries of `index`, `unused` the entries behind them
pub record SceneMade (sheet : List ℕ) (bodies m rels k : ℕ) (c : SceneStruct) : Type 0 where
  pub laid : Laid sheet c
  pub scene : scene_of sheet c ≡ scene_in sheet bodies m rels k
  pub bodies_at : c.bodies ≡ bodies
  pub body_count : c.m ≡ m
  pub rels_at : c.rels ≡ rels
  pub rel_count : c.k ≡ k
  pub unused : (i : ℕ) → m ≤ i → i < 64 → get_or c.index i None ≡ None

-- One body's rows and slopes: the poses of the frames, the body's poses a step ahead and behind, the slopes relation by relation, the six by six. Slopes side by side and rows one
-- after another are by the laws of slopes. Assumes nothing.
use mathlib.Core.Path.{◌≡◌, refl, sym, ap, subst, ◌∙◌}
use mathlib.Core.Bool.{Bool, true, false, ◌||◌, cond}
use mathlib.Core.List.{List, [], ◌∷◌, ◌++◌, map}
use Prim.Native.Nat.{ℕ, zero, suc, ◌+◌, ◌*◌, ◌≤◌, ◌<◌}
use native.Mathlib.Omega.{arith}
use native.Mathlib.Numerals.{add-one}
use native.Mathlib.Nat.{not-suc-le-zero, mul-le-mul_right, mul_comm}
use lib.ListN.{length, get_or, set, drop, length-append, length-map}
use lib.Ieee.{Float, nan, binary64, add, sub, mul}
use Rattle.numbers.specs.Double.{zero64}
use Rattle.spans.specs.Flat.{flat_to, flat}
use Rattle.relations.specs.Geometry.{Pose}
use Rattle.relations.specs.Model.{Body, Rel, pose_of_frame}
use Rattle.judging.specs.Count.{row_count}
use Rattle.judging.proofs.CountLaws.{residual_length}
use Rattle.records.specs.Record.{body_at, rel_at}
use Rattle.scene.specs.Scene.{scene_in}
use Rattle.least_squares.specs.Lm.{list_of, table_of, step_of, slope_of, ahead, behind, slope, jacobian}
use Rattle.least_squares.specs.Memory.{part, Kept}
use Rattle.scene.specs.Solve.{Scene, names, named, moves, layout_from, unknowns_in, rows_at, all_rows, half_size}
use Rattle.scene.specs.Scene.{scene_of, Laid, pose_doubles, poses_doubles, pose_in, poses_in, Put}
use Rattle.body_freedom.specs.Dof.{rels_of, with_body, body_rows, zeros, columns_times, square_of}
use Rattle.scene.specs.declared.scene.Scene.{Scene as SceneStruct}
use Rattle.least_squares.proofs.MemoryLaws.{part_length, part_at, kept_refl, kept_trans, kept_wider}
use Rattle.least_squares.proofs.TableLaws.{length_list_of, get_d_list_of, one_more, sum_same, in_rows, length_table_of, get_d_table_of, table_ext}
use Rattle.scene.proofs.RowCountLaws.{rows_alike}
use Rattle.scene.proofs.SceneLaws.{Growing, growing_step, list_of_next, drop_whole, length_bodies, bodies_next, next_layout, poses_there, pose_put}
use Rattle.slopes.specs.Moved.{moved_slope, Block}
use Rattle.slopes.proofs.MovedLaws.{rel_length, block_no_rows, block_rows, block_as, block_poses}
use Rattle.slopes.proofs.BodyLaws.{slot_kept}
use Rattle.slopes.proofs.PassLaws.{RowsBy, From, from_room, from_step, from_slope, from_end}
use Rattle.body_freedom.specs.BodySlopes.{body_parts, BodyApart, starts, shifted, MovedPoses, six_steps, named_rows, rows_on, moved_rows, NamedSlopes, SlopesOn, BodySlopes, BodySquare}
use Rattle.body_freedom.specs.declared.body_slopes.BodyParts.{BodyParts as BodyPartsStruct}

-- ---- where the parts stand

-- each part from where the last ended: no part reaches into the next
pub body_apart : (c : SceneStruct) (p : BodyPartsStruct) (size : ℕ) → p ≡ body_parts c → (body_parts c).poses + 12 * c.m ≤ size → BodyApart c p size
body_apart c p size e h = rw e (record { slopes = omega arith; poses = h })

-- the same in a scratch of the same size
pub still_apart : (c : SceneStruct) (p : BodyPartsStruct) (size size' : ℕ) → size' ≡ size → BodyApart c p size → BodyApart c p size'
still_apart c p size size' e h = record { slopes = h.slopes; poses = omega arith }

-- ---- the poses of the frames

-- the doubles of the poses from body i on
abbrev pub rest_starts : List ℕ → SceneStruct → ℕ → List Float
rest_starts sheet c i = poses_doubles (map (λ b. pose_of_frame b.frame) (drop i (scene_of sheet c).bodies))

starts_next : (sheet : List ℕ) (c : SceneStruct) (i : ℕ) → i < c.m
    → rest_starts sheet c i ≡ pose_doubles (pose_of_frame (body_at sheet (c.bodies + 136 * i)).frame) ++ rest_starts sheet c (suc i)
unfolding poses_doubles
starts_next sheet c i h = ap (λ (l : List Body). poses_doubles (map (λ b. pose_of_frame b.frame) l)) (bodies_next sheet c i h)

pub starts_done : (sheet : List ℕ) (c : SceneStruct) (i : ℕ) → i ≡ c.m → rest_starts sheet c i ≡ []
unfolding poses_doubles
starts_done sheet c i e =
    ap (λ (l : List Body). poses_doubles (map (λ b. pose_of_frame b.frame) l)) (drop_whole (scene_of sheet c).bodies i (length_bodies sheet c ∙ sym e))

pub starts_step : (sheet : List ℕ) (c : SceneStruct) (s t u : List Float) (p i : ℕ) (whole : List Float) → i < c.m → Growing s t p (12 * i) (rest_starts sheet c i) whole
    → Put t u (p + 12 * i) 12 (pose_doubles (pose_of_frame (body_at sheet (c.bodies + 136 * i)).frame)) → Growing s u p (12 * (i + 1)) (rest_starts sheet c (i + 1)) whole
starts_step sheet c s t u p i whole h g y =
    let n : rest_starts sheet c i ≡ pose_doubles (pose_of_frame (body_at sheet (c.bodies + 136 * i)).frame) ++ rest_starts sheet c (i + 1) = rw add-one (starts_next sheet c i h) in
    growing_step s t u p (12 * i) (p + 12 * i) 12 (12 * (i + 1)) _ _ _ whole refl (omega arith) n g y

-- the poses that stand where they were put
pub starts_there : (sheet : List ℕ) (c : SceneStruct) (s t : List Float) (p : ℕ) → Put s t p (12 * c.m) (poses_doubles (starts (scene_of sheet c)))
    → poses_in t p c.m ≡ starts (scene_of sheet c)
starts_there sheet c s t p y =
    let l : length (starts (scene_of sheet c)) ≡ c.m = length-map (scene_of sheet c).bodies (λ b. pose_of_frame b.frame) ∙ length_bodies sheet c in
    poses_there t p (12 * c.m) (starts (scene_of sheet c)) y.holds (ap (λ (w : ℕ). 12 * w) l) c.m l

-- ---- what single functions need

pub put_as : (s t : List Float) (o : ℕ) (q w : Pose Float) → q ≡ w → Put s t o 12 (pose_doubles q) → Put s t o 12 (pose_doubles w)
put_as s t o q w e y = subst (λ (v : Pose Float). Put s t o 12 (pose_doubles v)) e y

-- where the relation names the body, and where it does not
pub named_yes : (rel : Rel) (i : ℕ) (poses : List (Pose Float)) → names rel i ≡ true → named_rows rel i poses ≡ rows_at poses rel
named_yes rel i poses e = ap (λ (t : Bool). cond t (rows_at poses rel) []) e

named_no : (rel : Rel) (i : ℕ) (poses : List (Pose Float)) → names rel i ≡ false → named_rows rel i poses ≡ []
named_no rel i poses e = ap (λ (t : Bool). cond t (rows_at poses rel) []) e

-- how many rows there are does not depend on the poses
named_alike : (rel : Rel) (i : ℕ) (poses poses' : List (Pose Float)) → length (named_rows rel i poses) ≡ length (named_rows rel i poses')
named_alike rel i poses poses' = go (names rel i)
  where
    go : (t : Bool) → length (cond t (rows_at poses rel) []) ≡ length (cond t (rows_at poses' rel) [])
    go true = rel_length poses poses' rel
    go false = refl

-- the slopes of a relation read from the sheet
pub named_slopes_yes : (s t moved steps : List Float) (p m i : ℕ) (rel rel' : Rel) (row count : ℕ) → rel ≡ rel' → names rel i ≡ true → count ≡ row_count rel.law rel.a.prim rel.b.prim
    → Block s t (row * 6) 6 (length (rows_at (poses_in s p m) rel)) 6 (moved_slope (λ poses. rows_at poses rel) (poses_in s p m) i moved steps)
    → NamedSlopes s t moved steps p m i rel' row (row + count)
named_slopes_yes s t moved steps p m i rel rel' row count e n d b =
    let f : ◌≡◌ {A = List (Pose Float) → List Float} (λ poses. rows_at poses rel) (named_rows rel i) = λ z poses. cond (sym n z) (rows_at poses rel) [] in
    let k : count ≡ length (named_rows rel i (poses_in s p m)) = d ∙ sym (residual_length _ _ _ _ _ _) ∙ (λ z. length (f z (poses_in s p m))) in
    subst (λ (w : Rel). NamedSlopes s t moved steps p m i w row (row + count)) e
    (record {
      next = ap (λ (w : ℕ). row + w) k;
      block = subst (λ (w : List (Pose Float) → List Float). Block s t (row * 6) 6 (length (w (poses_in s p m))) 6 (moved_slope w (poses_in s p m) i moved steps)) f b;
    })

pub named_slopes_no : (s moved steps : List Float) (p m i : ℕ) (rel rel' : Rel) (row : ℕ) → rel ≡ rel' → names rel i ≡ false → NamedSlopes s s moved steps p m i rel' row row
named_slopes_no s moved steps p m i rel rel' row e n =
    let k : 0 ≡ length (named_rows rel i (poses_in s p m)) = ap length (sym (named_no rel i (poses_in s p m) n)) in
    subst (λ (w : Rel). NamedSlopes s s moved steps p m i w row row) e
    (record { next = omega arith; block = block_as s s _ 6 0 _ 6 6 _ k refl (block_no_rows s _ 6 _ 6) })

-- ---- the rows of one body

-- the rows from relation j on
abbrev rest_on : List ℕ → SceneStruct → ℕ → List (Pose Float) → ℕ → List Float
rest_on sheet c i poses j = all_rows poses (rels_of (drop j (scene_of sheet c).rels) i)

on_cons : (poses : List (Pose Float)) (rel : Rel) (rels : List Rel) (t : Bool) → all_rows poses (cond t (rel ∷ rels) rels) ≡ cond t (rows_at poses rel) [] ++ all_rows poses rels
unfolding all_rows
on_cons poses rel rels true = refl
on_cons poses rel rels false = refl

on_next : (sheet : List ℕ) (c : SceneStruct) (i : ℕ) (poses : List (Pose Float)) (j : ℕ) → j < c.k
    → rest_on sheet c i poses j ≡ named_rows (rel_at sheet (c.rels + 264 * j)) i poses ++ rest_on sheet c i poses (suc j)
unfolding scene_in rels_of
on_next sheet c i poses j h =
    ap (λ (l : List Rel). all_rows poses (rels_of l i)) (list_of_next (λ j. rel_at sheet (c.rels + 264 * j)) c.k j h)
    ∙ on_cons poses (rel_at sheet (c.rels + 264 * j)) (rels_of (drop (suc j) (scene_of sheet c).rels) i) (names (rel_at sheet (c.rels + 264 * j)) i)

on_done : (sheet : List ℕ) (c : SceneStruct) (i : ℕ) (poses : List (Pose Float)) (j : ℕ) → j ≡ c.k → rest_on sheet c i poses j ≡ []
unfolding scene_in all_rows rels_of
on_done sheet c i poses j e =
    ap (λ (l : List Rel). all_rows poses (rels_of l i)) (drop_whole (scene_of sheet c).rels j (length_list_of (λ j. rel_at sheet (c.rels + 264 * j)) c.k ∙ sym e))

-- how many rows there are does not depend on the poses
on_alike : (sc : Scene) (i : ℕ) (poses poses' : List (Pose Float)) → length (rows_on sc i poses) ≡ length (rows_on sc i poses')
on_alike sc i poses poses' = rows_alike (rels_of sc.rels i) poses poses'

-- they are among all rows
on_among : (rels : List Rel) (i : ℕ) (poses : List (Pose Float)) → length (all_rows poses (rels_of rels i)) ≤ length (all_rows poses rels)
unfolding all_rows rels_of
on_among [] i poses = omega arith
on_among (rel ∷ rels) i poses = go (names rel i) (on_among rels i poses)
  where
    go : (t : Bool) → length (all_rows poses (rels_of rels i)) ≤ length (all_rows poses rels)
        → length (all_rows poses (cond t (rel ∷ rels_of rels i) (rels_of rels i))) ≤ length (rows_at poses rel ++ all_rows poses rels)
    go true h =
        let a = length-append (rows_at poses rel) (all_rows poses rels) in
        let b = length-append (rows_at poses rel) (all_rows poses (rels_of rels i)) in
        omega arith
    go false h = let a = length-append (rows_at poses rel) (all_rows poses rels) in omega arith

pub on_fits : (sheet : List ℕ) (c : SceneStruct) (i : ℕ) (poses : List (Pose Float)) → Laid sheet c → length (rows_on (scene_of sheet c) i poses) ≤ c.rows
on_fits sheet c i poses laid =
    let a = on_among (scene_of sheet c).rels i poses in
    let b = laid.row_count poses in
    omega arith

-- from row r on stand the rows of the relations from j on, wherever the bodies stand
pub record Passed (sheet : List ℕ) (c : SceneStruct) (i j r : ℕ) : Type 0 where
  pub rows : From (rows_on (scene_of sheet c) i) (λ poses. rest_on sheet c i poses j) r

pub passed_start : (sheet : List ℕ) (c : SceneStruct) (i : ℕ) → Passed sheet c i 0 0
passed_start sheet c i = record { rows = record { holds = λ poses. refl; among = λ poses. omega arith } }

module _ (sheet : List ℕ) (c : SceneStruct) (i j r : ℕ) (h : j < c.k) (g : Passed sheet c i j r) where
  abbrev one : RowsBy
  one poses = named_rows (rel_at sheet (c.rels + 264 * j)) i poses

  abbrev all : RowsBy
  all poses = rows_on (scene_of sheet c) i poses

  abbrev rest : ℕ → RowsBy
  rest k poses = rest_on sheet c i poses k

  split : (poses : List (Pose Float)) → rest j poses ≡ one poses ++ rest (suc j) poses
  split poses = on_next sheet c i poses j h

  alike : (poses poses' : List (Pose Float)) → length (one poses) ≡ length (one poses')
  alike poses poses' = named_alike (rel_at sheet (c.rels + 264 * j)) i poses poses'

  pub passed_room : (poses poses' : List (Pose Float)) → r + length (one poses) ≤ length (all poses')
  passed_room poses poses' =
      let a = from_room all (rest j) one (rest (suc j)) r split alike g.rows poses' in
      let b = alike poses poses' in
      omega arith

  pub passed_step : (poses : List (Pose Float)) (q : ℕ) → q ≡ r + length (one poses) → Passed sheet c i (j + 1) q
  passed_step poses q e =
      subst (Passed sheet c i (j + 1)) (sym e)
      (subst (λ (k : ℕ). Passed sheet c i k (r + length (one poses))) (sym (add-one j)) (record { rows = from_step all (rest j) one (rest (suc j)) r split alike g.rows poses (length (one poses)) refl }))

  pub passed_slopes : (s t u moved steps : List Float) (p q : ℕ) → r * 6 ≤ p → Block s t 0 6 r 6 (moved_slope all (poses_in s p c.m) i moved steps)
      → NamedSlopes t u moved steps p c.m i (rel_at sheet (c.rels + 264 * j)) r q
      → Block s u 0 6 q 6 (moved_slope all (poses_in s p c.m) i moved steps)
  passed_slopes s t u moved steps p q f b y =
      let same = block_poses s t 0 6 r 6 p c.m _ (omega arith) (omega arith) b in
      let z : r * 6 ≡ 0 + r * 6 = omega arith in
      block_as s u 0 6 _ _ 6 6 _ (sym y.next) refl
      (block_rows s 0 6 (moved_slope all (poses_in s p c.m) i moved steps) t u r (length (one (poses_in t p c.m))) 6 (moved_slope one (poses_in t p c.m) i moved steps) (omega arith)
      (λ k e a d. from_slope all (rest j) one (rest (suc j)) r split alike g.rows (poses_in s p c.m) (poses_in t p c.m) i moved steps k e same a) b
      (subst (λ (o : ℕ). Block t u o 6 (length (one (poses_in t p c.m))) 6 (moved_slope one (poses_in t p c.m) i moved steps)) z y.block))

pub passed_end : (sheet : List ℕ) (c : SceneStruct) (i : ℕ) (poses : List (Pose Float)) (j r : ℕ) → j ≡ c.k → Passed sheet c i j r → r ≡ length (rows_on (scene_of sheet c) i poses)
passed_end sheet c i poses j r e g = from_end (rows_on (scene_of sheet c) i) (λ poses. rest_on sheet c i poses j) r poses (on_done sheet c i poses j e) g.rows

-- ---- the rows fit six to a row where the body moves

-- no relation names the body
on_none : (rels : List Rel) (i : ℕ) → named rels i ≡ false → rels_of rels i ≡ []
unfolding named rels_of
on_none [] i e = refl
on_none (rel ∷ rels) i e = go (names rel i) e (on_none rels i)
  where
    go : (t : Bool) → (t || named rels i) ≡ false → (named rels i ≡ false → rels_of rels i ≡ []) → cond t (rel ∷ rels_of rels i) (rels_of rels i) ≡ []
    go true f k = absurd (let z : ◌≡◌ {A = ℕ} 0 1 = cc in omega arith)
    go false f k = k f

-- a body that moves has six unknowns among all
moving_six : (rels : List Rel) (i next : ℕ) (bodies : List Body) (j : ℕ) (b : Body) (rest : List Body) → drop j bodies ≡ b ∷ rest → moves rels (i + j) b ≡ true
    → 6 ≤ unknowns_in (layout_from rels i next bodies)
unfolding layout_from unknowns_in
moving_six rels i next [] zero b rest e f = absurd (let z : ◌≡◌ {A = ℕ} 0 1 = cc in omega arith)
moving_six rels i next [] (suc j) b rest e f = absurd (let z : ◌≡◌ {A = ℕ} 0 1 = cc in omega arith)
moving_six rels i next (d ∷ bodies) zero b rest e f =
    let w : d ≡ b = cc in
    let z : i ≡ i + 0 = omega arith in
    let v : moves rels i d ≡ true = (λ k. moves rels (z k) (w k)) ∙ f in
    subst (λ (t : Bool). 6 ≤ unknowns_in (next_layout rels i next bodies t)) (sym v) (omega arith)
moving_six rels i next (d ∷ bodies) (suc j) b rest e f =
    let z : i + suc j ≡ suc i + j = omega arith in
    let v : moves rels (suc i + j) b ≡ true = ap (λ (k : ℕ). moves rels k b) (sym z) ∙ f in
    go (moves rels i d) (λ n. moving_six rels (suc i) n bodies j b rest e v)
  where
    go : (t : Bool) → ((n : ℕ) → 6 ≤ unknowns_in (layout_from rels (suc i) n bodies)) → 6 ≤ unknowns_in (next_layout rels i next bodies t)
    go true h = omega arith
    go false h = h next

module _ (sheet : List ℕ) (c : SceneStruct) (i : ℕ) (poses : List (Pose Float)) (laid : Laid sheet c) (h : i < c.m) (f : (body_at sheet (c.bodies + 136 * i)).fixed ≡ false) where
  named_six : named (scene_of sheet c).rels i ≡ true → 6 ≤ c.n
  unfolding moves
  named_six e =
      let z : 0 + i ≡ i = omega arith in
      let v : moves (scene_of sheet c).rels (0 + i) (body_at sheet (c.bodies + 136 * i)) ≡ true = rw (z, f, e) in
      let w = moving_six (scene_of sheet c).rels 0 0 (scene_of sheet c).bodies i (body_at sheet (c.bodies + 136 * i)) _ (bodies_next sheet c i h) v in
      let u = laid.unknown_count in
      omega arith

  pub on_six : length (rows_on (scene_of sheet c) i poses) * 6 ≤ c.rows * c.n
  unfolding all_rows
  on_six = go (named (scene_of sheet c).rels i) refl
    where
      go : (t : Bool) → named (scene_of sheet c).rels i ≡ t → length (rows_on (scene_of sheet c) i poses) * 6 ≤ c.rows * c.n
      go true e =
          let a = on_fits sheet c i poses laid in
          let d = mul-le-mul_right 6 a in
          let b = mul-le-mul_right c.rows (named_six e) in
          omega (arith, mul_comm c.rows 6, mul_comm c.rows c.n)
      go false e =
          let a : length (rows_on (scene_of sheet c) i poses) ≡ 0 = ap (λ (l : List Rel). length (all_rows poses l)) (on_none (scene_of sheet c).rels i e) in
          omega arith

-- ---- the body's poses a step ahead and behind

-- the poses of the first e unknowns stand, and nothing from place 144 on has changed
pub record Moving (b : Body) (s t : List Float) (e : ℕ) : Type 0 where
  pub kept : Kept s t 0 144
  pub ahead : (d : ℕ) → d < e → pose_in t (12 * d) ≡ shifted b (set (zeros 6) d (add binary64 zero64 (step_of zero64)))
  pub behind : (d : ℕ) → d < e → pose_in t (72 + 12 * d) ≡ shifted b (set (zeros 6) d (sub binary64 zero64 (step_of zero64)))

pub moving_start : (b : Body) (s : List Float) → Moving b s s 0
moving_start b s = record { kept = kept_refl s 0 144; ahead = λ d h. absurd (not-suc-le-zero h); behind = λ d h. absurd (not-suc-le-zero h) }

-- the poses of one more unknown
pub moving_step : (b : Body) (s t u v : List Float) (e : ℕ) (h : Float) → e < 6 → h ≡ step_of zero64 → Moving b s t e
    → Put t u (12 * e) 12 (pose_doubles (shifted b (set (zeros 6) e (add binary64 zero64 h))))
    → Put u v (72 + 12 * e) 12 (pose_doubles (shifted b (set (zeros 6) e (sub binary64 zero64 h))))
    → Moving b s v (e + 1)
moving_step b s t u v e h l f g y z =
    record {
      kept =
          kept_trans s u v 0 144
          (kept_trans s t u 0 144 g.kept (kept_wider t u (12 * e) (12 * e + 12) 0 144 (omega arith) (omega arith) y.kept))
          (kept_wider u v (72 + 12 * e) (72 + 12 * e + 12) 0 144 (omega arith) (omega arith) z.kept);
      ahead =
          one_more (λ d. pose_in v (12 * d) ≡ shifted b (set (zeros 6) d (add binary64 zero64 (step_of zero64)))) e
          (λ d a. slot_kept u v (72 + 12 * e) (12 * d) _ z (λ m. omega arith) (λ m. omega arith) ∙ slot_kept t u (12 * e) (12 * d) _ y (λ m. omega arith) (λ m. omega arith) ∙ g.ahead d a)
          (slot_kept u v (72 + 12 * e) (12 * e) _ z (λ m. omega arith) (λ m. omega arith) ∙ pose_put t u (12 * e) _ y ∙ ap (λ (w : Float). shifted b (set (zeros 6) e (add binary64 zero64 w))) f);
      behind =
          one_more (λ d. pose_in v (72 + 12 * d) ≡ shifted b (set (zeros 6) d (sub binary64 zero64 (step_of zero64)))) e
          (λ d a. slot_kept u v (72 + 12 * e) (72 + 12 * d) _ z (λ m. omega arith) (λ m. omega arith) ∙ slot_kept t u (12 * e) (72 + 12 * d) _ y (λ m. omega arith) (λ m. omega arith) ∙ g.behind d a)
          (pose_put u v (72 + 12 * e) _ z ∙ ap (λ (w : Float). shifted b (set (zeros 6) e (sub binary64 zero64 w))) f);
    }

pub moving_end : (b : Body) (s t : List Float) (e : ℕ) → e ≡ 6 → Moving b s t e → MovedPoses b s t
moving_end b s t e h g = record { kept = g.kept; ahead = λ d l. g.ahead d (rw h l); behind = λ d l. g.behind d (rw h l) }

-- ---- the slopes are those of the body's rows as a function of its six unknowns

-- one of n unknowns that are 0, a step ahead and a step behind
module _ (n e : ℕ) (h : e < n) where
  zero_at : zero64 ≡ get_or (zeros n) e nan
  zero_at = sym (get_d_list_of (λ i. zero64) n e nan h)

  pub zero_step : step_of zero64 ≡ step_of (get_or (zeros n) e nan)
  zero_step = ap step_of zero_at

  pub zero_ahead : set (zeros n) e (add binary64 zero64 (step_of zero64)) ≡ ahead (zeros n) e (step_of (get_or (zeros n) e nan))
  zero_ahead = λ z. set (zeros n) e (add binary64 (zero_at z) (zero_step z))

  pub zero_behind : set (zeros n) e (sub binary64 zero64 (step_of zero64)) ≡ behind (zeros n) e (step_of (get_or (zeros n) e nan))
  zero_behind = λ z. set (zeros n) e (sub binary64 (zero_at z) (zero_step z))

pub step_at : (e : ℕ) → e < 6 → get_or six_steps e nan ≡ step_of zero64
step_at e h = get_d_list_of (λ e. step_of zero64) 6 e nan h

moved_slope_is : (sc : Scene) (poses : List (Pose Float)) (i : ℕ) (b : Body) (s moved : List Float) (k e : ℕ) → e < 6 → MovedPoses b s moved
    → moved_slope (rows_on sc i) poses i moved six_steps k e ≡ slope (moved_rows sc poses i b) (zeros 6) k e
unfolding slope with_body
moved_slope_is sc poses i b s moved k e h y =
    let a = y.ahead e h ∙ ap (shifted b) (zero_ahead 6 e h) in
    let d = y.behind e h ∙ ap (shifted b) (zero_behind 6 e h) in
    let l = step_at e h ∙ zero_step 6 e h in
    λ z. slope_of (get_or (rows_on sc i (set poses i (a z))) k nan) (get_or (rows_on sc i (set poses i (d z))) k nan) (l z)

pub body_slopes_is : (sc : Scene) (s t moved₀ moved steps : List Float) (p m i : ℕ) (b b' : Body) (rows : ℕ) → b ≡ b' → steps ≡ six_steps
    → length (rows_on sc i (poses_in s p m)) * 6 ≤ p → p ≤ length s → MovedPoses b moved₀ moved → SlopesOn sc s t moved steps p m i rows
    → BodySlopes sc s t p m i b' rows
unfolding jacobian
body_slopes_is sc s t moved₀ moved steps p m i b b' rows e q h l y g =
    let z = g.block.size in
    let n = ap (λ (w : ℕ). w * 6) g.count in
    let f = moved_rows sc (poses_in s p m) i b in
    subst (λ (w : Body). BodySlopes sc s t p m i w rows) e
    (record {
      count = g.count;
      size = g.block.size;
      holds =
          table_ext (slope f (zeros 6)) 6 rows (part t 0 (rows * 6)) (part_length t 0 (rows * 6) (omega arith))
          (λ k d u v.
          part_at t 0 (rows * 6) (k * 6 + d) nan (in_rows k d 6 rows u v) ∙ g.block.entries k d u v
          ∙ ap (λ (w : List Float). moved_slope (rows_on sc i) (poses_in s p m) i moved w k d) q
          ∙ moved_slope_is sc (poses_in s p m) i b moved₀ moved k d v y)
          ∙ ap (λ (q : ℕ). table_of (slope f (zeros 6)) q rows) (sym (length_list_of (λ i. zero64) 6));
      poses = block_poses s t 0 6 rows 6 p m _ (omega arith) (omega arith) g.block;
    })

-- ---- the six by six

-- the slopes are all that counts
square_part : (s : List Float) (rows : ℕ) → square_of s rows 6 ≡ square_of (part s 0 (rows * 6)) rows 6
unfolding columns_times
square_part s rows =
    table_ext (columns_times (part s 0 (rows * 6)) rows 6) 6 6 (square_of s rows 6) (length_table_of (columns_times s rows 6) 6 6)
    (λ i j h l.
    get_d_table_of (columns_times s rows 6) 6 6 i j nan h l
    ∙ sum_same _ _ _ rows
    (λ r u. λ z. mul binary64 (entry r i u h z) (entry r j u l z)))
  where
    entry : (r j : ℕ) → r < rows → j < 6 → get_or s (r * 6 + j) nan ≡ get_or (part s 0 (rows * 6)) (r * 6 + j) nan
    entry r j u l =
        let q : r * 6 + j ≡ 0 + (r * 6 + j) = omega arith in
        ap (λ (w : ℕ). get_or s w nan) q ∙ sym (part_at s 0 (rows * 6) (r * 6 + j) nan (in_rows r j 6 rows u l))

-- six rows make the table
pub six_rows : (f : ℕ → ℕ → Float) (r0 r1 r2 r3 r4 r5 : List Float) → r0 ≡ list_of (f 0) 6 → r1 ≡ list_of (f 1) 6 → r2 ≡ list_of (f 2) 6 → r3 ≡ list_of (f 3) 6 → r4 ≡ list_of (f 4) 6
    → r5 ≡ list_of (f 5) 6 → flat 6 (r0 ∷ r1 ∷ r2 ∷ r3 ∷ r4 ∷ r5 ∷ []) ≡ table_of f 6 6
unfolding flat_to table_of list_of
six_rows f r0 r1 r2 r3 r4 r5 e0 e1 e2 e3 e4 e5 = λ z. flat 6 (e0 z ∷ e1 z ∷ e2 z ∷ e3 z ∷ e4 z ∷ e5 z ∷ [])

pub body_square_is : (sheet : List ℕ) (c : SceneStruct) (s t : List Float) (p i rows : ℕ) (a : List (List Float)) → poses_in s p c.m ≡ starts (scene_of sheet c)
    → BodySlopes (scene_of sheet c) s t p c.m i (body_at sheet (c.bodies + 136 * i)) rows → flat 6 a ≡ square_of t rows 6
    → BodySquare (scene_of sheet c) s t p c.m i (body_at sheet (c.bodies + 136 * i)) a
body_square_is sheet c s t p i rows a e y q =
    let sc = scene_of sheet c in
    let b = body_at sheet (c.bodies + 136 * i) in
    let n : rows ≡ length (body_rows sc i b (zeros 6))
    = y.count ∙ on_alike sc i (poses_in s p c.m) (with_body (starts sc) i b (half_size b.size) (zeros 6)) in
    let j : part t 0 (rows * 6) ≡ jacobian (body_rows sc i b) (zeros 6) rows
    = y.holds ∙ ap (λ (w : List (Pose Float)). jacobian (moved_rows sc w i b) (zeros 6) rows) e in
    record {
      square =
          q ∙ square_part t rows ∙ ap (λ (w : List Float). square_of w rows 6) j ∙ ap (λ (w : ℕ). square_of (jacobian (body_rows sc i b) (zeros 6) w) w 6) n;
      size = y.size;
      poses = y.poses ∙ e;
    }

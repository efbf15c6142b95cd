-- The slopes relation by relation: what a store, a column and a relation's rows leave of the other places, that a relation that does not name the moved body has the slope +0 in
-- each of its rows, and that the rows of the relations follow one another. Assumes nothing.
use mathlib.Core.Path.{◌≡◌, refl, sym, ap, subst, ◌∙◌}
use mathlib.Core.Bool.{false}
use mathlib.Core.List.{List, [], ◌++◌}
use Prim.Native.Nat.{ℕ, suc, ◌+◌, ◌-◌, ◌*◌, ◌≤◌, ◌<◌}
use native.Mathlib.Omega.{arith}
use native.Mathlib.Numerals.{add-one}
use native.Mathlib.Decide.{dec_lt}
use native.Mathlib.Nat.{not-suc-le-zero, add-mul, mul-le-mul_right}
use lib.ListN.{length, get_or, set, length-set}
use lib.Seq.{get_or-set_same, get_or-set_other}
use lib.Ieee.{Float, nan}
use Rattle.relations.specs.Geometry.{Pose}
use Rattle.relations.specs.Model.{Rel}
use Rattle.relations.specs.Rows.{pack}
use Rattle.relations.specs.Rows as Rows
use Rattle.relations.specs.declared.rows.Rows.{Rows as RowsStruct}
use Rattle.judging.specs.Count.{row_count}
use Rattle.judging.proofs.CountLaws.{residual_length, row_count_le, rows_packed}
use Rattle.records.specs.Record.{rel_at}
use Rattle.least_squares.specs.Lm.{list_of, slope_of}
use Rattle.least_squares.proofs.TableLaws.{in_rows, one_more}
use Rattle.scene.specs.Solve.{names, rows_at, all_rows}
use Rattle.scene.specs.Scene.{scene_of, Laid, rel_rows, pose_in, poses_in}
use Rattle.scene.specs.declared.scene.Scene.{Scene as SceneStruct}
use Rattle.scene.proofs.SceneLaws.{rest_rows, rows_next, rows_done, packed, pose_same}
use Rattle.slopes.specs.Moved.{moved_slope, Steps, Strided, Block, Clear, Room, RelColumns}
use Rattle.slopes.proofs.SlopeLaws.{row_before, column_of}
use Rattle.slopes.proofs.AnewLaws.{rows_other}
use Rattle.slopes.proofs.PassLaws.{RowsBy, From, from_room, from_step, from_slope, from_end}

-- ---- every n-th place

pub strided_start : (s : List Float) (o n : ℕ) (f : ℕ → Float) → Strided s s o n 0 f
strided_start s o n f = record { size = refl; entries = λ r h. absurd (not-suc-le-zero h); others = λ q h. refl }

pub strided_step : (s t : List Float) (o n r : ℕ) (f : ℕ → Float) (v : Float) → 0 < n → o + r * n < length s → v ≡ f r → Strided s t o n r f → Strided s (set t (o + r * n) v) o n (r + 1) f
strided_step s t o n r f v h l e g =
    record {
      size = length-set t (o + r * n) v ∙ g.size;
      entries =
          one_more (λ q. get_or (set t (o + r * n) v) (o + q * n) nan ≡ f q) r
          (λ q m. let w = row_before q r n 0 m h in get_or-set_other t (o + r * n) (o + q * n) v nan (λ x. absurd (omega arith)) ∙ g.entries q m)
          (let z = g.size in get_or-set_same t (o + r * n) v nan (omega arith) ∙ e);
      others = λ q m. get_or-set_other t (o + r * n) q v nan (m r (omega arith)) ∙ g.others q (λ k a. m k (omega arith));
    }

pub strided_as : (s t : List Float) (o n rows rows' : ℕ) (f g : ℕ → Float) → rows ≡ rows' → ((r : ℕ) → r < rows → f r ≡ g r) → Strided s t o n rows f → Strided s t o n rows' g
strided_as s t o n rows rows' f g e h y =
    record {
      size = y.size;
      entries = λ r l. let m : r < rows = rw e l in y.entries r m ∙ h r m;
      others = λ q l. y.others q (λ r m. l r (rw (← e) m));
    }

-- ---- columns side by side, and rows one after another

module _ (s : List Float) (o n : ℕ) (f : ℕ → ℕ → Float) where
  pub block_no_columns : (rows : ℕ) → Block s s o n rows 0 f
  block_no_columns rows = record { size = refl; entries = λ r e h l. absurd (not-suc-le-zero l); others = λ q h. refl }

  pub block_no_rows : (cols : ℕ) → Block s s o n 0 cols f
  block_no_rows cols = record { size = refl; entries = λ r e h l. absurd (not-suc-le-zero h); others = λ q h. refl }

  pub block_column : (t u : List Float) (rows e : ℕ) (g : ℕ → Float) → e < n → ((r : ℕ) → r < rows → g r ≡ f r e) → Block s t o n rows e f → Strided t u (o + e) n rows g
      → Block s u o n rows (e + 1) f
  block_column t u rows e g l k b y =
      record {
        size = y.size ∙ b.size;
        entries = λ r d h m. one_more (λ d. get_or u (o + (r * n + d)) nan ≡ f r d) e (λ d a. old r d h a) (let z : o + (r * n + e) ≡ o + e + r * n = omega arith in ap (λ (w : ℕ). get_or u w nan) z ∙ y.entries r h ∙ k r h) d m;
        others = λ q h. y.others q (λ r m z. h r e m (omega arith) (omega arith)) ∙ b.others q (λ r d m a z. h r d m (omega arith) z);
      }
    where
      old : (r d : ℕ) → r < rows → d < e → get_or u (o + (r * n + d)) nan ≡ f r d
      old r d h a = y.others (o + (r * n + d)) (λ q m z. let w = column_of r q n d e (omega arith) l (omega arith) in absurd (omega arith)) ∙ b.entries r d h a

  pub block_rows : (t u : List Float) (rows count cols : ℕ) (g : ℕ → ℕ → Float) → cols ≤ n → ((r e : ℕ) → r < count → e < cols → g r e ≡ f (rows + r) e) → Block s t o n rows cols f
      → Block t u (o + rows * n) n count cols g
      → Block s u o n (rows + count) cols f
  block_rows t u rows count cols g w k b y =
      record {
        size = y.size ∙ b.size;
        entries = λ r e h l. go r e h l (dec_lt r rows);
        others =
            λ q h.
            y.others q (λ r e a m z. h (rows + r) e (omega arith) m (let v = add-mul rows r n in omega arith)) ∙ b.others q (λ r e a m z. h r e (omega arith) m z);
      }
    where
      go : (r e : ℕ) → r < rows + count → e < cols → Dec (r < rows) → get_or u (o + (r * n + e)) nan ≡ f r e
      go r e h l (yes m) = let v = row_before r rows n e m (omega arith) in y.others (o + (r * n + e)) (λ q d a c z. absurd (omega arith)) ∙ b.entries r e m l
      go r e h l (no m) =
          let q : rows + (r - rows) ≡ r = omega arith in
          let v = add-mul rows (r - rows) n in
          let z = ap (λ (x : ℕ). x * n) q in
          let x : o + (r * n + e) ≡ o + rows * n + ((r - rows) * n + e) = omega arith in
          ap (λ (p : ℕ). get_or u p nan) x ∙ y.entries (r - rows) e (omega arith) l ∙ k (r - rows) e (omega arith) l ∙ ap (λ (p : ℕ). f p e) q

pub block_as : (s t : List Float) (o n rows rows' cols cols' : ℕ) (f : ℕ → ℕ → Float) → rows ≡ rows' → cols ≡ cols' → Block s t o n rows cols f → Block s t o n rows' cols' f
block_as s t o n rows rows' cols cols' f d e b = subst (λ (w : ℕ). Block s t o n rows' w f) e (subst (λ (w : ℕ). Block s t o n w cols f) d b)

-- the rest of the rows is clear still
pub still_clear : (s t : List Float) (o n rows r count : ℕ) (f : ℕ → ℕ → Float) → 6 ≤ n → r + count ≤ rows → Clear s o n rows → Block s t o n r 6 f → Clear t (o + r * n) n count
still_clear s t o n rows r count f w l h b q e a m =
    let v = add-mul r q n in
    let z : o + r * n + (q * n + e) ≡ o + ((r + q) * n + e) = omega arith in
    b.others (o + r * n + (q * n + e)) (λ d c x y j. let u = row_before d r n c x (omega arith) in absurd (omega arith)) ∙ ap (λ (x : ℕ). get_or s x nan) z ∙ h (r + q) e (omega arith) m

-- the poses stand behind
pub poses_behind_lem : (s t : List Float) (o n rows cols p m : ℕ) → cols ≤ n → o + rows * n ≤ p
    → ((q : ℕ) → ((r e : ℕ) → r < rows → e < cols → q ≡ o + (r * n + e) → ⊥) → get_or t q nan ≡ get_or s q nan)
    → poses_in t p m ≡ poses_in s p m
poses_behind_lem s t o n rows cols p m w h others =
    λ z. list_of (λ i. pose_same s t (p + 12 * i) (λ q l k. others q (λ r e a c x. let v = in_rows r e n rows a (omega arith) in absurd (omega arith))) z) m

pub block_poses : (s t : List Float) (o n rows cols p m : ℕ) (f : ℕ → ℕ → Float) → cols ≤ n → o + rows * n ≤ p → Block s t o n rows cols f → poses_in t p m ≡ poses_in s p m
block_poses s t o n rows cols p m f w h b = poses_behind_lem s t o n rows cols p m w h b.others

-- ---- a relation's rows

pub rel_length : (poses poses' : List (Pose Float)) (rel : Rel) → length (rows_at poses rel) ≡ length (rows_at poses' rel)
rel_length poses poses' rel = residual_length _ _ _ _ _ _ ∙ sym (residual_length _ _ _ _ _ _)

pub few_rows : (poses : List (Pose Float)) (rel : Rel) → length (rows_at poses rel) ≤ 7
few_rows poses rel = rw residual_length (row_count_le _ _ _)

pub packed_rows : (r : RowsStruct) (poses : List (Pose Float)) (rel : Rel) → r ≡ pack (rows_at poses rel) → Rows.rows_of r ≡ rows_at poses rel
packed_rows r poses rel e = ap Rows.rows_of e ∙ rows_packed (rows_at poses rel) (few_rows poses rel)

pub packed_count : (r : RowsStruct) (poses poses' : List (Pose Float)) (rel : Rel) → r ≡ pack (rows_at poses rel) → r.n ≡ length (rows_at poses' rel)
packed_count r poses poses' rel e = packed r (rows_at poses rel) e ∙ rel_length poses poses' rel

-- the rows of a relation that does not name the body stay
pub named_not : (s moved steps : List Float) (o n i : ℕ) (poses : List (Pose Float)) (rel : Rel) → names rel i ≡ false → Steps steps → Clear s o n (length (rows_at poses rel))
    → Block s s o n (length (rows_at poses rel)) 6 (moved_slope (λ poses. rows_at poses rel) poses i moved steps)
named_not s moved steps o n i poses rel other st clear = record { size = refl; entries = at; others = λ q h. refl }
  where
    at : (r e : ℕ) → r < length (rows_at poses rel) → e < 6 → get_or s (o + (r * n + e)) nan ≡ moved_slope (λ poses. rows_at poses rel) poses i moved steps r e
    at r e h l =
        let a = rows_other poses i (pose_in moved (12 * e)) rel other in
        let b = rows_other poses i (pose_in moved (72 + 12 * e)) rel other in
        clear r e h l ∙ sym (st e l (get_or (rows_at poses rel) r nan)) ∙ (λ z. slope_of (get_or (sym a z) r nan) (get_or (sym b z) r nan) (get_or steps e nan))

-- the slopes of a relation read from the sheet
pub rel_columns_is : (s t moved steps : List Float) (p m i : ℕ) (rel rel' : Rel) (o n count : ℕ) → rel ≡ rel' → count ≡ row_count rel.law rel.a.prim rel.b.prim
    → Block s t o n (length (rows_at (poses_in s p m) rel)) 6 (moved_slope (λ poses. rows_at poses rel) (poses_in s p m) i moved steps)
    → RelColumns s t moved steps p m i rel' o n count
rel_columns_is s t moved steps p m i rel rel' o n count e d b =
    let f : count ≡ length (rows_at (poses_in s p m) rel) = d ∙ sym (residual_length _ _ _ _ _ _) in
    subst (λ (w : Rel). RelColumns s t moved steps p m i w o n count) e (record { count = f; block = block_as s t o n _ count 6 6 _ (sym f) refl b })

-- ---- all relations' rows

-- from row r on stand the rows of the relations from j on, wherever the bodies stand
pub record Passed (sheet : List ℕ) (c : SceneStruct) (j r : ℕ) : Type 0 where
  pub rows : From (λ poses. all_rows poses (scene_of sheet c).rels) (λ poses. rest_rows sheet c poses j) r

pub passed_start : (sheet : List ℕ) (c : SceneStruct) → Passed sheet c 0 0
passed_start sheet c = record { rows = record { holds = λ poses. refl; among = λ poses. omega arith } }

pub passed_among : (sheet : List ℕ) (c : SceneStruct) (j r : ℕ) → Laid sheet c → Passed sheet c j r → r ≤ c.rows
passed_among sheet c j r laid g = let a = g.rows.among [] in let b = laid.row_count [] in omega arith

module _ (sheet : List ℕ) (c : SceneStruct) (j r : ℕ) (laid : Laid sheet c) (h : j < c.k) (g : Passed sheet c j r) where
  abbrev one : RowsBy
  one poses = rel_rows sheet c poses j

  abbrev all : RowsBy
  all poses = all_rows poses (scene_of sheet c).rels

  split : (poses : List (Pose Float)) → rest_rows sheet c poses j ≡ one poses ++ rest_rows sheet c poses (suc j)
  split poses = rows_next sheet c poses j h

  alike : (poses poses' : List (Pose Float)) → length (one poses) ≡ length (one poses')
  alike poses poses' = rel_length poses poses' (rel_at sheet (c.rels + 264 * j))

  pub passed_room : (poses : List (Pose Float)) → r + length (one poses) ≤ c.rows
  passed_room poses =
      let a = from_room all (λ poses. rest_rows sheet c poses j) one (λ poses. rest_rows sheet c poses (suc j)) r split alike g.rows poses in
      let b = laid.row_count poses in
      omega arith

  pub passed_step : (poses : List (Pose Float)) (count : ℕ) → count ≡ length (one poses) → Passed sheet c (j + 1) (r + count)
  passed_step poses count e =
      subst (λ (k : ℕ). Passed sheet c k (r + count)) (sym (add-one j)) (record { rows = from_step all (λ poses. rest_rows sheet c poses j) one (λ poses. rest_rows sheet c poses (suc j)) r split alike g.rows poses count e })

  pub passed_slope : (poses poses' : List (Pose Float)) (i : ℕ) (moved steps : List Float) (q e : ℕ) → poses' ≡ poses → q < length (one poses')
      → moved_slope one poses' i moved steps q e ≡ moved_slope all poses i moved steps (r + q) e
  passed_slope = from_slope all (λ poses. rest_rows sheet c poses j) one (λ poses. rest_rows sheet c poses (suc j)) r split alike g.rows

pub passed_end : (sheet : List ℕ) (c : SceneStruct) (poses : List (Pose Float)) (j r : ℕ) → Laid sheet c → j ≡ c.k → Passed sheet c j r → r ≡ c.rows
passed_end sheet c poses j r laid e g =
    from_end (λ poses. all_rows poses (scene_of sheet c).rels) (λ poses. rest_rows sheet c poses j) r poses (rows_done sheet c poses j e) g.rows ∙ laid.row_count poses

-- ---- what single functions need

pub room_as : (s t moved : List Float) (p m i o n rows rows' : ℕ) → length t ≡ length s → rows' ≡ rows → Room s moved p m i o n rows → Room t moved p m i o n rows'
room_as s t moved p m i o n rows rows' e f g =
    let z = ap (λ (w : ℕ). w * n) f in
    record { body = g.body; poses = omega arith; twelve = g.twelve; wide = g.wide; below = omega arith }

-- the rows from r on
pub room_next : (s t moved : List Float) (p m i o n rows r count : ℕ) → length t ≡ length s → r + count ≤ rows → Room s moved p m i o n rows → Room t moved p m i (o + r * n) n count
room_next s t moved p m i o n rows r count e h g =
    let w = mul-le-mul_right n h in
    let z = add-mul r count n in
    record { body = g.body; poses = omega arith; twelve = g.twelve; wide = g.wide; below = omega arith }

-- Lists written into the scratch piece by piece, and what the definitions of layout, poses, rows and weights give body by body and relation by relation. Assumes
-- nothing.
use mathlib.Core.Path.{◌≡◌, refl, sym, ap, subst, ◌∙◌}
use mathlib.Core.Bool.{Bool, true, false}
use mathlib.Core.List.{List, [], ◌∷◌, ◌++◌, map, append-nil, append_assoc}
use mathlib.Core.Option.{Option, none, some}
use Prim.Native.Nat.{ℕ, zero, suc, ◌+◌, ◌-◌, ◌*◌, ◌≤◌, ◌<◌}
use native.Mathlib.Omega.{arith}
use native.Mathlib.Numerals.{add-one}
use native.Mathlib.Nat.{not-suc-le-zero, le_of_suc-le-suc}
use lib.ListN.{length, get_or, set, take, drop, replicate, length-set, length-drop, length-append, get_or-append, get_or-eq_default}
use lib.Seq.{take-add, take_all, drop-drop, drop-cons, drop-length, take-suc, take-suc-set, get_or-append-add, get_or-set_same, get_or-set_other, set_out, ext_get_or}
use lib.Ieee.{Float, nan}
use Rattle.std.proofs.lemmas.List.{length-replicate, get_or-replicate}
use Rattle.relations.specs.Geometry.{Pose}
use Rattle.relations.specs.Model.{Body, Rel}
use Rattle.std.specs.Prelude.{None, Some}
use Rattle.numbers.specs.Double.{zero64}
use Rattle.relations.specs.Rows as Rows
use Rattle.relations.specs.Rows.{ground_pose, pack}
use Rattle.judging.proofs.CountLaws.{residual_length, row_count_le, rows_packed}
use Rattle.relations.specs.declared.rows.Rows.{Rows as RowsStruct}
use Rattle.least_squares.specs.Lm.{list_of, inverse_weight}
use Rattle.least_squares.specs.Memory.{part, Kept}
use Rattle.records.specs.Record.{body_at, rel_at}
use Rattle.scene.specs.Scene.{scene_in}
use Rattle.scene.specs.Solve.{moves, layout_from, layout, unknowns_in, poses_from, poses_at, three, all_rows, weights_from, weights, body_weights, drag_factor, half_size}
use Rattle.scene.specs.Scene.{first_unknown, scene_of, Laid, body_pose, rel_rows, weights_of, inverse_at, pose_doubles, poses_doubles, pose_in, poses_in, Put, PutNext, RowsAt}
use Rattle.scene.specs.declared.scene.Scene.{Scene as SceneStruct}
use Rattle.least_squares.proofs.MemoryLaws.{part_length, part_at, kept_refl, kept_set, kept_wider, kept_trans, kept_part_below, kept_at_below, kept_at_above}
use Rattle.least_squares.proofs.LmLaws.{list_ext}
use Rattle.least_squares.proofs.TableLaws.{length_list_of, get_d_list_of}

-- ---- one list after another

pub put_one : (s : List Float) (o : ℕ) (v : Float) → o < length s → Put s (set s o v) o 1 (v ∷ [])
put_one s o v h =
    let e : o + 0 ≡ o = omega arith in
    let d : 0 < length (drop o s) = simp length-drop (omega arith) in
    record {
      holds = ap (λ (w : ℕ). part (set s w v) o 1) (sym e) ∙ ap (take 1) (lib.Seq.drop-set-add o s 0 v) ∙ take-suc-set (drop o s) 0 v d;
      kept = kept_set s s o (o + 1) o v (omega arith) (omega arith) (kept_refl s o (o + 1));
    }

pub put_then : (s t u : List Float) (o j q k : ℕ) (a b : List Float) → q ≡ o + j → Put s t o j a → Put t u q k b → Put s u o (j + k) (a ++ b)
put_then s t u o j q k a b e x y =
    let w : Kept t u (o + j) (o + j + k) = subst (λ (n : ℕ). Kept t u n (n + k)) e y.kept in
    let h : part u (o + j) k ≡ b = subst (λ (n : ℕ). part u n k ≡ b) e y.holds in
    record {
      holds =
          take-add j k (drop o u) ∙ ap (λ (l : List Float). take j (drop o u) ++ take k l) (drop-drop j o u) ∙ ap (λ (l : List Float). take j (drop o u) ++ l) h
          ∙ ap (λ (l : List Float). l ++ b) (kept_part_below t u (o + j) (o + j + k) o j (omega arith) w ∙ x.holds);
      kept =
          kept_trans s t u o (o + (j + k)) (kept_wider s t o (o + j) o (o + (j + k)) (omega arith) (omega arith) x.kept)
          (kept_wider t u (o + j) (o + j + k) o (o + (j + k)) (omega arith) (omega arith) w);
    }

-- a list at the front of a slice: the rest is as it was
pub put_front : (s t : List Float) (k : ℕ) (l : List Float) → Put s t 0 k l → t ≡ l ++ drop k s
put_front s t k l y =
    let e : 0 + k ≡ k = omega arith in
    let a : drop k t ≡ drop k s = subst (λ (w : ℕ). drop w t ≡ drop w s) e y.kept.above in
    let h : length t ≤ k + (length t - k) = omega arith in
    let r : length (drop k t) ≤ length t - k = simp length-drop (omega arith) in
    sym (take_all (k + (length t - k)) t h) ∙ take-add k (length t - k) t ∙ ap (λ (w : List Float). take k t ++ w) (take_all (length t - k) (drop k t) r ∙ a)
    ∙ ap (λ (w : List Float). w ++ drop k s) y.holds

-- j doubles from p on are written, `rest` is to follow, and together they are `whole`
pub record Growing (s t : List Float) (p j : ℕ) (rest whole : List Float) : Type 0 where
  pub kept : Kept s t p (p + j)
  pub sum : part t p j ++ rest ≡ whole

pub growing_start : (s : List Float) (p : ℕ) (whole : List Float) → Growing s s p 0 whole whole
growing_start s p whole = record { kept = kept_refl s p (p + 0); sum = refl }

pub growing_step : (s t u : List Float) (p j q k j' : ℕ) (piece rest rest' whole : List Float) → q ≡ p + j → j' ≡ j + k → rest ≡ piece ++ rest' → Growing s t p j rest whole
    → Put t u q k piece → Growing s u p j' rest' whole
growing_step s t u p j q k j' piece rest rest' whole e f r g y =
    let w : Put s u p (j + k) (part t p j ++ piece) = put_then s t u p j q k (part t p j) piece e (record { holds = refl; kept = g.kept }) y in
    record {
      kept = subst (λ (n : ℕ). Kept s u p (p + n)) (sym f) w.kept;
      sum =
          ap (λ (n : ℕ). part u p n ++ rest') f ∙ ap (λ (l : List Float). l ++ rest') w.holds ∙ append_assoc (part t p j) piece rest'
          ∙ ap (λ (l : List Float). part t p j ++ l) (sym r)
          ∙ g.sum;
    }

pub growing_end : (s t : List Float) (p j : ℕ) (rest whole : List Float) → rest ≡ [] → Growing s t p j rest whole → Put s t p j whole
growing_end s t p j rest whole e g =
    record { holds = sym (append-nil (part t p j)) ∙ ap (λ (l : List Float). part t p j ++ l) (sym e) ∙ g.sum; kept = g.kept }

-- what is to follow has room
pub growing_room : (s t : List Float) (p j : ℕ) (piece rest rest' whole : List Float) → p + j ≤ length s → rest ≡ piece ++ rest' → Growing s t p j rest whole → j + length piece ≤ length whole
growing_room s t p j piece rest rest' whole h r g =
    let z = g.kept.size in
    let l = part_length t p j (omega arith) in
    let a = length-append (part t p j) rest in
    let b = length-append piece rest' in
    let c = ap length g.sum in
    let d = ap length r in
    omega arith

-- ---- lists given by their entries

pub list_of_next : {A : Type 0} (f : ℕ → A) (n i : ℕ) → i < n → drop i (list_of f n) ≡ f i ∷ drop (suc i) (list_of f n)
list_of_next f n i h =
    let l : i < length (list_of f n) = rw (length_list_of f n) h in
    drop-cons (list_of f n) i (f i) l ∙ ap (λ a. a ∷ drop (suc i) (list_of f n)) (get_d_list_of f n i (f i) h)

pub drop_whole : {A : Type 0} (l : List A) (n : ℕ) → length l ≡ n → drop n l ≡ []
drop_whole l n e = ap (λ (w : ℕ). drop w l) (sym e) ∙ drop-length l

-- ---- the layout

-- the list that goes on by whether a body moves
abbrev pub next_layout : List Rel → ℕ → ℕ → List Body → Bool → List (Option ℕ)
next_layout rels i next bodies t = elim t [ true ↦ some next ∷ layout_from rels (suc i) (next + 6) bodies | false ↦ none ∷ layout_from rels (suc i) next bodies ]

pub length_layout : (rels : List Rel) (i next : ℕ) (bodies : List Body) → length (layout_from rels i next bodies) ≡ length bodies
unfolding layout_from
length_layout rels i next [] = refl
length_layout rels i next (b ∷ bodies) = go (moves rels i b) (λ n. length_layout rels (suc i) n bodies)
  where
    go : (t : Bool) → ((n : ℕ) → length (layout_from rels (suc i) n bodies) ≡ length bodies) → length (next_layout rels i next bodies t) ≡ suc (length bodies)
    go true h = ap suc (h (next + 6))
    go false h = ap suc (h next)

-- the six unknowns of a body that moves are among all
pub layout_bound : (rels : List Rel) (i next : ℕ) (bodies : List Body) (j k : ℕ) → get_or (layout_from rels i next bodies) j none ≡ some k
    → k + 6 ≤ next + unknowns_in (layout_from rels i next bodies)
unfolding layout_from unknowns_in
layout_bound rels i next [] zero k e = let z : ◌≡◌ {A = ℕ} 0 1 = cc in omega arith
layout_bound rels i next [] (suc j) k e = let z : ◌≡◌ {A = ℕ} 0 1 = cc in omega arith
layout_bound rels i next (b ∷ bodies) zero k e = go (moves rels i b) e
  where
    go : (t : Bool) → get_or (next_layout rels i next bodies t) 0 none ≡ some k → k + 6 ≤ next + unknowns_in (next_layout rels i next bodies t)
    go true f = let w : next ≡ k = cc in omega arith
    go false f = let z : ◌≡◌ {A = ℕ} 0 1 = cc in omega arith
layout_bound rels i next (b ∷ bodies) (suc j) k e = go (moves rels i b) e (λ n f. layout_bound rels (suc i) n bodies j k f)
  where
    go : (t : Bool) → get_or (next_layout rels i next bodies t) (suc j) none ≡ some k
        → ((n : ℕ) → get_or (layout_from rels (suc i) n bodies) j none ≡ some k → k + 6 ≤ n + unknowns_in (layout_from rels (suc i) n bodies))
        → k + 6 ≤ next + unknowns_in (next_layout rels i next bodies t)
    go true f h = let w = h (next + 6) f in omega arith
    go false f h = h next f

-- ---- a scene's bodies

-- the unknowns of a body that has some
pub laid_first : (sheet : List ℕ) (c : SceneStruct) (i k : ℕ) → Laid sheet c → i < c.m → get_or c.index i None ≡ Some k → k + 6 ≤ c.n
laid_first sheet c i k laid h e =
    let f : get_or (layout (scene_of sheet c)) i none ≡ some k = laid.index i h ∙ ap first_unknown e in
    let b = layout_bound (scene_of sheet c).rels 0 0 (scene_of sheet c).bodies i k f in
    let u = laid.unknown_count in
    omega arith

pub length_bodies : (sheet : List ℕ) (c : SceneStruct) → length (scene_of sheet c).bodies ≡ c.m
unfolding scene_in
length_bodies sheet c = length_list_of (λ i. body_at sheet (c.bodies + 136 * i)) c.m

pub laid_length : (sheet : List ℕ) (c : SceneStruct) → length (layout (scene_of sheet c)) ≡ c.m
laid_length sheet c = length_layout (scene_of sheet c).rels 0 0 (scene_of sheet c).bodies ∙ length_bodies sheet c

-- the bodies from i on, and their entries of the layout
pub bodies_next : (sheet : List ℕ) (c : SceneStruct) (i : ℕ) → i < c.m
    → drop i (scene_of sheet c).bodies ≡ body_at sheet (c.bodies + 136 * i) ∷ drop (suc i) (scene_of sheet c).bodies
unfolding scene_in
bodies_next sheet c i h = list_of_next (λ i. body_at sheet (c.bodies + 136 * i)) c.m i h

pub layout_next : (sheet : List ℕ) (c : SceneStruct) (i : ℕ) → Laid sheet c → i < c.m
    → drop i (layout (scene_of sheet c)) ≡ first_unknown (get_or c.index i None) ∷ drop (suc i) (layout (scene_of sheet c))
layout_next sheet c i laid h =
    let l : i < length (layout (scene_of sheet c)) = rw (laid_length sheet c) h in
    drop-cons (layout (scene_of sheet c)) i none l ∙ ap (λ (k : Option ℕ). k ∷ drop (suc i) (layout (scene_of sheet c))) (laid.index i h)

-- ---- poses

-- the doubles of the poses from body i on
abbrev pub rest_poses : List ℕ → SceneStruct → List Float → ℕ → List Float
rest_poses sheet c xs i = poses_doubles (poses_from xs (drop i (scene_of sheet c).bodies) (drop i (layout (scene_of sheet c))))

pub poses_next : (sheet : List ℕ) (c : SceneStruct) (xs : List Float) (i : ℕ) → Laid sheet c → i < c.m
    → rest_poses sheet c xs i ≡ pose_doubles (body_pose sheet c xs i) ++ rest_poses sheet c xs (suc i)
unfolding poses_doubles poses_from
poses_next sheet c xs i laid h = λ z. poses_doubles (poses_from xs (bodies_next sheet c i h z) (layout_next sheet c i laid h z))

pub poses_done : (sheet : List ℕ) (c : SceneStruct) (xs : List Float) (i : ℕ) → i ≡ c.m → rest_poses sheet c xs i ≡ []
unfolding poses_doubles poses_from
poses_done sheet c xs i e =
    ap (λ (l : List Body). poses_doubles (poses_from xs l (drop i (layout (scene_of sheet c))))) (drop_whole (scene_of sheet c).bodies i (length_bodies sheet c ∙ sym e))

pub poses_step : (sheet : List ℕ) (c : SceneStruct) (s t u : List Float) (x p i : ℕ) (whole : List Float) → Laid sheet c → i < c.m → x + c.n ≤ p
    → Growing s t p (12 * i) (rest_poses sheet c (part s x c.n) i) whole → Put t u (p + 12 * i) 12 (pose_doubles (body_pose sheet c (part t x c.n) i))
    → Growing s u p (12 * (i + 1)) (rest_poses sheet c (part s x c.n) (i + 1)) whole
poses_step sheet c s t u x p i whole laid h l g y =
    let e : part t x c.n ≡ part s x c.n = kept_part_below s t p (p + 12 * i) x c.n l g.kept in
    let z : Put t u (p + 12 * i) 12 (pose_doubles (body_pose sheet c (part s x c.n) i)) = subst (λ (w : List Float). Put t u (p + 12 * i) 12 (pose_doubles (body_pose sheet c w i))) e y in
    let n : rest_poses sheet c (part s x c.n) i ≡ pose_doubles (body_pose sheet c (part s x c.n) i) ++ rest_poses sheet c (part s x c.n) (i + 1) = rw add-one (poses_next sheet c (part s x c.n) i laid h) in
    growing_step s t u p (12 * i) (p + 12 * i) 12 (12 * (i + 1)) _ _ _ whole refl (omega arith) n g z

-- three doubles of a part
pub three_part : (s : List Float) (x n k w : ℕ) → w ≡ x + k → k + 3 ≤ n → three s w ≡ three (part s x n) k
three_part s x n k w e h =
    let a : get_or s w nan ≡ get_or (part s x n) k nan = ap (λ (q : ℕ). get_or s q nan) e ∙ sym (part_at s x n k nan (omega arith)) in
    let b : get_or s (w + 1) nan ≡ get_or (part s x n) (k + 1) nan = ap (λ (q : ℕ). get_or s q nan) (omega arith) ∙ sym (part_at s x n (k + 1) nan (omega arith)) in
    let d : get_or s (w + 2) nan ≡ get_or (part s x n) (k + 2) nan = ap (λ (q : ℕ). get_or s q nan) (omega arith) ∙ sym (part_at s x n (k + 2) nan (omega arith)) in
    λ z. record { x = a z; y = b z; z = d z }

-- ---- poses that stand in the scratch

three_kept : (s t : List Float) (lo hi w : ℕ) → hi ≤ w → Kept s t lo hi → three t w ≡ three s w
three_kept s t lo hi w h k =
    let a = kept_at_above s t lo hi w nan h k in
    let b = kept_at_above s t lo hi (w + 1) nan (omega arith) k in
    let d = kept_at_above s t lo hi (w + 2) nan (omega arith) k in
    λ v. record { x = a v; y = b v; z = d v }

pose_kept : (s t : List Float) (lo hi w : ℕ) → hi ≤ w → Kept s t lo hi → pose_in t w ≡ pose_in s w
pose_kept s t lo hi w h k =
    let a = three_kept s t lo hi w h k in
    let b = three_kept s t lo hi (w + 3) (omega arith) k in
    let d = three_kept s t lo hi (w + 6) (omega arith) k in
    let e = three_kept s t lo hi (w + 9) (omega arith) k in
    λ v. record { r = record { r0 = a v; r1 = b v; r2 = d v }; t = e v }

pub poses_kept : (s t : List Float) (lo hi p m : ℕ) → hi ≤ p → Kept s t lo hi → poses_in t p m ≡ poses_in s p m
poses_kept s t lo hi p m h k = λ v. list_of (λ i. pose_kept s t lo hi (p + 12 * i) (omega arith) k v) m

poses_entry : (poses : List (Pose Float)) (i j : ℕ) → i < length poses → j < 12 → get_or (poses_doubles poses) (12 * i + j) nan ≡ get_or (pose_doubles (get_or poses i ground_pose)) j nan
unfolding poses_doubles
poses_entry [] i j h l = absurd (not-suc-le-zero h)
poses_entry (q ∷ poses) zero j h l =
    let e : 12 * 0 + j ≡ j = omega arith in
    ap (λ (w : ℕ). get_or (pose_doubles q ++ poses_doubles poses) w nan) e ∙ get_or-append (pose_doubles q) (poses_doubles poses) nan j l
poses_entry (q ∷ poses) (suc i) j h l =
    let e : 12 * suc i + j ≡ 12 + (12 * i + j) = omega arith in
    ap (λ (w : ℕ). get_or (pose_doubles q ++ poses_doubles poses) w nan) e ∙ get_or-append-add (pose_doubles q) (poses_doubles poses) (12 * i + j) nan
    ∙ poses_entry poses i j (le_of_suc-le-suc h) l

module _ (t : List Float) (p k : ℕ) (poses : List (Pose Float)) (e : part t p k ≡ poses_doubles poses) (n : 12 * length poses ≡ k) where
  pose_entry : (i j w : ℕ) → i < length poses → j < 12 → w ≡ p + (12 * i + j) → get_or t w nan ≡ get_or (pose_doubles (get_or poses i ground_pose)) j nan
  pose_entry i j w h l q =
      ap (λ (v : ℕ). get_or t v nan) q ∙ sym (part_at t p k (12 * i + j) nan (omega arith)) ∙ ap (λ (v : List Float). get_or v (12 * i + j) nan) e ∙ poses_entry poses i j h l

  pose_there : (i : ℕ) → i < length poses → pose_in t (p + 12 * i) ≡ get_or poses i ground_pose
  pose_there i h =
      let a0 = pose_entry i 0 (p + 12 * i) h (omega arith) (omega arith) in
      let a1 = pose_entry i 1 (p + 12 * i + 1) h (omega arith) (omega arith) in
      let a2 = pose_entry i 2 (p + 12 * i + 2) h (omega arith) (omega arith) in
      let b0 = pose_entry i 3 (p + 12 * i + 3) h (omega arith) (omega arith) in
      let b1 = pose_entry i 4 (p + 12 * i + 3 + 1) h (omega arith) (omega arith) in
      let b2 = pose_entry i 5 (p + 12 * i + 3 + 2) h (omega arith) (omega arith) in
      let c0 = pose_entry i 6 (p + 12 * i + 6) h (omega arith) (omega arith) in
      let c1 = pose_entry i 7 (p + 12 * i + 6 + 1) h (omega arith) (omega arith) in
      let c2 = pose_entry i 8 (p + 12 * i + 6 + 2) h (omega arith) (omega arith) in
      let d0 = pose_entry i 9 (p + 12 * i + 9) h (omega arith) (omega arith) in
      let d1 = pose_entry i 10 (p + 12 * i + 9 + 1) h (omega arith) (omega arith) in
      let d2 = pose_entry i 11 (p + 12 * i + 9 + 2) h (omega arith) (omega arith) in
      λ v.
      record {
        r = record { r0 = record { x = a0 v; y = a1 v; z = a2 v }; r1 = record { x = b0 v; y = b1 v; z = b2 v }; r2 = record { x = c0 v; y = c1 v; z = c2 v } };
        t = record { x = d0 v; y = d1 v; z = d2 v };
      }

  -- the poses that stand in the scratch are those that were written
  pub poses_there : (m : ℕ) → length poses ≡ m → poses_in t p m ≡ poses
  poses_there m f = ext_get_or ground_pose (poses_in t p m) poses (length_list_of _ m ∙ sym f) at
    where
      at : (i : ℕ) → i < length (poses_in t p m) → get_or (poses_in t p m) i ground_pose ≡ get_or poses i ground_pose
      at i l =
          let h : i < m = rw (length_list_of (λ i. pose_in t (p + 12 * i)) m) at l in
          get_d_list_of (λ i. pose_in t (p + 12 * i)) m i ground_pose h ∙ pose_there i (rw f h)

pub length_poses : (xs : List Float) (bodies : List Body) (l : List (Option ℕ)) → length l ≡ length bodies → length (poses_from xs bodies l) ≡ length bodies
unfolding poses_from
length_poses xs [] l e = refl
length_poses xs (b ∷ bodies) [] e = e
length_poses xs (b ∷ bodies) (k ∷ l) e = let w : length l ≡ length bodies = omega arith in ap suc (length_poses xs bodies l w)

-- ---- rows

-- the rows from relation j on
abbrev pub rest_rows : List ℕ → SceneStruct → List (Pose Float) → ℕ → List Float
rest_rows sheet c poses j = all_rows poses (drop j (scene_of sheet c).rels)

length_rels : (sheet : List ℕ) (c : SceneStruct) → length (scene_of sheet c).rels ≡ c.k
unfolding scene_in
length_rels sheet c = length_list_of (λ j. rel_at sheet (c.rels + 264 * j)) c.k

rels_next : (sheet : List ℕ) (c : SceneStruct) (j : ℕ) → j < c.k → drop j (scene_of sheet c).rels ≡ rel_at sheet (c.rels + 264 * j) ∷ drop (suc j) (scene_of sheet c).rels
unfolding scene_in
rels_next sheet c j h = list_of_next (λ j. rel_at sheet (c.rels + 264 * j)) c.k j h

pub rows_next : (sheet : List ℕ) (c : SceneStruct) (poses : List (Pose Float)) (j : ℕ) → j < c.k → rest_rows sheet c poses j ≡ rel_rows sheet c poses j ++ rest_rows sheet c poses (suc j)
unfolding all_rows
rows_next sheet c poses j h = ap (all_rows poses) (rels_next sheet c j h)

pub rows_done : (sheet : List ℕ) (c : SceneStruct) (poses : List (Pose Float)) (j : ℕ) → j ≡ c.k → rest_rows sheet c poses j ≡ []
unfolding all_rows
rows_done sheet c poses j e = ap (all_rows poses) (drop_whole (scene_of sheet c).rels j (length_rels sheet c ∙ sym e))

module _ (sheet : List ℕ) (c : SceneStruct) (s t : List Float) (p r at j : ℕ) (laid : Laid sheet c) (h : j < c.k) (l : r ≤ at) (m : at ≤ p) (f : p + 12 * c.m ≤ length s)
    (g : Growing s t r (at - r) (rest_rows sheet c (poses_in s p c.m) j) (all_rows (poses_in s p c.m) (scene_of sheet c).rels)) where
  same_poses : poses_in t p c.m ≡ poses_in s p c.m
  same_poses = poses_kept s t r (r + (at - r)) p c.m (omega arith) g.kept

  next_rows : rest_rows sheet c (poses_in s p c.m) j ≡ rel_rows sheet c (poses_in s p c.m) j ++ rest_rows sheet c (poses_in s p c.m) (j + 1)
  next_rows = rw add-one (rows_next sheet c (poses_in s p c.m) j h)

  pub rows_room : r + c.rows ≤ p → at + length (rel_rows sheet c (poses_in t p c.m) j) ≤ p
  rows_room w =
      let a : at - r + length (rel_rows sheet c (poses_in s p c.m) j) ≤ length (all_rows (poses_in s p c.m) (scene_of sheet c).rels)
      = growing_room s t r (at - r) (rel_rows sheet c (poses_in s p c.m) j) (rest_rows sheet c (poses_in s p c.m) j) (rest_rows sheet c (poses_in s p c.m) (j + 1))
      (all_rows (poses_in s p c.m) (scene_of sheet c).rels)
      (omega arith)
      next_rows
      g in
      let b = laid.row_count (poses_in s p c.m) in
      let d = ap (λ (q : List (Pose Float)). length (rel_rows sheet c q j)) same_poses in
      omega arith

  pub rows_step : (u : List Float) (at' : ℕ)
      → PutNext t u at at' (length (rel_rows sheet c (poses_in t p c.m) j)) (rel_rows sheet c (poses_in t p c.m) j)
      → Growing s u r (at' - r) (rest_rows sheet c (poses_in s p c.m) (j + 1)) (all_rows (poses_in s p c.m) (scene_of sheet c).rels)
  rows_step u at' y =
      let z : PutNext t u at at' (length (rel_rows sheet c (poses_in s p c.m) j)) (rel_rows sheet c (poses_in s p c.m) j)
      = subst (λ (q : List (Pose Float)). PutNext t u at at' (length (rel_rows sheet c q j)) (rel_rows sheet c q j)) same_poses y in
      let n = z.next in
      growing_step s t u r (at - r) at (length (rel_rows sheet c (poses_in s p c.m) j)) (at' - r) _ _ _ _ (omega arith) (omega arith) next_rows g z.put

-- all rows are written
pub put_all : (s t : List Float) (o k n : ℕ) (rest whole : List Float) → o + k ≤ length s → rest ≡ [] → length whole ≡ n → Growing s t o k rest whole → Put s t o n whole
put_all s t o k n rest whole h e w g =
    let y = growing_end s t o k rest whole e g in
    let z = y.kept.size in
    let l = part_length t o k (omega arith) in
    let a = ap length y.holds in
    let q : k ≡ n = omega arith in
    subst (λ (v : ℕ). Put s t o v whole) q y

pub rows_at_is : (sheet : List ℕ) (c : SceneStruct) (s u t : List Float) (x r p : ℕ) → r + c.rows ≤ p
    → Put s u p (12 * c.m) (poses_doubles (poses_at (scene_of sheet c) (part s x c.n)))
    → Put u t r c.rows (all_rows (poses_in u p c.m) (scene_of sheet c).rels) → RowsAt (scene_of sheet c) s t x c.n r c.rows p
rows_at_is sheet c s u t x r p h a b =
    let l : length (poses_at (scene_of sheet c) (part s x c.n)) ≡ c.m
    = length_poses (part s x c.n) (scene_of sheet c).bodies (layout (scene_of sheet c)) (length_layout (scene_of sheet c).rels 0 0 (scene_of sheet c).bodies) ∙ length_bodies sheet c in
    let e = poses_there u p (12 * c.m) (poses_at (scene_of sheet c) (part s x c.n)) a.holds (ap (λ (w : ℕ). 12 * w) l) c.m l in
    record {
      size = b.kept.size ∙ a.kept.size;
      holds = b.holds ∙ ap (λ (q : List (Pose Float)). all_rows q (scene_of sheet c).rels) e;
      below = λ q k. kept_at_below u t r (r + c.rows) q nan k b.kept ∙ kept_at_below s u p (p + 12 * c.m) q nan (omega arith) a.kept;
      between = λ q k v. kept_at_above u t r (r + c.rows) q nan k b.kept ∙ kept_at_below s u p (p + 12 * c.m) q nan v a.kept;
    }

-- ---- weights

-- the inverse weights from body i on
abbrev pub rest_weights : List ℕ → SceneStruct → Float → Option ℕ → ℕ → List Float
rest_weights sheet c weight drag i = map inverse_weight (weights_from weight drag i (drop i (scene_of sheet c).bodies) (drop i (layout (scene_of sheet c))))

weights_cons : (weight : Float) (drag : Option ℕ) (i : ℕ) (b : Body) (bodies : List Body) (k : Option ℕ) (l : List (Option ℕ))
    → map inverse_weight (weights_from weight drag i (b ∷ bodies) (k ∷ l)) ≡ map inverse_weight (weights_of weight drag i b k) ++ map inverse_weight (weights_from weight drag (suc i) bodies l)
unfolding weights_from
weights_cons weight drag i b bodies none l = refl
weights_cons weight drag i b bodies (some k) l = refl

pub weights_next : (sheet : List ℕ) (c : SceneStruct) (weight : Float) (drag : Option ℕ) (i : ℕ) → Laid sheet c → i < c.m
    → rest_weights sheet c weight drag i ≡ inverse_at sheet c weight drag i ++ rest_weights sheet c weight drag (suc i)
weights_next sheet c weight drag i laid h =
    (λ z. map inverse_weight (weights_from weight drag i (bodies_next sheet c i h z) (layout_next sheet c i laid h z)))
    ∙ weights_cons weight drag i (body_at sheet (c.bodies + 136 * i)) (drop (suc i) (scene_of sheet c).bodies) (first_unknown (get_or c.index i None)) (drop (suc i) (layout (scene_of sheet c)))

pub weights_done : (sheet : List ℕ) (c : SceneStruct) (weight : Float) (drag : Option ℕ) (i : ℕ) → i ≡ c.m → rest_weights sheet c weight drag i ≡ []
unfolding weights_from
weights_done sheet c weight drag i e =
    ap (λ (l : List Body). map inverse_weight (weights_from weight drag i l (drop i (layout (scene_of sheet c))))) (drop_whole (scene_of sheet c).bodies i (length_bodies sheet c ∙ sym e))

length_weights : (weight : Float) (drag : Option ℕ) (i : ℕ) (bodies : List Body) (l : List (Option ℕ)) → length l ≡ length bodies → length (map inverse_weight (weights_from weight drag i bodies l)) ≡ unknowns_in l
unfolding weights_from unknowns_in
length_weights weight drag i [] [] e = refl
length_weights weight drag i [] (k ∷ l) e = absurd (omega arith)
length_weights weight drag i (b ∷ bodies) [] e = refl
length_weights weight drag i (b ∷ bodies) (none ∷ l) e = length_weights weight drag (suc i) bodies l (omega arith)
length_weights weight drag i (b ∷ bodies) (some k ∷ l) e = let w = length_weights weight drag (suc i) bodies l (omega arith) in omega arith

pub weights_length : (sheet : List ℕ) (c : SceneStruct) (weight : Float) (drag : Option ℕ) → Laid sheet c → length (map inverse_weight (weights (scene_of sheet c) weight drag)) ≡ c.n
weights_length sheet c weight drag laid =
    length_weights weight drag 0 (scene_of sheet c).bodies (layout (scene_of sheet c)) (length_layout (scene_of sheet c).rels 0 0 (scene_of sheet c).bodies) ∙ sym laid.unknown_count

pub no_weights : (sheet : List ℕ) (c : SceneStruct) (weight : Float) (drag : Option ℕ) (i : ℕ) → get_or c.index i None ≡ None → inverse_at sheet c weight drag i ≡ []
no_weights sheet c weight drag i e = rw e

pub some_weights : (sheet : List ℕ) (c : SceneStruct) (weight : Float) (drag : Option ℕ) (i k : ℕ) → get_or c.index i None ≡ Some k
    → inverse_at sheet c weight drag i ≡ map inverse_weight (body_weights (drag_factor weight drag i) (half_size (body_at sheet (c.bodies + 136 * i)).size))
some_weights sheet c weight drag i k e = rw e

pub put_nothing : (s : List Float) (o : ℕ) (l : List Float) → l ≡ [] → PutNext s s o o (length l) l
put_nothing s o l e =
    subst (λ (w : List Float). PutNext s s o o (length w) w) (sym e) (record { next = omega arith; put = record { holds = refl; kept = kept_refl s o (o + 0) } })

pub put_six_is : (s t : List Float) (o r : ℕ) (l w : List Float) → length l ≡ 6 → w ≡ l → r ≡ o + 6 → Put s t o 6 l → PutNext s t o r (length w) w
put_six_is s t o r l w n e h y =
    subst (λ (v : List Float). PutNext s t o r (length v) v) (sym e) (subst (λ (k : ℕ). PutNext s t o r k l) (sym n) (record { next = h; put = y }))

module _ (sheet : List ℕ) (c : SceneStruct) (weight : Float) (drag : Option ℕ) (s t : List Float) (w at i : ℕ) (laid : Laid sheet c) (h : i < c.m) (l : w ≤ at) (m : at ≤ w + c.n) (f : w + c.n ≤ length s)
    (g : Growing s t w (at - w) (rest_weights sheet c weight drag i) (map inverse_weight (weights (scene_of sheet c) weight drag))) where
  next_weights : rest_weights sheet c weight drag i ≡ inverse_at sheet c weight drag i ++ rest_weights sheet c weight drag (i + 1)
  next_weights = rw add-one (weights_next sheet c weight drag i laid h)

  pub weights_room : at + length (inverse_at sheet c weight drag i) ≤ w + c.n
  weights_room =
      let a : at - w + length (inverse_at sheet c weight drag i) ≤ length (map inverse_weight (weights (scene_of sheet c) weight drag))
      = growing_room s t w (at - w) (inverse_at sheet c weight drag i) (rest_weights sheet c weight drag i) (rest_weights sheet c weight drag (i + 1)) (map inverse_weight (weights (scene_of sheet c) weight drag)) (omega arith)
      next_weights
      g in
      let b = weights_length sheet c weight drag laid in
      omega arith

  pub weights_step : (u : List Float) (at' : ℕ) → PutNext t u at at' (length (inverse_at sheet c weight drag i)) (inverse_at sheet c weight drag i)
      → Growing s u w (at' - w) (rest_weights sheet c weight drag (i + 1)) (map inverse_weight (weights (scene_of sheet c) weight drag))
  weights_step u at' y =
      let n = y.next in
      growing_step s t u w (at - w) at (length (inverse_at sheet c weight drag i)) (at' - w) _ _ _ _ (omega arith) (omega arith) next_weights g y.put

-- ---- what single functions need

pub growing_from : (s : List Float) (p : ℕ) (whole : List Float) → Growing s s p (p - p) whole whole
growing_from s p whole = let e : 0 ≡ p - p = omega arith in subst (λ (j : ℕ). Growing s s p j whole whole) e (growing_start s p whole)

pub pose_of_lem : (s : List Float) (p m i : ℕ) → i < m → pose_in s (p + 12 * i) ≡ get_or (poses_in s p m) i ground_pose
pose_of_lem s p m i h = sym (get_d_list_of (λ i. pose_in s (p + 12 * i)) m i ground_pose h)

-- the pose of an end, body i's being w
module _ (s : List Float) (p m i : ℕ) (w : Pose Float) where
  pub end_here : (k : ℕ) → k ≡ i → k < m → w ≡ get_or (set (poses_in s p m) i w) k ground_pose
  end_here k e h =
      let f = length_list_of (λ i. pose_in s (p + 12 * i)) m in
      sym (get_or-set_same (poses_in s p m) i w ground_pose (omega arith)) ∙ ap (λ (q : ℕ). get_or (set (poses_in s p m) i w) q ground_pose) (sym e)

  pub end_there : (k : ℕ) → (k ≡ i → ⊥) → k < m → pose_in s (p + 12 * k) ≡ get_or (set (poses_in s p m) i w) k ground_pose
  end_there k e h = pose_of_lem s p m k h ∙ sym (get_or-set_other (poses_in s p m) i k w ground_pose e)

  pub end_past : (k : ℕ) → m ≤ k → ground_pose ≡ get_or (set (poses_in s p m) i w) k ground_pose
  end_past k h =
      let e = length-set (poses_in s p m) i w in
      let f = length_list_of (λ i. pose_in s (p + 12 * i)) m in
      sym (get_or-eq_default (set (poses_in s p m) i w) ground_pose (omega arith))

-- where the number is no body's, none has moved
pub none_moved : (s : List Float) (p m : ℕ) (w : Pose Float) → set (poses_in s p m) m w ≡ poses_in s p m
none_moved s p m w = set_out (poses_in s p m) m w (let e = length_list_of (λ i. pose_in s (p + 12 * i)) m in omega arith)

pub put_more : (s t : List Float) (o i : ℕ) (l : List Float) (d : Float) → i < length l → o + i < length t → Put s t o i (take i l) → Put s (set t (o + i) (get_or l i d)) o (i + 1) (take (i + 1) l)
put_more s t o i l d h k y =
    subst (λ (w : List Float). Put s (set t (o + i) (get_or l i d)) o (i + 1) w) (sym (take-suc l i d h) ∙ ap (λ (w : ℕ). take w l) (sym (add-one i)))
    (put_then s t (set t (o + i) (get_or l i d)) o i (o + i) 1 (take i l) (get_or l i d ∷ []) refl y (put_one t (o + i) (get_or l i d) k))

pub rel_small : (sheet : List ℕ) (c : SceneStruct) (poses : List (Pose Float)) (j : ℕ) → length (rel_rows sheet c poses j) ≤ 7
rel_small sheet c poses j = rw residual_length (row_count_le _ _ _)

pub packed : (r : RowsStruct) (l : List Float) → r ≡ pack l → r.n ≡ length l
unfolding pack
packed r l e = ap (λ (q : RowsStruct). q.n) e

pub packed_next : (s t : List Float) (o q : ℕ) (r : RowsStruct) (l : List Float) → r ≡ pack l → length l ≤ 7 → PutNext s t o q r.n (Rows.rows_of r) → PutNext s t o q (length l) l
packed_next s t o q r l e h y =
    let z : PutNext s t o q r.n l = subst (λ (w : List Float). PutNext s t o q r.n w) (ap Rows.rows_of e ∙ rows_packed l h) y in
    subst (λ (k : ℕ). PutNext s t o q k l) (packed r l e) z

pub six_are : (s t : List Float) (o : ℕ) (a a' b b' : Float) → a ≡ a' → b ≡ b' → Put s t o 6 (a ∷ a ∷ a ∷ b ∷ b ∷ b ∷ []) → Put s t o 6 (a' ∷ a' ∷ a' ∷ b' ∷ b' ∷ b' ∷ [])
six_are s t o a a' b b' e f y =
    subst (λ (w : Float). Put s t o 6 (a' ∷ a' ∷ a' ∷ w ∷ w ∷ w ∷ [])) f (subst (λ (w : Float). Put s t o 6 (w ∷ w ∷ w ∷ b ∷ b ∷ b ∷ [])) e y)

-- ---- zeros

pub zeros_are : (n k : ℕ) → n ≡ k → replicate n zero64 ≡ list_of (λ i. zero64) k
zeros_are n k e =
    list_ext (λ i. zero64) k (replicate n zero64) (length-replicate n zero64 ∙ e) (λ i h. get_or-replicate n i zero64 nan (omega arith))

-- ---- one pose put anew

-- twelve doubles that are the same are the same pose
pub pose_same : (s t : List Float) (w : ℕ) → ((q : ℕ) → w ≤ q → q < w + 12 → get_or t q nan ≡ get_or s q nan) → pose_in t w ≡ pose_in s w
pose_same s t w h =
    let a0 = h w (omega arith) (omega arith) in
    let a1 = h (w + 1) (omega arith) (omega arith) in
    let a2 = h (w + 2) (omega arith) (omega arith) in
    let b0 = h (w + 3) (omega arith) (omega arith) in
    let b1 = h (w + 3 + 1) (omega arith) (omega arith) in
    let b2 = h (w + 3 + 2) (omega arith) (omega arith) in
    let c0 = h (w + 6) (omega arith) (omega arith) in
    let c1 = h (w + 6 + 1) (omega arith) (omega arith) in
    let c2 = h (w + 6 + 2) (omega arith) (omega arith) in
    let d0 = h (w + 9) (omega arith) (omega arith) in
    let d1 = h (w + 9 + 1) (omega arith) (omega arith) in
    let d2 = h (w + 9 + 2) (omega arith) (omega arith) in
    λ v.
    record {
      r = record { r0 = record { x = a0 v; y = a1 v; z = a2 v }; r1 = record { x = b0 v; y = b1 v; z = b2 v }; r2 = record { x = c0 v; y = c1 v; z = c2 v } };
      t = record { x = d0 v; y = d1 v; z = d2 v };
    }

-- the pose that was put
pub pose_put : (s t : List Float) (w : ℕ) (q : Pose Float) → Put s t w 12 (pose_doubles q) → pose_in t w ≡ q
unfolding poses_doubles
pose_put s t w q y =
    let e : poses_in t w 1 ≡ q ∷ [] = poses_there t w 12 (q ∷ []) y.holds refl 1 refl in
    let z : w ≡ w + 12 * 0 = omega arith in
    ap (pose_in t) z ∙ pose_of_lem t w 1 0 (omega arith) ∙ ap (λ (l : List (Pose Float)). get_or l 0 ground_pose) e

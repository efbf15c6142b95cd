-- Lists written to the front of a slice, and what `solve` keeps of its runs. Assumes nothing.
use mathlib.Core.Path.{◌≡◌, refl, sym, ap, subst, ◌∙◌}
use mathlib.Core.Bool.{Bool, true, false, ◌||◌, cond}
use mathlib.Core.List.{List, [], ◌∷◌, ◌++◌, map, map-append, append_assoc, append-nil}
use mathlib.Core.Option.{Option}
use Prim.Native.Nat.{ℕ, zero, suc, ◌+◌, ◌*◌, ◌≤◌, ◌<◌}
use native.Mathlib.Omega.{arith}
use native.Mathlib.Numerals.{add-one}
use borrow.Author.Tests.{eq-eqb, ne_eqb}
use lib.ListN.{length, get_or, set, take, drop, length-drop}
use lib.Seq.{take-suc, get_or-drop}
use lib.Dec.{eqb}
use lib.Ieee.{Float, lt}
use Rattle.numbers.specs.MaxAbs.{max_abs}
use Rattle.std.specs.Prelude.{unwrap_or, Some, None}
use Rattle.std.specs.Prelude.{Option as MaybeOf}
use Rattle.vectors.specs.declared.space.Frame.{Frame as FrameStruct}
use Rattle.vectors.specs.Space.{Frame, frame, made}
use Rattle.vectors.specs.Math.{frame_of}
use Rattle.relations.specs.Geometry.{Pose, frame_or}
use Rattle.relations.specs.Model.{Body, Rel}
use Rattle.least_squares.specs.Lm.{list_of, inverse_weight, Outcome, run, all_finite}
use Rattle.least_squares.proofs.FiniteLaws.{inverses_finite}
use Rattle.least_squares.specs.LmPosts.{Copied}
use Rattle.least_squares.specs.Memory.{part}
use Rattle.records.specs.Record.{body_at, rel_at}
use Rattle.scene.specs.Scene.{scene_in}
use Rattle.relations.specs.Rows as Rows
use Rattle.scene.specs.Scene.{Put, RowsAt, scene_of, pose_in, poses_in, poses_doubles, rel_rows}
use Rattle.scene.specs.Solve.{Scene, layout, unknowns, poses_at, rows_at, rows_of, Parameters, weights, start_at, slight_turn, run_from, better, solved, solve_with, frame_at, frames_from}
use Rattle.judging.proofs.CountLaws.{rows_packed}
use Rattle.relations.specs.declared.rows.Rows.{Rows as RowsStruct}
use Rattle.scene.specs.declared.scene.Scene.{Scene as SceneStruct}
use Rattle.least_squares.proofs.MemoryLaws.{take_same, taken_part, kept_refl, kept_part_below, kept_part_above}
use Rattle.least_squares.proofs.TableLaws.{length_list_of}
use Rattle.scene.proofs.SceneLaws.{put_one, put_then, put_front, rel_small, poses_there, length_poses, length_layout, length_bodies}
use Rattle.placement.specs.Answer.{frame_doubles, frames_doubles, Worst, Better, Ended, Shown, Filled}
use Rattle.rounds.specs.Parts.{Arranged}
use Rattle.rounds.specs.Rounds.{weights_in, unknowns_in, first_in, Ran}
use Rattle.rounds.specs.declared.parts.SolveParts.{SolveParts as PartsStruct}
use Rattle.rounds.specs.declared.rounds.RunEnd.{RunEnd as RunEndStruct}

-- ---- lists written double by double

pub put_none : (s : List Float) (o : ℕ) → Put s s o 0 []
put_none s o = record { holds = refl; kept = kept_refl s o (o + 0) }

pub put_entry : (s t : List Float) (o i q : ℕ) (v : Float) (a b : List Float) → q ≡ o + i → q < length t → a ++ (v ∷ []) ≡ b → Put s t o i a → Put s (set t q v) o (i + 1) b
put_entry s t o i q v a b e h f y = subst (λ (w : List Float). Put s (set t q v) o (i + 1) w) f (put_then s t (set t q v) o i q 1 a (v ∷ []) e y (put_one t q v h))

pub list_none : {A : Type 0} (f : ℕ → A) → list_of f 0 ≡ []
unfolding list_of
list_none f = refl

pub list_more : {A : Type 0} (f : ℕ → A) (i : ℕ) (v : A) → v ≡ f i → list_of f i ++ (v ∷ []) ≡ list_of f (i + 1)
unfolding list_of
list_more f i v e = ap (λ w. list_of f i ++ (w ∷ [])) e ∙ ap (list_of f) (sym (add-one i))

pub part_more : (s : List Float) (o i : ℕ) (d : Float) → o + i < length s → part s o i ++ (get_or s (o + i) d ∷ []) ≡ part s o (i + 1)
part_more s o i d h =
    let l : i < length (drop o s) = simp length-drop (omega arith) in
    ap (λ (w : Float). take i (drop o s) ++ (w ∷ [])) (sym (get_or-drop o s i d)) ∙ sym (take-suc (drop o s) i d l) ∙ ap (λ (w : ℕ). take w (drop o s)) (sym (add-one i))

-- ---- errors

-- the error of relation j at these poses
abbrev pub error_at : List ℕ → SceneStruct → List (Pose Float) → ℕ → Float
error_at sheet c poses j = max_abs (rel_rows sheet c poses j)

map_list : {A B : Type 0} (g : A → B) (f : ℕ → A) (n : ℕ) → map g (list_of f n) ≡ list_of (λ i. g (f i)) n
unfolding list_of
map_list g f zero = refl
map_list g f (suc n) = map-append g (list_of f n) (f n ∷ []) ∙ ap (λ l. l ++ (g (f n) ∷ [])) (map_list g f n)

pub errors_are : (sheet : List ℕ) (c : SceneStruct) (poses : List (Pose Float))
    → list_of (error_at sheet c poses) c.k ≡ map (λ (rel : Rel). max_abs (rows_at poses rel)) (scene_of sheet c).rels
unfolding scene_in
errors_are sheet c poses = sym (map_list (λ (rel : Rel). max_abs (rows_at poses rel)) (λ j. rel_at sheet (c.rels + 264 * j)) c.k)

pub error_is : (sheet : List ℕ) (c : SceneStruct) (poses : List (Pose Float)) (j : ℕ) (rel : Rel) (r : RowsStruct) (e : Float) → rel ≡ rel_at sheet (c.rels + 264 * j)
    → r ≡ Rows.pack (rows_at poses rel) → e ≡ max_abs (Rows.rows_of r) → e ≡ error_at sheet c poses j
error_is sheet c poses j rel r e a b d =
    let q : r ≡ Rows.pack (rel_rows sheet c poses j) = b ∙ ap (λ (w : Rel). Rows.pack (rows_at poses w)) a in
    d ∙ ap (λ (w : RowsStruct). max_abs (Rows.rows_of w)) q ∙ ap max_abs (rows_packed (rel_rows sheet c poses j) (rel_small sheet c poses j))

-- ---- frames

-- the frame of body i at the poses from p on
abbrev pub frame_in : List ℕ → SceneStruct → List Float → ℕ → ℕ → Frame
frame_in sheet c s p i = frame_at (pose_in s (p + 12 * i)) (body_at sheet (c.bodies + 136 * i))

frames_append : (a b : List Frame) → frames_doubles (a ++ b) ≡ frames_doubles a ++ frames_doubles b
unfolding frames_doubles
frames_append [] b = refl
frames_append (f ∷ a) b = ap (λ (w : List Float). frame_doubles f ++ w) (frames_append a b) ∙ sym (append_assoc (frame_doubles f) (frames_doubles a) (frames_doubles b))

pub frames_none : (f : ℕ → Frame) → frames_doubles (list_of f 0) ≡ []
unfolding frames_doubles list_of
frames_none f = refl

frames_one : (f : Frame) → frames_doubles (f ∷ []) ≡ frame_doubles f
unfolding frames_doubles
frames_one f = append-nil (frame_doubles f)

pub frames_more : (f : ℕ → Frame) (i : ℕ) → frames_doubles (list_of f i) ++ frame_doubles (f i) ≡ frames_doubles (list_of f (i + 1))
frames_more f i =
    ap (λ (w : List Float). frames_doubles (list_of f i) ++ w) (sym (frames_one (f i))) ∙ sym (frames_append (list_of f i) (f i ∷ [])) ∙ ap frames_doubles (list_more f i (f i) refl)

frames_snoc : (q : Pose Float) (b : Body) (poses : List (Pose Float)) (bodies : List Body) → length poses ≡ length bodies
    → frames_from (poses ++ (q ∷ [])) (bodies ++ (b ∷ [])) ≡ frames_from poses bodies ++ (frame_at q b ∷ [])
unfolding frames_from
frames_snoc q b [] [] e = refl
frames_snoc q b [] (d ∷ bodies) e = absurd (omega arith)
frames_snoc q b (p ∷ poses) [] e = absurd (omega arith)
frames_snoc q b (p ∷ poses) (d ∷ bodies) e = ap (λ (l : List Frame). frame_at p d ∷ l) (frames_snoc q b poses bodies (omega arith))

frames_list : (f : ℕ → Pose Float) (g : ℕ → Body) (n : ℕ) → frames_from (list_of f n) (list_of g n) ≡ list_of (λ i. frame_at (f i) (g i)) n
unfolding list_of frames_from
frames_list f g zero = refl
frames_list f g (suc n) =
    frames_snoc (f n) (g n) (list_of f n) (list_of g n) (length_list_of f n ∙ sym (length_list_of g n))
    ∙ ap (λ (l : List Frame). l ++ (frame_at (f n) (g n) ∷ [])) (frames_list f g n)

pub frames_are : (sheet : List ℕ) (c : SceneStruct) (s : List Float) (p : ℕ) → list_of (frame_in sheet c s p) c.m ≡ frames_from (poses_in s p c.m) (scene_of sheet c).bodies
unfolding scene_in
frames_are sheet c s p = sym (frames_list (λ i. pose_in s (p + 12 * i)) (λ i. body_at sheet (c.bodies + 136 * i)) c.m)

-- the frame where there is one, else the other
pub frame_or_is : (m : MaybeOf FrameStruct) (own : FrameStruct) (w : FrameStruct) → w ≡ unwrap_or m own → frame w ≡ frame_or (made m) (frame own)
frame_or_is None own w e = ap frame e
frame_or_is (Some f) own w e = ap frame e

pub frame_at_is : (q q' : Pose Float) (b b' : Body) (m : Option Frame) (w : Frame) → q ≡ q' → b ≡ b' → m ≡ frame_of q.r q.t → w ≡ frame_or m b.frame → w ≡ frame_at q' b'
frame_at_is q q' b b' m w e f g h = h ∙ ap (λ (n : Option Frame). frame_or n b.frame) g ∙ (λ z. frame_at (e z) (f z))

pub frames_step : (sheet : List ℕ) (c : SceneStruct) (s d e u : List Float) (p i : ℕ) (w : Frame) → w ≡ frame_in sheet c s p i
    → Put d e 0 (12 * i) (frames_doubles (list_of (frame_in sheet c s p) i)) → Put e u (12 * i) 12 (frame_doubles w)
    → Put d u 0 (12 * (i + 1)) (frames_doubles (list_of (frame_in sheet c s p) (i + 1)))
frames_step sheet c s d e u p i w h x y =
    let z : Put e u (12 * i) 12 (frame_doubles (frame_in sheet c s p i)) = subst (λ (f : Frame). Put e u (12 * i) 12 (frame_doubles f)) h y in
    let v = put_then d e u 0 (12 * i) (12 * i) 12 _ _ (omega arith) x z in
    let n : 12 * i + 12 ≡ 12 * (i + 1) = omega arith in
    subst (λ (k : ℕ). Put d u 0 k (frames_doubles (list_of (frame_in sheet c s p) (i + 1)))) n
    (subst (λ (l : List Float). Put d u 0 (12 * i + 12) l) (frames_more (frame_in sheet c s p) i) v)

-- ---- the largest row

pub worst_is : (sc : Scene) (c : SceneStruct) (p : PartsStruct) (s t : List Float) (x : ℕ) (r : Float) → RowsAt sc s t x c.n p.ahead c.rows p.poses
    → r ≡ max_abs (part t p.ahead c.rows) → Worst sc c p s t x r
worst_is sc c p s t x r y e = record { told = e ∙ ap max_abs y.holds; size = y.size; below = take_same s t p.ahead y.size y.below }

-- ---- the retry

-- what stands below `ahead` is as it was
worst_part : (sc : Scene) (c : SceneStruct) (p : PartsStruct) (s t : List Float) (x : ℕ) (r : Float) (o k : ℕ) → o + k ≤ p.ahead → Worst sc c p s t x r → part t o k ≡ part s o k
worst_part sc c p s t x r o k h y = taken_part s t p.ahead o k y.size y.below h

abbrev pub retry_of : Scene → SceneStruct → PartsStruct → Parameters → List Float → Outcome
retry_of sc c p q s = run (rows_of sc) (weights_in c p s) q.tolerance q.rounds q.row_limit (list_of slight_turn c.n)

-- the second run has ended, from the scratch s of the first run's end
pub record Again (sc : Scene) (c : SceneStruct) (p : PartsStruct) (q : Parameters) (s t : List Float) (ok : Bool) : Type 0 where
  pub told : ok ≡ (retry_of sc c p q s).converged
  pub unknowns_are : unknowns_in c p t ≡ (retry_of sc c p q s).x
  pub first : first_in c p t ≡ unknowns_in c p s
  pub size : length t ≡ length s

-- the weights are as they were, also where the second run starts
pub again_weights : (c : SceneStruct) (p : PartsStruct) (s t u : List Float) (l : List Float) → Arranged c p (length s) → Copied s t p.x p.first c.n → Put t u p.x c.n l
    → weights_in c p u ≡ weights_in c p s
again_weights c p s t u l a d y =
    kept_part_above t u p.x (p.x + c.n) p.weights c.n (omega arith) y.kept ∙ kept_part_above s t p.first (p.first + c.n) p.weights c.n (omega arith) d.kept

pub again_is : (sc : Scene) (c : SceneStruct) (p : PartsStruct) (q : Parameters) (s t u v : List Float) (e : RunEndStruct) → Arranged c p (length s) → Copied s t p.x p.first c.n
    → Put t u p.x c.n (list_of slight_turn c.n) → Ran c p u v (run (rows_of sc) (weights_in c p u) q.tolerance q.rounds q.row_limit (unknowns_in c p u)) e → Again sc c p q s v e.converged
again_is sc c p q s t u v e a d y r =
    let w = again_weights c p s t u (list_of slight_turn c.n) a d y in
    let o : run (rows_of sc) (weights_in c p u) q.tolerance q.rounds q.row_limit (unknowns_in c p u) ≡ retry_of sc c p q s = λ z. run (rows_of sc) (w z) q.tolerance q.rounds q.row_limit (y.holds z) in
    record {
      told = r.told ∙ ap (λ (o : Outcome). o.converged) o;
      unknowns_are = r.unknowns ∙ ap (λ (o : Outcome). o.x) o;
      first = r.keeps.first ∙ kept_part_below t u p.x (p.x + c.n) p.first c.n a.first y.kept ∙ d.copy;
      size = r.keeps.size ∙ y.kept.size ∙ d.kept.size;
    }

pub better_converged : (sc : Scene) (c : SceneStruct) (p : PartsStruct) (s : List Float) (converged : Bool) → converged ≡ true → Better sc c p s s converged true
better_converged sc c p s converged h = record { told = rw h; size = refl; below = refl }

pub better_smaller : (sc : Scene) (c : SceneStruct) (p : PartsStruct) (s t u : List Float) (converged : Bool) (now before : Float) → Arranged c p (length s) → converged ≡ false
    → Worst sc c p s t p.x now → Worst sc c p t u p.first before → Better sc c p s u converged (lt now before)
better_smaller sc c p s t u converged now before a h m n =
    let e : before ≡ max_abs (rows_of sc (first_in c p s)) = n.told ∙ ap (λ (x : List Float). max_abs (rows_of sc x)) (worst_part sc c p s t p.x now p.first c.n (omega arith) m) in
    record { told = rw (h, m.told, e); size = n.size ∙ m.size; below = n.below ∙ m.below }

module _ (sc : Scene) (c : SceneStruct) (p : PartsStruct) (q : Parameters) (s v w : List Float) (ok kept : Bool) (first : Outcome) (at : Arranged c p (length s)) (a : Again sc c p q s v ok)
    (b : Better sc c p v w ok kept) (e : first.x ≡ unknowns_in c p s) where
  abbrev again : Outcome
  again = retry_of sc c p q s

  better_part : (o k : ℕ) → o + k ≤ p.ahead → part w o k ≡ part v o k
  better_part o k h = taken_part v w p.ahead o k b.size b.below h

  chosen_retry : (t : Bool) → kept ≡ t → better sc first again ≡ cond t again first
  unfolding better
  chosen_retry t h =
      let k : (again.converged || lt (max_abs (rows_of sc again.x)) (max_abs (rows_of sc first.x))) ≡ t
      = (λ z. sym a.told z || lt (max_abs (rows_of sc (sym a.unknowns_are z))) (max_abs (rows_of sc ((e ∙ sym a.first) z)))) ∙ sym b.told ∙ h in
      ap (λ (d : Bool). cond d again first) k

  pub retry_kept : kept ≡ true → Ended c p s w (better sc first again) ok
  retry_kept h =
      let y = chosen_retry true h in
      record {
        told = a.told ∙ ap (λ (o : Outcome). o.converged) (sym y);
        unknowns = better_part p.x c.n (omega arith) ∙ a.unknowns_are ∙ ap (λ (o : Outcome). o.x) (sym y);
        size = b.size ∙ a.size;
      }

  pub retry_left : (u : List Float) → kept ≡ false → first.converged ≡ false → Copied w u p.first p.x c.n → Ended c p s u (better sc first again) false
  retry_left u h f d =
      let y = chosen_retry false h in
      record {
        told = sym f ∙ ap (λ (o : Outcome). o.converged) (sym y);
        unknowns = d.copy ∙ better_part p.first c.n (omega arith) ∙ a.first ∙ sym e ∙ ap (λ (o : Outcome). o.x) (sym y);
        size = d.kept.size ∙ b.size ∙ a.size;
      }

-- ---- both runs

abbrev pub first_outcome : Scene → Parameters → Option ℕ → Outcome
first_outcome sc q drag = run_from sc q drag (list_of start_at (unknowns sc))

-- the first run has ended
pub record Begun (sc : Scene) (c : SceneStruct) (p : PartsStruct) (q : Parameters) (drag : Option ℕ) (s t : List Float) (ok : Bool) : Type 0 where
  pub told : ok ≡ (first_outcome sc q drag).converged
  pub unknowns_are : unknowns_in c p t ≡ (first_outcome sc q drag).x
  pub weights_are : weights_in c p t ≡ map inverse_weight (weights sc q.drag_weight drag)
  pub size : length t ≡ length s

pub weights_finite : (sc : Scene) (q : Parameters) (drag : Option ℕ) → all_finite (map inverse_weight (weights sc q.drag_weight drag)) ≡ true
weights_finite sc q drag = inverses_finite (weights sc q.drag_weight drag)

-- the weights still stand where the first run starts
pub begun_weights : (sc : Scene) (c : SceneStruct) (p : PartsStruct) (q : Parameters) (drag : Option ℕ) (s t u : List Float) → Arranged c p (length s)
    → Put s t p.weights c.n (map inverse_weight (weights sc q.drag_weight drag)) → Put t u p.x c.n (list_of start_at c.n)
    → weights_in c p u ≡ map inverse_weight (weights sc q.drag_weight drag)
begun_weights sc c p q drag s t u a d y = kept_part_above t u p.x (p.x + c.n) p.weights c.n (omega arith) y.kept ∙ d.holds

pub begun_is : (sc : Scene) (c : SceneStruct) (p : PartsStruct) (q : Parameters) (drag : Option ℕ) (s t u v : List Float) (e : RunEndStruct) → c.n ≡ unknowns sc → Arranged c p (length s)
    → Put s t p.weights c.n (map inverse_weight (weights sc q.drag_weight drag)) → Put t u p.x c.n (list_of start_at c.n)
    → Ran c p u v (run (rows_of sc) (weights_in c p u) q.tolerance q.rounds q.row_limit (unknowns_in c p u)) e → Begun sc c p q drag s v e.converged
begun_is sc c p q drag s t u v e k a d y r =
    let w = begun_weights sc c p q drag s t u a d y in
    let x : unknowns_in c p u ≡ list_of start_at (unknowns sc) = y.holds ∙ ap (list_of start_at) k in
    let o : run (rows_of sc) (weights_in c p u) q.tolerance q.rounds q.row_limit (unknowns_in c p u) ≡ first_outcome sc q drag = λ z. run (rows_of sc) (w z) q.tolerance q.rounds q.row_limit (x z) in
    record {
      told = r.told ∙ ap (λ (o : Outcome). o.converged) o;
      unknowns_are = r.unknowns ∙ ap (λ (o : Outcome). o.x) o;
      weights_are = r.keeps.weights ∙ w;
      size = r.keeps.size ∙ y.kept.size ∙ d.kept.size;
    }

-- by whether the first run is all
abbrev chosen : Scene → Parameters → Option ℕ → Bool → Outcome
chosen sc q drag t = elim t [ true ↦ first_outcome sc q drag | false ↦ better sc (first_outcome sc q drag) (run_from sc q drag (list_of slight_turn (unknowns sc))) ]

solved_by : (sc : Scene) (q : Parameters) (drag : Option ℕ) (a b : Bool) → (first_outcome sc q drag).converged ≡ a → eqb (unknowns sc) 0 ≡ b → solved sc q drag ≡ chosen sc q drag (a || b)
unfolding solved
solved_by sc q drag a b h e = λ z. chosen sc q drag (h z || e z)

solved_converged : (sc : Scene) (q : Parameters) (drag : Option ℕ) → (first_outcome sc q drag).converged ≡ true → solved sc q drag ≡ first_outcome sc q drag
solved_converged sc q drag h = solved_by sc q drag true (eqb (unknowns sc) 0) h refl

solved_none : (sc : Scene) (q : Parameters) (drag : Option ℕ) → (first_outcome sc q drag).converged ≡ false → unknowns sc ≡ 0 → solved sc q drag ≡ first_outcome sc q drag
solved_none sc q drag h e = solved_by sc q drag false true h (eq-eqb (unknowns sc) 0 e)

solved_twice : (sc : Scene) (q : Parameters) (drag : Option ℕ) → (first_outcome sc q drag).converged ≡ false → (unknowns sc ≡ 0 → ⊥)
    → solved sc q drag ≡ better sc (first_outcome sc q drag) (run_from sc q drag (list_of slight_turn (unknowns sc)))
solved_twice sc q drag h e = solved_by sc q drag false false h (ne_eqb (unknowns sc) 0 e)

module _ (sc : Scene) (c : SceneStruct) (p : PartsStruct) (q : Parameters) (drag : Option ℕ) (s v : List Float) (ok : Bool) (k : c.n ≡ unknowns sc) (b : Begun sc c p q drag s v ok) where
  first_ended : (t : Bool) → ok ≡ t → solved sc q drag ≡ first_outcome sc q drag → Ended c p s v (solved sc q drag) t
  first_ended t h e =
      record { told = sym h ∙ b.told ∙ ap (λ (o : Outcome). o.converged) (sym e); unknowns = b.unknowns_are ∙ ap (λ (o : Outcome). o.x) (sym e); size = b.size }

  pub first_converged : ok ≡ true → Ended c p s v (solved sc q drag) true
  first_converged h = first_ended true h (solved_converged sc q drag (sym b.told ∙ h))

  pub first_still : ok ≡ false → c.n ≡ 0 → Ended c p s v (solved sc q drag) false
  first_still h e = first_ended false h (solved_none sc q drag (sym b.told ∙ h) (sym k ∙ e))

  pub twice : (w : List Float) (again : Bool) → ok ≡ false → (c.n ≡ 0 → ⊥)
      → ((first : Outcome) → first.converged ≡ false → first.x ≡ unknowns_in c p v → Ended c p v w (better sc first (retry_of sc c p q v)) again) → Ended c p s w (solved sc q drag) again
  twice w again h e f =
      let y = f (first_outcome sc q drag) (sym b.told ∙ h) (sym b.unknowns_are) in
      let o : better sc (first_outcome sc q drag) (retry_of sc c p q v) ≡ solved sc q drag
      = (λ z. better sc (first_outcome sc q drag) (run (rows_of sc) (b.weights_are z) q.tolerance q.rounds q.row_limit (list_of slight_turn (k z)))) ∙ sym (solved_twice sc q drag (sym b.told ∙ h) (λ y. e (k ∙ y))) in
      record { told = y.told ∙ ap (λ (o : Outcome). o.converged) o; unknowns = y.unknowns ∙ ap (λ (o : Outcome). o.x) o; size = y.size ∙ b.size }

-- ---- what is filled in

pub shown_is : (sheet : List ℕ) (c : SceneStruct) (p : PartsStruct) (t u poses poses' frames frames' errors errors' : List Float)
    → Put t u p.poses (12 * c.m) (poses_doubles (poses_at (scene_of sheet c) (unknowns_in c p t)))
    → Put poses poses' 0 (12 * c.m) (part u p.poses (12 * c.m))
    → frames' ≡ frames_doubles (frames_from (poses_in u p.poses c.m) (scene_of sheet c).bodies) ++ drop (12 * c.m) frames
    → errors' ≡ map (λ (rel : Rel). max_abs (rows_at (poses_in u p.poses c.m) rel)) (scene_of sheet c).rels ++ drop c.k errors
    → Shown (scene_of sheet c) c.m c.k (unknowns_in c p t) poses poses' frames frames' errors errors'
shown_is sheet c p t u poses poses' frames frames' errors errors' y d f e =
    let sc = scene_of sheet c in
    let there : List (Pose Float) = poses_at sc (unknowns_in c p t) in
    let l : length there ≡ c.m
    = length_poses (unknowns_in c p t) sc.bodies (layout sc) (length_layout sc.rels 0 0 sc.bodies) ∙ length_bodies sheet c in
    let z : poses_in u p.poses c.m ≡ there = poses_there u p.poses (12 * c.m) there y.holds (ap (λ (w : ℕ). 12 * w) l) c.m l in
    record {
      poses_are = put_front poses poses' (12 * c.m) _ d ∙ ap (λ (w : List Float). w ++ drop (12 * c.m) poses) y.holds;
      frames_are = f ∙ ap (λ (w : List (Pose Float)). frames_doubles (frames_from w sc.bodies) ++ drop (12 * c.m) frames) z;
      errors_are = e ∙ ap (λ (w : List (Pose Float)). map (λ (rel : Rel). max_abs (rows_at w rel)) sc.rels ++ drop c.k errors) z;
    }

pub filled_is : (sc : Scene) (c : SceneStruct) (p : PartsStruct) (q : Parameters) (drag : Option ℕ) (s t poses poses' frames frames' errors errors' : List Float) (ok : Bool)
    → Ended c p s t (solved sc q drag) ok → Shown sc c.m c.k (unknowns_in c p t) poses poses' frames frames' errors errors'
    → Filled sc q drag c.m c.k poses poses' frames frames' errors errors' ok
unfolding solve_with
filled_is sc c p q drag s t poses poses' frames frames' errors errors' ok a y =
    let w : Shown sc c.m c.k (solved sc q drag).x poses poses' frames frames' errors errors' = subst (λ (x : List Float). Shown sc c.m c.k x poses poses' frames frames' errors errors') a.unknowns y in
    record { poses_are = w.poses_are; frames_are = w.frames_are; errors_are = w.errors_are; converged = a.told }

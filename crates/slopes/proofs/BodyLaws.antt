-- The slopes body by body: a body's poses a step ahead and a step behind are those of the definition, so the slopes of the rows there are its six columns, and all bodies' columns are
-- all columns. Assumes nothing.
use mathlib.Core.Path.{◌≡◌, refl, sym, ap, subst, ◌∙◌}
use mathlib.Core.List.{List}
use mathlib.Core.Option.{none, some}
use Prim.Native.Nat.{ℕ, ◌+◌, ◌-◌, ◌*◌, ◌≤◌, ◌<◌}
use native.Mathlib.Omega.{arith}
use native.Mathlib.Decide.{dec_lt}
use lib.ListN.{length, get_or, set}
use lib.Seq.{get_or-set_same, get_or-set_other}
use lib.Ieee.{Float, nan, binary64, add, sub}
use Rattle.std.specs.Prelude.{None}
use Rattle.numbers.specs.Double.{zero64}
use Rattle.relations.specs.Geometry.{Pose}
use Rattle.relations.specs.Model.{Body}
use Rattle.records.specs.Record.{body_at}
use Rattle.least_squares.specs.Lm.{list_of, table_of, step_of, slope_of, slope, jacobian}
use Rattle.least_squares.specs.Memory.{part}
use Rattle.scene.specs.Solve.{Scene, layout, unknowns_in, three, moved_pose, pose_at, poses_at, all_rows, rows_of}
use Rattle.scene.specs.Scene.{scene_of, Laid, pose_doubles, poses_doubles, pose_in, poses_in, Put, Slopes}
use Rattle.scene.specs.declared.scene.Scene.{Scene as SceneStruct}
use Rattle.least_squares.proofs.MemoryLaws.{part_length, part_at, part_set, part_part, part_same, part_below, take_same, kept_part_below, kept_at_below, kept_at_above}
use Rattle.least_squares.proofs.TableLaws.{one_more, in_rows, get_d_list_of, table_ext}
use Rattle.scene.proofs.SceneLaws.{three_part, length_layout, length_poses, length_bodies, poses_there, pose_same, pose_put}
use Rattle.slopes.specs.Moved.{moved_slope, Steps, Block, Clear}
use Rattle.slopes.specs.AnewSlopes.{Apart, unknowns_at, given, MovedAlong, MovedPoses, Standing, ColumnsFrom}
use Rattle.slopes.specs.declared.anew_slopes.SlopeParts.{SlopeParts as PartsStruct}
use Rattle.slopes.proofs.SlopeLaws.{column_of}
use Rattle.slopes.proofs.StillLaws.{slope_still}
use Rattle.slopes.proofs.MovedLaws.{poses_behind_lem}
use Rattle.slopes.proofs.AnewLaws.{moved_back, given_first, given_next, given_still, first_none}

-- ---- the six unknowns of a body, by themselves

pose_six : (xs : List Float) (b : Body) (k e : ℕ) (v : Float) → e < 6 → pose_at (set (part xs k 6) e v) b (some 0) ≡ pose_at (set xs (k + e) v) b (some k)
unfolding pose_at
pose_six xs b k e v h =
    let ys = set xs (k + e) v in
    let p : part ys k 6 ≡ set (part xs k 6) e v = part_set xs k 6 e v h in
    let t : three (set (part xs k 6) e v) 0 ≡ three ys k = ap (λ (l : List Float). three l 0) (sym p) ∙ sym (three_part ys k 6 0 k (omega arith) (omega arith)) in
    let w : three (set (part xs k 6) e v) 3 ≡ three ys (k + 3) = ap (λ (l : List Float). three l 3) (sym p) ∙ sym (three_part ys k 6 3 (k + 3) refl (omega arith)) in
    λ z. moved_pose b (t z) (w z)

-- ---- the poses a step ahead and a step behind

-- twelve places that were put elsewhere leave a pose
pub slot_kept : (s t : List Float) (w v : ℕ) (l : List Float) → Put s t w 12 l → (v < w → v + 12 ≤ w) → ((v < w → ⊥) → w + 12 ≤ v) → pose_in t v ≡ pose_in s v
slot_kept s t w v l y below above = pose_same s t v (λ q a b. go q a b (dec_lt v w))
  where
    go : (q : ℕ) → v ≤ q → q < v + 12 → Dec (v < w) → get_or t q nan ≡ get_or s q nan
    go q a b (yes h) = let m = below h in kept_at_below s t w (w + 12) q nan (omega arith) y.kept
    go q a b (no h) = let m = above h in kept_at_above s t w (w + 12) q nan (omega arith) y.kept

pub moved_along : (b : Body) (xs s u t : List Float) (e : ℕ) (h : Float) (up down : Pose Float) → e < 6 → h ≡ step_of (get_or xs e nan) → Put s u (12 * e) 12 (pose_doubles up)
    → up ≡ pose_at (set xs e (add binary64 (get_or xs e nan) h)) b (some 0)
    → Put u t (72 + 12 * e) 12 (pose_doubles down)
    → down ≡ pose_at (set xs e (sub binary64 (get_or xs e nan) h)) b (some 0)
    → MovedAlong b xs s t e h
moved_along b xs s u t e h up down l step x p y q =
    record {
      size = y.kept.size ∙ x.kept.size;
      step = step;
      ahead_at =
          slot_kept u t (72 + 12 * e) (12 * e) _ y (λ m. omega arith) (λ m. omega arith) ∙ pose_put s u (12 * e) up x ∙ p
          ∙ ap (λ (w : Float). pose_at (set xs e (add binary64 (get_or xs e nan) w)) b (some 0)) step;
      behind_at = pose_put u t (72 + 12 * e) down y ∙ q ∙ ap (λ (w : Float). pose_at (set xs e (sub binary64 (get_or xs e nan) w)) b (some 0)) step;
      other_ahead =
          λ d m n.
          slot_kept u t (72 + 12 * e) (12 * d) _ y (λ a. omega arith) (λ a. omega arith) ∙ slot_kept s u (12 * e) (12 * d) _ x (λ a. omega arith) (λ a. omega arith);
      other_behind =
          λ d m n.
          slot_kept u t (72 + 12 * e) (72 + 12 * d) _ y (λ a. omega arith) (λ a. omega arith) ∙ slot_kept s u (12 * e) (72 + 12 * d) _ x (λ a. omega arith) (λ a. omega arith);
    }

pub moved_start : (b : Body) (xs moved steps : List Float) → MovedPoses b xs moved steps 0
moved_start b xs moved steps =
    record { step = λ e h. absurd (omega arith); ahead_at = λ e h. absurd (omega arith); behind_at = λ e h. absurd (omega arith) }

pub moved_step : (b : Body) (xs s t steps : List Float) (e : ℕ) (h : Float) → e < length steps → e < 6 → MovedAlong b xs s t e h → MovedPoses b xs s steps e
    → MovedPoses b xs t (set steps e h) (e + 1)
moved_step b xs s t steps e h l m y g =
    record {
      step =
          one_more (λ d. get_or (set steps e h) d nan ≡ step_of (get_or xs d nan)) e (λ d k. get_or-set_other steps e d h nan (λ f. absurd (omega arith)) ∙ g.step d k)
          (get_or-set_same steps e h nan l ∙ y.step);
      ahead_at = one_more (λ d. pose_in t (12 * d) ≡ _) e (λ d k. y.other_ahead d (omega arith) (λ f. absurd (omega arith)) ∙ g.ahead_at d k) y.ahead_at;
      behind_at = one_more (λ d. pose_in t (72 + 12 * d) ≡ _) e (λ d k. y.other_behind d (omega arith) (λ f. absurd (omega arith)) ∙ g.behind_at d k) y.behind_at;
    }

pub moved_end : (b : Body) (xs moved steps : List Float) (e : ℕ) → e ≡ 6 → MovedPoses b xs moved steps e → MovedPoses b xs moved steps 6
moved_end b xs moved steps e f g = subst (MovedPoses b xs moved steps) f g

pub moved_as : (b b' : Body) (xs moved steps : List Float) → b ≡ b' → MovedPoses b xs moved steps 6 → MovedPoses b' xs moved steps 6
moved_as b b' xs moved steps e g = subst (λ (w : Body). MovedPoses w xs moved steps 6) e g

pub moved_steps : (b : Body) (xs moved steps : List Float) → MovedPoses b xs moved steps 6 → Steps steps
moved_steps b xs moved steps g e h v = ap (slope_of v v) (g.step e h) ∙ slope_still v (get_or xs e nan)

-- ---- a body's six columns

module _ (sheet : List ℕ) (c : SceneStruct) (at : PartsStruct) (s : List Float) (size i k : ℕ) (laid : Laid sheet c) (apart : Apart c at size) (i-in : i < c.m) (k-in : k + 6 ≤ c.n)
    (given-at : get_or (layout (scene_of sheet c)) i none ≡ some k) (stand : Standing (scene_of sheet c) c at s k) where
  pub columns_clear : Clear s (at.slopes + k) c.n c.rows
  columns_clear r e h l =
      let z : at.slopes + k + (r * c.n + e) ≡ at.slopes + (r * c.n + (k + e)) = omega arith in
      ap (λ (w : ℕ). get_or s w nan) z ∙ stand.clear r (k + e) h (omega arith) (omega arith)

  module _ (x moved steps : List Float) (x-is : x ≡ part s (at.x + k) 6) (g : MovedPoses (body_at sheet (c.bodies + 136 * i)) x moved steps 6) where
    xs : List Float
    xs = unknowns_at c at s

    six : x ≡ part xs k 6
    unfolding xs
    six = x-is ∙ sym (part_part s at.x c.n k 6 k-in)

    value : (e : ℕ) → e < 6 → get_or x e nan ≡ get_or xs (k + e) nan
    value e l = ap (λ (w : List Float). get_or w e nan) six ∙ part_at xs k 6 e nan l

    poses_moved : (e : ℕ) (v : Float) (q : Pose Float) → e < 6 → q ≡ pose_at (set x e v) (body_at sheet (c.bodies + 136 * i)) (some 0)
        → set (poses_in s at.poses c.m) i q ≡ poses_at (scene_of sheet c) (set xs (k + e) v)
    unfolding xs
    poses_moved e v q l f =
        let b = body_at sheet (c.bodies + 136 * i) in
        let w : q ≡ pose_at (set xs (k + e) v) b (some k) = f ∙ ap (λ (y : List Float). pose_at (set y e v) b (some 0)) six ∙ pose_six xs b k e v l in
        (λ z. set (stand.poses z) i (w z)) ∙ moved_back sheet c i k e xs v laid i-in given-at l

    column_slope : (r e : ℕ) → e < 6
        → moved_slope (λ poses. all_rows poses (scene_of sheet c).rels) (poses_in s at.poses c.m) i moved steps r e ≡ slope (rows_of (scene_of sheet c)) xs r (k + e)
    unfolding slope
    column_slope r e l =
        let n = value e l in
        let h = g.step e l ∙ ap step_of n in
        let a = poses_moved e _ _ l (g.ahead_at e l) ∙ (λ z. poses_at (scene_of sheet c) (set xs (k + e) (add binary64 (n z) (step_of (n z))))) in
        let b = poses_moved e _ _ l (g.behind_at e l) ∙ (λ z. poses_at (scene_of sheet c) (set xs (k + e) (sub binary64 (n z) (step_of (n z))))) in
        λ z. slope_of (get_or (all_rows (a z) (scene_of sheet c).rels) r nan) (get_or (all_rows (b z) (scene_of sheet c).rels) r nan) (h z)

    pub body_columns_is : (t : List Float)
        → Block s t (at.slopes + k) c.n c.rows 6 (moved_slope (λ poses. all_rows poses (scene_of sheet c).rels) (poses_in s at.poses c.m) i moved steps)
        → ColumnsFrom (scene_of sheet c) c at s t k (k + 6)
    unfolding xs
    body_columns_is t y =
        record {
          size = y.size;
          entries =
              λ r d h l m.
              let e : k + (d - k) ≡ d = omega arith in
              let z : at.slopes + (r * c.n + d) ≡ at.slopes + k + (r * c.n + (d - k)) = omega arith in
              ap (λ (w : ℕ). get_or t w nan) z ∙ y.entries r (d - k) h (omega arith) ∙ column_slope r (d - k) (omega arith) ∙ ap (slope (rows_of (scene_of sheet c)) xs r) e;
          others = λ q h. y.others q (λ r e l m z. h r (k + e) l (omega arith) (omega arith) (omega arith));
        }

-- ---- a body with unknowns, and one without

pub standing_some : (sheet : List ℕ) (c : SceneStruct) (at : PartsStruct) (s : List Float) (i k : ℕ) → get_or (layout (scene_of sheet c)) i none ≡ some k
    → Standing (scene_of sheet c) c at s (given (scene_of sheet c) i)
    → Standing (scene_of sheet c) c at s k
standing_some sheet c at s i k e g = subst (Standing (scene_of sheet c) c at s) (sym (given_first (scene_of sheet c) i k e)) g

pub body_some : (sheet : List ℕ) (c : SceneStruct) (at : PartsStruct) (s t : List Float) (i k : ℕ) → get_or (layout (scene_of sheet c)) i none ≡ some k
    → ColumnsFrom (scene_of sheet c) c at s t k (k + 6)
    → ColumnsFrom (scene_of sheet c) c at s t (given (scene_of sheet c) i) (given (scene_of sheet c) (i + 1))
body_some sheet c at s t i k e g =
    subst (λ (q : ℕ). ColumnsFrom (scene_of sheet c) c at s t (given (scene_of sheet c) i) q) (given_next (scene_of sheet c) i k e)
    (subst (λ (q : ℕ). ColumnsFrom (scene_of sheet c) c at s t q (k + 6)) (given_first (scene_of sheet c) i k e) g)

pub body_none : (sheet : List ℕ) (c : SceneStruct) (at : PartsStruct) (s : List Float) (i : ℕ) → Laid sheet c → i < c.m → get_or c.index i None ≡ None
    → ColumnsFrom (scene_of sheet c) c at s s (given (scene_of sheet c) i) (given (scene_of sheet c) (i + 1))
body_none sheet c at s i laid h e =
    let w = given_still (scene_of sheet c) i (first_none sheet c i laid h e) in
    record { size = refl; entries = λ r d l k v. absurd (omega arith); others = λ q l. refl }

-- ---- all bodies

-- the columns below k of the slopes are worked, those from k on are +0, and outside the slopes nothing has changed
pub record Reached (sc : Scene) (c : SceneStruct) (at : PartsStruct) (s t : List Float) (k : ℕ) : Type 0 where
  pub size : length t ≡ length s
  pub entries : (r d : ℕ) → r < c.rows → d < k → get_or t (at.slopes + (r * c.n + d)) nan ≡ slope (rows_of sc) (unknowns_at c at s) r d
  pub clear : (r d : ℕ) → r < c.rows → k ≤ d → d < c.n → get_or t (at.slopes + (r * c.n + d)) nan ≡ zero64
  pub others : (q : ℕ) → ((r d : ℕ) → r < c.rows → d < c.n → q ≡ at.slopes + (r * c.n + d) → ⊥) → get_or t q nan ≡ get_or s q nan

module _ (sc : Scene) (c : SceneStruct) (at : PartsStruct) (size : ℕ) (apart : Apart c at size) where
  -- the unknowns and the poses are as they were
  pub reached_unknowns : (s t : List Float) (k : ℕ) → Reached sc c at s t k → unknowns_at c at t ≡ unknowns_at c at s
  reached_unknowns s t k g = part_below s t at.slopes at.x c.n g.size (λ q h. g.others q (λ r d a b e. absurd (omega arith))) apart.x

  pub reached_standing : (s t : List Float) (k : ℕ) → poses_in s at.poses c.m ≡ poses_at sc (unknowns_at c at s) → Reached sc c at s t k → Standing sc c at t k
  reached_standing s t k e g =
      record {
        poses =
            poses_behind_lem s t at.slopes c.n c.rows c.n at.poses c.m (omega arith) (omega arith) g.others ∙ e ∙ ap (poses_at sc) (sym (reached_unknowns s t k g));
        clear = g.clear;
      }

  pub reached_step : (s t u : List Float) (lo hi : ℕ) → hi ≤ c.n → lo ≤ hi → Reached sc c at s t lo → ColumnsFrom sc c at t u lo hi → Reached sc c at s u hi
  reached_step s t u lo hi w v g y =
      record {
        size = y.size ∙ g.size;
        entries = λ r d h l. go r d h l (dec_lt d lo);
        clear =
            λ r d h l m.
            y.others (at.slopes + (r * c.n + d)) (λ q e a b f x. let z = column_of r q c.n d e m (omega arith) (omega arith) in absurd (omega arith)) ∙ g.clear r d h (omega arith) m;
        others = λ q h. y.others q (λ r d a b e. h r d a (omega arith)) ∙ g.others q h;
      }
    where
      go : (r d : ℕ) → r < c.rows → d < hi → Dec (d < lo) → get_or u (at.slopes + (r * c.n + d)) nan ≡ slope (rows_of sc) (unknowns_at c at s) r d
      go r d h l (yes k) =
          y.others (at.slopes + (r * c.n + d)) (λ q e a b f x. let z = column_of r q c.n d e (omega arith) (omega arith) (omega arith) in absurd (omega arith)) ∙ g.entries r d h k
      go r d h l (no k) = y.entries r d h (omega arith) l ∙ ap (λ (q : List Float). slope (rows_of sc) q r d) (reached_unknowns s t lo g)

-- the slopes are clear and the poses are put, for a start
module _ (sheet : List ℕ) (c : SceneStruct) (at : PartsStruct) (s s1 s2 : List Float) (apart : Apart c at (length s)) (zeros : Put s s1 at.slopes (c.rows * c.n) (list_of (λ i. zero64) (c.rows * c.n)))
    (poses : Put s1 s2 at.poses (12 * c.m) (poses_doubles (poses_at (scene_of sheet c) (unknowns_at c at s1)))) where
  unknowns_start : unknowns_at c at s2 ≡ unknowns_at c at s
  unknowns_start =
      kept_part_below s1 s2 at.poses (at.poses + 12 * c.m) at.x c.n (omega arith) poses.kept
      ∙ kept_part_below s s1 at.slopes (at.slopes + c.rows * c.n) at.x c.n apart.x zeros.kept

  pub poses_start : poses_in s2 at.poses c.m ≡ poses_at (scene_of sheet c) (unknowns_at c at s2)
  poses_start =
      let xs = unknowns_at c at s1 in
      let n : length (poses_at (scene_of sheet c) xs) ≡ c.m
      = length_poses xs (scene_of sheet c).bodies (layout (scene_of sheet c)) (length_layout (scene_of sheet c).rels 0 0 (scene_of sheet c).bodies) ∙ length_bodies sheet c in
      poses_there s2 at.poses (12 * c.m) (poses_at (scene_of sheet c) xs) poses.holds (ap (λ (v : ℕ). 12 * v) n) c.m n
      ∙ ap (poses_at (scene_of sheet c)) (sym (kept_part_below s1 s2 at.poses (at.poses + 12 * c.m) at.x c.n (omega arith) poses.kept))

  pub reached_start : Reached (scene_of sheet c) c at s2 s2 (given (scene_of sheet c) 0)
  unfolding unknowns_in
  reached_start = record { size = refl; entries = λ r d h l. absurd (omega arith); clear = clear; others = λ q h. refl }
    where
      clear : (r d : ℕ) → r < c.rows → 0 ≤ d → d < c.n → get_or s2 (at.slopes + (r * c.n + d)) nan ≡ zero64
      clear r d h l m =
          let w = in_rows r d c.n c.rows h m in
          kept_at_below s1 s2 at.poses (at.poses + 12 * c.m) (at.slopes + (r * c.n + d)) nan (omega arith) poses.kept
          ∙ sym (part_at s1 at.slopes (c.rows * c.n) (r * c.n + d) nan w)
          ∙ ap (λ (l : List Float). get_or l (r * c.n + d) nan) zeros.holds
          ∙ get_d_list_of (λ i. zero64) (c.rows * c.n) (r * c.n + d) nan w

  module _ (t : List Float) (g : Reached (scene_of sheet c) c at s2 t c.n) where
    size_end : length t ≡ length s
    size_end = g.size ∙ poses.kept.size ∙ zeros.kept.size

    below : (q : ℕ) → q < at.slopes → get_or t q nan ≡ get_or s q nan
    below q h =
        g.others q (λ r d a b e. absurd (omega arith)) ∙ kept_at_below s1 s2 at.poses (at.poses + 12 * c.m) q nan (omega arith) poses.kept
        ∙ kept_at_below s s1 at.slopes (at.slopes + c.rows * c.n) q nan h zeros.kept

    between : (q : ℕ) → at.slopes + c.rows * c.n ≤ q → q < at.poses → get_or t q nan ≡ get_or s q nan
    between q h l =
        g.others q (λ r d a b e. let w = in_rows r d c.n c.rows a b in absurd (omega arith))
        ∙ kept_at_below s1 s2 at.poses (at.poses + 12 * c.m) q nan (omega arith) poses.kept
        ∙ kept_at_above s s1 at.slopes (at.slopes + c.rows * c.n) q nan h zeros.kept

    pub slopes_is : Slopes (scene_of sheet c) s t at.slopes c.n c.rows at.x at.poses
    unfolding jacobian
    slopes_is =
        let z = size_end in
        let xs = unknowns_at c at s in
        let w = part_length s at.x c.n (omega arith) in
        record {
          size = size_end;
          holds =
              table_ext (slope (rows_of (scene_of sheet c)) xs) c.n c.rows (part t at.slopes (c.rows * c.n)) (part_length t at.slopes (c.rows * c.n) (omega arith))
              (λ r d h l.
              part_at t at.slopes (c.rows * c.n) (r * c.n + d) nan (in_rows r d c.n c.rows h l) ∙ g.entries r d h l
              ∙ ap (λ (v : List Float). slope (rows_of (scene_of sheet c)) v r d) unknowns_start)
              ∙ ap (λ (v : ℕ). table_of (slope (rows_of (scene_of sheet c)) xs) v c.rows) (sym w);
          below = take_same s t at.slopes size_end below;
          between =
              part_same s t (at.slopes + c.rows * c.n) (at.poses - (at.slopes + c.rows * c.n)) size_end (λ i h. between (at.slopes + c.rows * c.n + i) (omega arith) (omega arith));
        }

-- ---- what single functions need

pub apart_same : {c : SceneStruct} {at : PartsStruct} {a b : ℕ} → b ≡ a → Apart c at a → Apart c at b
apart_same {c} {at} e h = subst (Apart c at) (sym e) h

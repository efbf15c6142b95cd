-- Trials and one round in memory: what each step is by the definitions, and what it leaves alone. By the laws of parts. Assumes nothing.
use mathlib.Core.Path.{◌≡◌, refl, sym, ap, subst, ◌∙◌}
use mathlib.Core.Bool.{Bool, true, false, ◌&&◌, cond}
use mathlib.Core.List.{List, ◌++◌}
use mathlib.Core.Option.{Option, none, some}
use Prim.Native.Nat.{ℕ, suc, ◌+◌, ◌-◌, ◌*◌, ◌≤◌, ◌<◌}
use native.Mathlib.Omega.{arith}
use lib.ListN.{length, get_or, take, drop, length-drop, length-append}
use lib.Seq.{take-length, length-take-le, take-append-add, take-add, drop-drop}
use lib.Ieee.{Float, nan, lt}
use Rattle.numbers.specs.Double.{is_finite}
use borrow.Rule.Slice.PartMut.{put_mid}
use Rattle.least_squares.specs.Memory.{part, Kept}
use Rattle.least_squares.specs.Filled.{FiniteAt}
use Rattle.least_squares.specs.Lm.{State, Tried, norm2, jacobian, all_finite, normal, stiffer, softer, judged, stepped, step_with, trial, trials, one_round}
use Rattle.least_squares.specs.Triangle.{triangle, spread}
use Rattle.least_squares.specs.LmPosts.{Matrix}
use Rattle.scene.specs.Solve.{Scene, rows_of}
use Rattle.scene.specs.Scene.{Slopes}
use Rattle.slopes.specs.AnewSlopes.{Apart}
use Rattle.scene.specs.declared.scene.Scene.{Scene as SceneStruct}
use Rattle.least_squares.proofs.FiniteLaws.{jacobian_finite, finite_part}
use Rattle.least_squares.proofs.MemoryLaws.{part_length, part_at, part_part, taken_part, kept_part_below, kept_part_above, put_tail, kept_tail, tail_part}
use Rattle.rounds.proofs.TrialLaws.{leaves_refl, leaves_trans}
use Rattle.rounds.specs.Parts.{need, solve_parts, Arranged}
use Rattle.rounds.specs.Rounds.{slopes_in, matrix_in, weights_in, unknowns_in, state_in, tried_in, Leaves, TrialMade, TrialsMade, RoundMade}
use Rattle.rounds.specs.declared.parts.SolveParts.{SolveParts as PartsStruct}
use Rattle.rounds.specs.declared.trial.Tried.{Tried as TriedStruct}

-- ---- where the parts stand

arranged : (c : SceneStruct) (size : ℕ) → need c ≤ size → Arranged c (solve_parts c) size
arranged c size h =
    record {
      first = omega arith;
      x = refl;
      slopes = refl;
      matrix = refl;
      weights = omega arith;
      damped = refl;
      right = omega arith;
      rows = omega arith;
      next = omega arith;
      ahead = omega arith;
      poses = omega arith;
      from_x = omega arith;
      from_slopes = refl;
      from_poses = omega arith;
    }

pub arranged_as : (c : SceneStruct) (p : PartsStruct) (size : ℕ) → p ≡ solve_parts c → need c ≤ size → Arranged c p size
arranged_as c p size e h = subst (λ (q : PartsStruct). Arranged c q size) (sym e) (arranged c size h)

pub arranged_same : {c : SceneStruct} {p : PartsStruct} {a b : ℕ} → b ≡ a → Arranged c p a → Arranged c p b
arranged_same {c} {p} e h = subst (Arranged c p) (sym e) h

-- in so many doubles as the parts need, or more
pub arranged_within : {c : SceneStruct} {p : PartsStruct} {size : ℕ} → Arranged c p (p.poses + 12 * c.m) → p.poses + 12 * c.m ≤ size → Arranged c p size
arranged_within a h =
    record {
      first = a.first;
      x = a.x;
      slopes = a.slopes;
      matrix = a.matrix;
      weights = a.weights;
      damped = a.damped;
      right = a.right;
      rows = a.rows;
      next = a.next;
      ahead = a.ahead;
      poses = h;
      from_x = a.from_x;
      from_slopes = a.from_slopes;
      from_poses = a.from_poses;
    }

-- ---- trials, by the definitions

worse_cond : (b : Bool) (t w : Tried) → t.better ≡ true → (cond b t w).better ≡ false → cond b t w ≡ w
worse_cond true t w e h = cc
worse_cond false t w e h = refl

judged_worse : (s : State) (xn rn : List Float) → (judged s xn rn).better ≡ false → judged s xn rn ≡ stiffer s
unfolding judged
judged_worse s xn rn h =
    worse_cond (is_finite (norm2 rn) && lt (norm2 rn) s.cost) (record { state = record { x = xn; r = rn; cost = norm2 rn; mu = softer s.mu }; better = true }) (stiffer s) refl h

pub pick_true : {A : Type 0} (b : Bool) (x y : A) → b ≡ true → elim b [ true ↦ x | false ↦ y ] ≡ x
pick_true b x y h = rw h

pub pick_false : {A : Type 0} (b : Bool) (x y : A) → b ≡ false → elim b [ true ↦ x | false ↦ y ] ≡ y
pick_false b x y h = rw h

module _ (f : List Float → List Float) (winv : List Float) where
  step_worse : (jac : List Float) (rows : ℕ) (s : State) (o : Option (List Float)) → (step_with f winv jac rows s o).better ≡ false → step_with f winv jac rows s o ≡ stiffer s
  unfolding step_with
  step_worse jac rows s none h = refl
  step_worse jac rows s (some y) h = judged_worse s (stepped s.x jac winv y rows) (f (stepped s.x jac winv y rows)) h

  -- a trial that is not better changes the damping alone
  trial_worse : (jac a : List Float) (rows : ℕ) (s : State) → (trial f winv jac a rows s).better ≡ false → trial f winv jac a rows s ≡ stiffer s
  unfolding trial
  trial_worse jac a rows s h = step_worse jac rows s _ h

  trials_better : (jac a : List Float) (rows k : ℕ) (s : State) (t : Tried) → t ≡ trial f winv jac a rows s → t.better ≡ true → trials f winv jac a rows (suc k) s ≡ t
  unfolding trials
  trials_better jac a rows k s t e h =
      ap (λ (w : Tried). elim w.better [ true ↦ w | false ↦ trials f winv jac a rows k w.state ]) (sym e) ∙ pick_true t.better t (trials f winv jac a rows k t.state) h

  trials_worse : (jac a : List Float) (rows k : ℕ) (s : State) (t : Tried) → t ≡ trial f winv jac a rows s → t.better ≡ false
      → trials f winv jac a rows (suc k) s ≡ trials f winv jac a rows k t.state
  unfolding trials
  trials_worse jac a rows k s t e h =
      ap (λ (w : Tried). elim w.better [ true ↦ w | false ↦ trials f winv jac a rows k w.state ]) (sym e) ∙ pick_false t.better t (trials f winv jac a rows k t.state) h

  trials_none : (jac a : List Float) (rows : ℕ) (s : State) → trials f winv jac a rows 0 s ≡ record { state = s; better = false }
  unfolding trials
  trials_none jac a rows s = refl

-- ---- trials in memory

-- the trials from a state, with the slopes, the matrix and the weights that s has
abbrev trials_from : Scene → SceneStruct → PartsStruct → List Float → ℕ → State → Tried
trials_from sc c p s k w = trials (rows_of sc) (weights_in c p s) (slopes_in c p s) (matrix_in c p s) c.rows k w

-- i trials were made and none was better: those left come to what all come to
pub record Trying (sc : Scene) (c : SceneStruct) (p : PartsStruct) (s t : List Float) (cost mu stiffness : Float) (i : ℕ) : Type 0 where
  pub leaves : Leaves c p s t
  pub left : trials_from sc c p s 12 (state_in c p s cost mu) ≡ trials_from sc c p s (12 - i) (state_in c p t cost stiffness)

pub trying_start : (sc : Scene) (c : SceneStruct) (p : PartsStruct) (s : List Float) (cost mu : Float) → Trying sc c p s s cost mu mu 0
trying_start sc c p s cost mu = record { leaves = leaves_refl c p s; left = refl }

module _ (sc : Scene) (c : SceneStruct) (p : PartsStruct) (s t u : List Float) (cost mu d : Float) (i : ℕ) (r : TriedStruct)
    (h : i < 12) (g : Trying sc c p s t cost mu d i) (m : TrialMade sc c p t u cost d r) where
  tried_is : tried_in c p u r ≡ trial (rows_of sc) (weights_in c p s) (slopes_in c p s) (matrix_in c p s) c.rows (state_in c p t cost d)
  tried_is =
      m.tried
      ∙ (λ j. trial (rows_of sc) (g.leaves.keeps.weights j) (g.leaves.slopes j) (g.leaves.matrix j) c.rows (state_in c p t cost d))

  one_less : trials_from sc c p s 12 (state_in c p s cost mu) ≡ trials_from sc c p s (suc (12 - (i + 1))) (state_in c p t cost d)
  one_less = let e : 12 - i ≡ suc (12 - (i + 1)) = omega arith in g.left ∙ ap (λ (k : ℕ). trials_from sc c p s k (state_in c p t cost d)) e

  pub trying_better : r.better ≡ true → TrialsMade sc c p s u cost mu r
  trying_better e =
      record {
        tried = sym (one_less ∙ trials_better (rows_of sc) (weights_in c p s) (slopes_in c p s) (matrix_in c p s) c.rows (12 - (i + 1)) (state_in c p t cost d) (tried_in c p u r) tried_is e);
        leaves = leaves_trans c p s t u g.leaves m.leaves;
      }

  -- the sum of squares is as it was
  same_cost : r.better ≡ false → r.cost ≡ cost
  same_cost e =
      let w = trial_worse (rows_of sc) (weights_in c p s) (slopes_in c p s) (matrix_in c p s) c.rows (state_in c p t cost d) (ap (λ (v : Tried). v.better) (sym tried_is) ∙ e) in
      ap (λ (v : Tried). v.state.cost) (tried_is ∙ w)

  pub trying_worse : r.better ≡ false → Trying sc c p s u cost mu r.mu (i + 1)
  trying_worse e =
      record {
        leaves = leaves_trans c p s t u g.leaves m.leaves;
        left =
            one_less
            ∙ trials_worse (rows_of sc) (weights_in c p s) (slopes_in c p s) (matrix_in c p s) c.rows (12 - (i + 1)) (state_in c p t cost d) (tried_in c p u r) tried_is e
            ∙ ap (λ (v : Float). trials_from sc c p s (12 - (i + 1)) (state_in c p u v r.mu)) (same_cost e);
      }

pub trying_end : (sc : Scene) (c : SceneStruct) (p : PartsStruct) (s t : List Float) (cost mu d : Float) (i : ℕ) → i ≡ 12 → Trying sc c p s t cost mu d i
    → TrialsMade sc c p s t cost mu (record { better = false; cost = cost; mu = d })
trying_end sc c p s t cost mu d i e g =
    let z : 12 - i ≡ 0 = omega arith in
    record {
      tried =
          sym (
          g.left ∙ ap (λ (k : ℕ). trials_from sc c p s k (state_in c p t cost d)) z
          ∙ trials_none (rows_of sc) (weights_in c p s) (slopes_in c p s) (matrix_in c p s) c.rows (state_in c p t cost d)
          );
      leaves = g.leaves;
    }

-- ---- a part that was lent from a on is back

-- the scratch below a, and what the callee left of the rest below j
taken_tail : (a : ℕ) (s q : List Float) (j : ℕ) → a ≤ length s → take j q ≡ take j (drop a s) → take (a + j) (take a s ++ q) ≡ take (a + j) s
taken_tail a s q j h e =
    ap (λ (w : ℕ). take (w + j) (take a s ++ q)) (sym (length-take-le a s h)) ∙ take-append-add (take a s) q j ∙ ap (λ (w : List Float). take a s ++ w) e ∙ sym (take-add a j s)

slopes_tail : (sc : Scene) (a : ℕ) (s q : List Float) (j n rows x b : ℕ) → a ≤ length s → Slopes sc (drop a s) q j n rows x b → Slopes sc s (take a s ++ q) (a + j) n rows (a + x) (a + b)
slopes_tail sc a s q j n rows x b h g =
    let e : a + j + rows * n ≡ a + (j + rows * n) = omega arith in
    let f : a + b - (a + j + rows * n) ≡ b - (j + rows * n) = omega arith in
    record {
      size = length-append (take a s) q ∙ (let e = g.size in let l = length-take-le a s h in let d = length-drop a s in omega arith);
      holds = tail_part a s q j (rows * n) h ∙ g.holds ∙ ap (λ (w : List Float). jacobian (rows_of sc) (take n w) rows) (drop-drop x a s);
      below = taken_tail a s q j h g.below;
      between =
          (λ i. part (take a s ++ q) (e i) (f i)) ∙ tail_part a s q (j + rows * n) (b - (j + rows * n)) h ∙ g.between ∙ ap (take (b - (j + rows * n))) (drop-drop (j + rows * n) a s)
          ∙ sym (λ i. part s (e i) (f i));
    }

-- the slopes filled, in the whole scratch
pub slopes_lent : (sc : Scene) (c : SceneStruct) (p : PartsStruct) (s q : List Float) → Arranged c p (length s)
    → Slopes sc (take (length s - p.x) (drop p.x s)) q p.seen.slopes c.n c.rows p.seen.x p.seen.poses
    → Slopes sc s (put_mid p.x (length s - p.x) s q) p.slopes c.n c.rows p.x p.poses
slopes_lent sc c p s q at g =
    let h : p.x ≤ length s = omega arith in
    let r : Slopes sc (drop p.x s) q p.seen.slopes c.n c.rows p.seen.x p.seen.poses = rw (← length-drop p.x s, take-length) at g in
    rw (put_tail p.x s q h) (rw (at.from_slopes, at.from_x, at.from_poses) at (slopes_tail sc p.x s q p.seen.slopes c.n c.rows p.seen.x p.seen.poses h r))

-- the matrix formed, in the whole scratch
pub record Formed (c : SceneStruct) (p : PartsStruct) (s t : List Float) : Type 0 where
  pub matrix : matrix_in c p t ≡ normal (slopes_in c p s) (weights_in c p s) c.n c.rows
  pub kept : Kept s t p.matrix p.weights

pub matrix_lent : (c : SceneStruct) (p : PartsStruct) (s q : List Float) → Arranged c p (length s)
    → Matrix (take (length s - p.slopes) (drop p.slopes s)) q c.n c.rows (c.rows * c.n) (c.rows * c.n + triangle c.rows)
    → Formed c p s (put_mid p.slopes (length s - p.slopes) s q)
matrix_lent c p s q at g =
    let j = p.slopes in
    let h : j ≤ length s = omega arith in
    let m : j + c.rows * c.n ≡ p.matrix = at.slopes in
    let w : j + (c.rows * c.n + triangle c.rows) ≡ p.weights = omega (arith, at.slopes, at.matrix) in
    let r : Matrix (drop j s) q c.n c.rows (c.rows * c.n) (c.rows * c.n + triangle c.rows) = rw (← length-drop j s, take-length) at g in
    rw (put_tail j s q h)
    (record {
      matrix =
          ap (λ (l : List Float). spread l c.rows) (ap (λ (o : ℕ). part (take j s ++ q) o (triangle c.rows)) (sym m) ∙ tail_part j s q (c.rows * c.n) (triangle c.rows) h)
          ∙ r.matrix
          ∙ ap (λ (l : List Float). normal (slopes_in c p s) (take c.n l) c.n c.rows) (drop-drop (c.rows * c.n + triangle c.rows) j s ∙ ap (λ (o : ℕ). drop o s) w);
      kept = rw (m, w) at (kept_tail j s q (c.rows * c.n) (c.rows * c.n + triangle c.rows) h r.kept);
    })

-- what the filling of slopes is lent is long enough
pub apart_lent : (c : SceneStruct) (p : PartsStruct) (s : List Float) → Arranged c p (length s) → Apart c p.seen (length (take (length s - p.x) (drop p.x s)))
apart_lent c p s at =
    let e : length (take (length s - p.x) (drop p.x s)) ≡ length s - p.x = length-take-le (length s - p.x) (drop p.x s) (simp length-drop (omega arith)) in
    record { x = omega arith; slopes = omega arith; poses = omega arith }

pub matrix_room : (c : SceneStruct) (p : PartsStruct) (s : List Float) → Arranged c p (length s)
    → c.rows * c.n + triangle c.rows + c.n ≤ length (take (length s - p.slopes) (drop p.slopes s))
matrix_room c p s at =
    let e : length (take (length s - p.slopes) (drop p.slopes s)) ≡ length s - p.slopes = length-take-le (length s - p.slopes) (drop p.slopes s) (simp length-drop (omega arith)) in
    omega arith

-- the slopes and weights that the forming of the matrix is lent are finite
pub matrix_finite : (c : SceneStruct) (p : PartsStruct) (s : List Float) → Arranged c p (length s) → all_finite (slopes_in c p s) ≡ true → all_finite (weights_in c p s) ≡ true
    → FiniteAt (take (length s - p.slopes) (drop p.slopes s)) 0 (c.rows * c.n) × FiniteAt (take (length s - p.slopes) (drop p.slopes s)) (c.rows * c.n + triangle c.rows) c.n
matrix_finite c p s at a b = (
  lent 0 (c.rows * c.n) p.slopes (omega arith) (omega arith) (finite_part s p.slopes (c.rows * c.n) (omega arith) a),
  lent (c.rows * c.n + triangle c.rows) c.n p.weights (omega (arith, at.slopes, at.matrix)) (omega arith) (finite_part s p.weights c.n (omega arith) b),
)
  where
    lent : (o k q : ℕ) → p.slopes + o ≡ q → q + k ≤ length s → FiniteAt s q k → FiniteAt (take (length s - p.slopes) (drop p.slopes s)) o k
    lent o k q e l f i h =
        let z : p.slopes + (o + i) ≡ q + i = omega arith in
        subst (λ (x : Float). is_finite x ≡ true) (sym (part_at s p.slopes (length s - p.slopes) (o + i) nan (omega arith) ∙ ap (λ (w : ℕ). get_or s w nan) z)) (f i h)

-- ---- the slopes leave other parts alone

-- a part behind the slopes and before a
slopes_part : (sc : Scene) (s t : List Float) (j n rows x a o k : ℕ) → j + rows * n ≤ o → o + k ≤ a → Slopes sc s t j n rows x a → part t o k ≡ part s o k
slopes_part sc s t j n rows x a o k h l g =
    let e : j + rows * n + (o - (j + rows * n)) ≡ o = omega arith in
    let m : o - (j + rows * n) + k ≤ a - (j + rows * n) = omega arith in
    ap (λ (w : ℕ). part t w k) (sym e) ∙ sym (part_part t (j + rows * n) (a - (j + rows * n)) (o - (j + rows * n)) k m)
    ∙ ap (λ (w : List Float). part w (o - (j + rows * n)) k) g.between
    ∙ part_part s (j + rows * n) (a - (j + rows * n)) (o - (j + rows * n)) k m
    ∙ ap (λ (w : ℕ). part s w k) e

-- a part before the slopes
slopes_below : (sc : Scene) (s t : List Float) (j n rows x a o k : ℕ) → o + k ≤ j → Slopes sc s t j n rows x a → part t o k ≡ part s o k
slopes_below sc s t j n rows x a o k h g = taken_part s t j o k g.size g.below h

-- after the filling of slopes the slopes are finite, and the weights still are
pub sloped_finite : (sc : Scene) (c : SceneStruct) (p : PartsStruct) (s t : List Float) → Arranged c p (length s) → Slopes sc s t p.slopes c.n c.rows p.x p.poses
    → all_finite (weights_in c p s) ≡ true → (all_finite (slopes_in c p t) ≡ true) × (all_finite (weights_in c p t) ≡ true)
sloped_finite sc c p s t at g h = (
  ap all_finite g.holds ∙ jacobian_finite (rows_of sc) (unknowns_in c p s) c.rows,
  ap all_finite (slopes_part sc s t p.slopes c.n c.rows p.x p.poses p.weights c.n (omega arith) (omega arith) g) ∙ h,
)

-- ---- a round in memory

one_round_is : (f : List Float → List Float) (winv : List Float) (s : State) (rows n : ℕ) → length s.r ≡ rows → length s.x ≡ n
    → trials f winv (jacobian f s.x rows) (normal (jacobian f s.x rows) winv n rows) rows 12 s ≡ one_round f winv s
unfolding one_round
one_round_is f winv s rows n a b =
    λ j. trials f winv (jacobian f s.x (sym a j)) (normal (jacobian f s.x (sym a j)) winv (sym b j) (sym a j)) (sym a j) 12 s

module _ (sc : Scene) (c : SceneStruct) (p : PartsStruct) (s s1 s2 t : List Float) (cost mu : Float) (r : TriedStruct) (at : Arranged c p (length s))
    (sloped : Slopes sc s s1 p.slopes c.n c.rows p.x p.poses) (formed : Formed c p s1 s2) (tried : TrialsMade sc c p s2 t cost mu r) where
  -- a part before the slopes, and one behind the matrix and before the poses, is as it was
  same_before : (o k : ℕ) → o + k ≤ p.slopes → part s2 o k ≡ part s o k
  same_before o k h =
      kept_part_below s1 s2 p.matrix p.weights o k (omega arith) formed.kept
      ∙ slopes_below sc s s1 p.slopes c.n c.rows p.x p.poses o k h sloped

  same_behind : (o k : ℕ) → p.weights ≤ o → o + k ≤ p.poses → part s2 o k ≡ part s o k
  same_behind o k h l =
      kept_part_above s1 s2 p.matrix p.weights o k h formed.kept
      ∙ slopes_part sc s s1 p.slopes c.n c.rows p.x p.poses o k (omega arith) l sloped

  same_weights : weights_in c p s2 ≡ weights_in c p s
  same_weights = same_behind p.weights c.n (omega arith) (omega arith)

  same_state : state_in c p s2 cost mu ≡ state_in c p s cost mu
  same_state =
      λ j. record {
        x = same_before p.x c.n (omega arith) j;
        r = same_behind p.rows c.rows (omega arith) (omega arith) j;
        cost = cost;
        mu = mu;
      }

  slopes_two : slopes_in c p s2 ≡ jacobian (rows_of sc) (unknowns_in c p s) c.rows
  slopes_two = kept_part_below s1 s2 p.matrix p.weights p.slopes (c.rows * c.n) (omega arith) formed.kept ∙ sloped.holds

  matrix_two : matrix_in c p s2 ≡ normal (jacobian (rows_of sc) (unknowns_in c p s) c.rows) (weights_in c p s) c.n c.rows
  matrix_two =
      formed.matrix
      ∙ (λ j. normal (sloped.holds j) (slopes_part sc s s1 p.slopes c.n c.rows p.x p.poses p.weights c.n (omega arith) (omega arith) sloped j) c.n c.rows)

  pub round_made : RoundMade sc c p s t cost mu r
  round_made =
      record {
        tried =
            tried.tried
            ∙ (λ j. trials (rows_of sc) (same_weights j) (slopes_two j) (matrix_two j) c.rows 12 (same_state j))
            ∙ one_round_is (rows_of sc) (weights_in c p s) (state_in c p s cost mu) c.rows c.n (part_length s p.rows c.rows (omega arith)) (part_length s p.x c.n (omega arith));
        keeps =
            record {
              size = tried.leaves.keeps.size ∙ formed.kept.size ∙ sloped.size;
              weights = tried.leaves.keeps.weights ∙ same_weights;
              first = tried.leaves.keeps.first ∙ same_before p.first c.n (omega arith);
            };
      }

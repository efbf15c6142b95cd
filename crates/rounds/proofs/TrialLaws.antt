-- What one trial leaves in the lent scratch, step by step. By least_squares' laws on parts of the scratch. Assumes nothing.
use mathlib.Core.Path.{◌≡◌, refl, sym, ap, ◌∙◌}
use mathlib.Core.Bool.{Bool, true, false, ◌&&◌}
use mathlib.Core.List.{List, ◌++◌}
use mathlib.Core.Option.{Option, none, some}
use Prim.Native.Nat.{ℕ, ◌+◌, ◌-◌, ◌*◌, ◌≤◌}
use native.Mathlib.Omega.{arith}
use lib.Ieee.{Float, binary64, mul, lt, of_bits}
use lib.ListN.{length, take, drop, length-drop}
use lib.Seq.{take-length, drop-drop}
use Rattle.numbers.specs.Double.{is_finite}
use Rattle.least_squares.specs.Memory.{part, Kept}
use Rattle.least_squares.specs.Lm.{norm2, diag_max, damp_to, solve_dense, stepped, stiffer, softer, judged, step_with, trial}
use Rattle.least_squares.specs.LmPosts.{Copied, Spread, Damped, Stepped}
use Rattle.least_squares.specs.Triangle.{triangle, spread}
use Rattle.least_squares.specs.Dense.{given, Dense}
use Rattle.scene.specs.Scene.{RowsAt}
use Rattle.scene.specs.Solve.{Scene, rows_of}
use Rattle.scene.specs.declared.scene.Scene.{Scene as SceneStruct}
use Rattle.least_squares.proofs.MemoryLaws.{take_same, part_below, taken_part, kept_trans, kept_wider, kept_part_below, kept_part_above, kept_tail, tail_part}
use Rattle.rounds.specs.declared.parts.SolveParts.{SolveParts as PartsStruct}
use Rattle.rounds.specs.declared.trial.Tried.{Tried as TriedStruct}
use Rattle.rounds.specs.Parts.{Arranged}
use Rattle.rounds.specs.Rounds.{slopes_in, matrix_in, weights_in, unknowns_in, rows_in, state_in, tried_in, answer_in, Keeps, Leaves, Answered, Advanced, Taken, TrialMade}

-- ---- what is left alone

pub keeps_refl : (c : SceneStruct) (p : PartsStruct) (s : List Float) → Keeps c p s s
keeps_refl c p s = record { size = refl; weights = refl; first = refl }

pub keeps_trans : (c : SceneStruct) (p : PartsStruct) (s t u : List Float) → Keeps c p s t → Keeps c p t u → Keeps c p s u
keeps_trans c p s t u a b = record { size = b.size ∙ a.size; weights = b.weights ∙ a.weights; first = b.first ∙ a.first }

pub leaves_refl : (c : SceneStruct) (p : PartsStruct) (s : List Float) → Leaves c p s s
leaves_refl c p s = record { keeps = keeps_refl c p s; slopes = refl; matrix = refl }

pub leaves_trans : (c : SceneStruct) (p : PartsStruct) (s t u : List Float) → Leaves c p s t → Leaves c p t u → Leaves c p s u
leaves_trans c p s t u a b =
    record { keeps = keeps_trans c p s t u a.keeps b.keeps; slopes = b.slopes ∙ a.slopes; matrix = b.matrix ∙ a.matrix }

-- ---- the step taken

pub step_taken : (c : SceneStruct) (p : PartsStruct) (s u t : List Float) (size : ℕ) → Arranged c p size → Copied s u p.next p.x c.n
    → Copied u t p.ahead p.rows c.rows → Taken c p s t
step_taken c p s u t size h a b =
    record {
      unknowns = below p.x c.n (omega arith) ∙ a.copy;
      rows = b.copy ∙ above p.ahead c.rows (omega arith);
      leaves = record {
        keeps = record {
          size = b.kept.size ∙ a.kept.size;
          weights = between p.weights c.n (omega arith) (omega arith);
          first = below p.first c.n (omega arith) ∙ kept_part_below s u p.x (p.x + c.n) p.first c.n (omega arith) a.kept;
        };
        slopes = between p.slopes (c.rows * c.n) (omega arith) (omega arith);
        matrix = ap (λ (l : List Float). spread l c.rows) (between p.matrix (triangle c.rows) (omega arith) (omega arith));
      };
    }
  where
    -- before the rows, behind the unknowns, between both
    below : (o k : ℕ) → o + k ≤ p.rows → part t o k ≡ part u o k
    below o k l = kept_part_below u t p.rows (p.rows + c.rows) o k l b.kept

    above : (o k : ℕ) → p.x + c.n ≤ o → part u o k ≡ part s o k
    above o k l = kept_part_above s u p.x (p.x + c.n) o k l a.kept

    between : (o k : ℕ) → p.x + c.n ≤ o → o + k ≤ p.rows → part t o k ≡ part s o k
    between o k l m = below o k m ∙ above o k l

-- ---- the equations

-- the part that is lent from a on is the rest
pub rest_lent : (a : ℕ) (w q : List Float) (n : ℕ) (ok : Bool) → Dense (take (length w - a) (drop a w)) q n ok → Dense (drop a w) q n ok
rest_lent a w q n ok h = rw (← length-drop a w, take-length) at h

module _ (c : SceneStruct) (p : PartsStruct) (s u v w q : List Float) (mu most : Float) (ok : Bool) (size : ℕ) (fits : Arranged c p size) (long : p.damped ≤ length w)
    (largest : most ≡ diag_max (matrix_in c p s) c.rows)
    (whole : Spread s u p.matrix p.damped c.rows)
    (damped : Damped u v p.damped c.rows (mul binary64 mu most))
    (moved : Copied v w p.rows p.right c.rows)
    (solved : Dense (drop p.damped w) q c.rows ok) where
  matrix_there : part (drop p.damped w) 0 (c.rows * c.rows) ≡ damp_to (matrix_in c p s) c.rows (mul binary64 mu (diag_max (matrix_in c p s) c.rows)) c.rows
  matrix_there =
      kept_part_below v w p.right (p.right + c.rows) p.damped (c.rows * c.rows) (omega arith) moved.kept
      ∙ damped.matrix
      ∙ (λ j. damp_to (whole.square j) c.rows (mul binary64 mu (largest j)) c.rows)

  rows_there : part (drop p.damped w) (c.rows * c.rows) c.rows ≡ rows_in c p s
  rows_there =
      ap (take c.rows) (drop-drop (c.rows * c.rows) p.damped w ∙ ap (λ (o : ℕ). drop o w) fits.damped)
      ∙ moved.copy
      ∙ kept_part_above u v p.damped (p.damped + c.rows * c.rows) p.rows c.rows (omega arith) damped.kept
      ∙ kept_part_above s u p.damped (p.damped + c.rows * c.rows) p.rows c.rows (omega arith) whole.kept

  same_answer : solve_dense (part (drop p.damped w) 0 (c.rows * c.rows)) (part (drop p.damped w) (c.rows * c.rows) c.rows) c.rows ≡ answer_in c p s mu
  same_answer = λ j. solve_dense (matrix_there j) (rows_there j) c.rows

  wider : (a b : List Float) (lo hi : ℕ) → p.damped ≤ lo → hi ≤ p.right + c.rows → Kept a b lo hi → Kept a b p.damped (p.right + c.rows)
  wider a b lo hi l h k = kept_wider a b lo hi p.damped (p.right + c.rows) l h k

  pub answer_is : Answered c p s (take p.damped w ++ q) mu ok
  answer_is =
      record {
        told = solved.told ∙ ap given same_answer;
        answer = λ y e. ap (λ (o : ℕ). part (take p.damped w ++ q) o c.rows) (sym fits.damped) ∙ tail_part p.damped w q (c.rows * c.rows) c.rows long ∙ solved.answer y (same_answer ∙ e);
        kept =
            kept_trans s u (take p.damped w ++ q) _ _ (wider s u _ _ (omega arith) (omega arith) whole.kept)
            (kept_trans u v (take p.damped w ++ q) _ _ (wider u v _ _ (omega arith) (omega arith) damped.kept)
            (kept_trans v w (take p.damped w ++ q) _ _ (wider v w _ _ (omega arith) (omega arith) moved.kept)
            (wider w (take p.damped w ++ q) _ _ (omega arith) (omega arith) (kept_tail p.damped w q 0 (c.rows * c.rows + c.rows) long solved.kept))));
      }

-- ---- a step further

pub advanced : (sc : Scene) (c : SceneStruct) (p : PartsStruct) (s u t : List Float) (cost : Float) (size : ℕ) → Arranged c p size
    → Stepped s u c.n c.rows p.x p.slopes p.weights p.right p.next
    → RowsAt sc u t p.next c.n p.ahead c.rows p.poses
    → cost ≡ norm2 (part t p.ahead c.rows)
    → Advanced sc c p s t cost
advanced sc c p s u t cost size h a b e =
    record {
      size = b.size ∙ a.kept.size;
      unknowns = same ∙ a.unknowns;
      rows = b.holds ∙ ap (rows_of sc) (sym same);
      cost_is = e;
      below = take_same u t p.next b.size (λ i l. b.below i (omega arith)) ∙ a.kept.below;
    }
  where
    same : part t p.next c.n ≡ part u p.next c.n
    same = part_below u t _ p.next c.n b.size b.below (omega arith)

-- ---- a trial

-- the state at entry still stands, and what a trial reads
pub record Stands (c : SceneStruct) (p : PartsStruct) (s t : List Float) : Type 0 where
  pub unknowns : unknowns_in c p t ≡ unknowns_in c p s
  pub rows : rows_in c p t ≡ rows_in c p s
  pub leaves : Leaves c p s t

stands_trans : (c : SceneStruct) (p : PartsStruct) (s t u : List Float) → Stands c p s t → Stands c p t u → Stands c p s u
stands_trans c p s t u a b =
    record { unknowns = b.unknowns ∙ a.unknowns; rows = b.rows ∙ a.rows; leaves = leaves_trans c p s t u a.leaves b.leaves }

answered_stands : (c : SceneStruct) (p : PartsStruct) (s t : List Float) (mu : Float) (ok : Bool) (size : ℕ) → Arranged c p size → Answered c p s t mu ok → Stands c p s t
answered_stands c p s t mu ok size h a =
    record {
      unknowns = below p.x c.n (omega arith);
      rows = above p.rows c.rows (omega arith);
      leaves = record {
        keeps = record {
          size = a.kept.size;
          weights = below p.weights c.n (omega arith);
          first = below p.first c.n (omega arith);
        };
        slopes = below p.slopes (c.rows * c.n) (omega arith);
        matrix = ap (λ (l : List Float). spread l c.rows) (below p.matrix (triangle c.rows) (omega arith));
      };
    }
  where
    below : (o k : ℕ) → o + k ≤ p.damped → part t o k ≡ part s o k
    below o k l = kept_part_below s t p.damped (p.right + c.rows) o k l a.kept

    above : (o k : ℕ) → p.right + c.rows ≤ o → part t o k ≡ part s o k
    above o k l = kept_part_above s t p.damped (p.right + c.rows) o k l a.kept

advanced_stands : (sc : Scene) (c : SceneStruct) (p : PartsStruct) (s t : List Float) (cost : Float) (size : ℕ) → Arranged c p size → Advanced sc c p s t cost → Stands c p s t
advanced_stands sc c p s t cost size h a =
    record {
      unknowns = below p.x c.n (omega arith);
      rows = below p.rows c.rows (omega arith);
      leaves = record {
        keeps = record {
          size = a.size;
          weights = below p.weights c.n (omega arith);
          first = below p.first c.n (omega arith);
        };
        slopes = below p.slopes (c.rows * c.n) (omega arith);
        matrix = ap (λ (l : List Float). spread l c.rows) (below p.matrix (triangle c.rows) (omega arith));
      };
    }
  where
    below : (o k : ℕ) → o + k ≤ p.next → part t o k ≡ part s o k
    below o k l = taken_part s t p.next o k a.size a.below l

-- by whether there is an answer
not_given : (o : Option (List Float)) → false ≡ given o → o ≡ none
not_given none e = refl
not_given (some y) e = cc

given_as : (o : Option (List Float)) (l : List Float) → true ≡ given o → ((y : List Float) → o ≡ some y → l ≡ y) → o ≡ some l
given_as none l e h = cc
given_as (some y) l e h = ap some (sym (h y refl))

-- both tests of a step: r is the first
pub both_hold : (r a b : Bool) → r ≡ a → r ≡ true → b ≡ true → (a && b) ≡ true
both_hold r a b e t h = rw (← e, t, h)

pub first_fails : (r a b : Bool) → r ≡ a → r ≡ false → (a && b) ≡ false
first_fails r a b e t = rw (← e, t)

pub second_fails : (r a b : Bool) → r ≡ a → r ≡ true → b ≡ false → (a && b) ≡ false
second_fails r a b e t h = rw (← e, t, h)

-- what a step that is not kept leaves of a state
abbrev stiff : Float → Float → TriedStruct
stiff cost mu = record { better = false; cost = cost; mu = mul binary64 mu (of_bits binary64 0x4024_0000_0000_0000) }

stiffened : (c : SceneStruct) (p : PartsStruct) (s t : List Float) (cost mu : Float) → Stands c p s t → tried_in c p t (stiff cost mu) ≡ stiffer (state_in c p s cost mu)
stiffened c p s t cost mu h =
    λ j. record { state = record { x = h.unknowns j; r = h.rows j; cost = cost; mu = mul binary64 mu (of_bits binary64 0x4024_0000_0000_0000) }; better = false }

pub no_answer : (sc : Scene) (c : SceneStruct) (p : PartsStruct) (s t : List Float) (cost mu : Float) (ok : Bool) (size : ℕ) → Arranged c p size → Answered c p s t mu ok → ok ≡ false
    → TrialMade sc c p s t cost mu (stiff cost mu)
unfolding trial step_with
no_answer sc c p s t cost mu ok size h a e =
    let st = answered_stands c p s t mu ok size h a in
    record {
      tried =
          stiffened c p s t cost mu st
          ∙ sym (ap (step_with (rows_of sc) (weights_in c p s) (slopes_in c p s) c.rows (state_in c p s cost mu)) (not_given (answer_in c p s mu) (sym e ∙ a.told)));
      leaves = st.leaves;
    }

module _ (sc : Scene) (c : SceneStruct) (p : PartsStruct) (s u t : List Float) (cost mu next : Float) (ok : Bool) (size : ℕ) (fits : Arranged c p size)
    (answer : Answered c p s u mu ok) (good : ok ≡ true) (far : Advanced sc c p u t next) where
  stands : Stands c p s t
  stands = stands_trans c p s u t (answered_stands c p s u mu ok size fits answer) (advanced_stands sc c p u t next size fits far)

  -- a trial judges the unknowns and the rows of the step
  judges :
      trial (rows_of sc) (weights_in c p s) (slopes_in c p s) (matrix_in c p s) c.rows (state_in c p s cost mu)
      ≡ judged (state_in c p s cost mu) (part t p.next c.n) (part t p.ahead c.rows)
  unfolding trial step_with
  judges =
      let g = answered_stands c p s u mu ok size fits answer in
      let y = part u p.right c.rows in
      let q : answer_in c p s mu ≡ some y = given_as (answer_in c p s mu) y (sym good ∙ answer.told) answer.answer in
      let x : part t p.next c.n ≡ stepped (unknowns_in c p s) (slopes_in c p s) (weights_in c p s) y c.rows =
      far.unknowns ∙ (λ j. stepped (g.unknowns j) (g.leaves.slopes j) (g.leaves.keeps.weights j) y c.rows) in
      ap (step_with (rows_of sc) (weights_in c p s) (slopes_in c p s) c.rows (state_in c p s cost mu)) q
      ∙ ap (λ (l : List Float). judged (state_in c p s cost mu) l (rows_of sc l)) (sym x)
      ∙ ap (judged (state_in c p s cost mu) (part t p.next c.n)) (sym far.rows)

  pub not_better : (is_finite next && lt next cost) ≡ false → TrialMade sc c p s t cost mu (stiff cost mu)
  unfolding judged
  not_better e =
      let n : (is_finite (norm2 (part t p.ahead c.rows)) && lt (norm2 (part t p.ahead c.rows)) cost) ≡ false = rw (← far.cost_is) e in
      record { tried = stiffened c p s t cost mu stands ∙ sym (judges ∙ rw n); leaves = stands.leaves }

  pub better : (v : List Float) → (is_finite next && lt next cost) ≡ true → Taken c p t v → TrialMade sc c p s v cost mu (record { better = true; cost = next; mu = softer mu })
  unfolding judged
  better v e taken =
      let n : (is_finite (norm2 (part t p.ahead c.rows)) && lt (norm2 (part t p.ahead c.rows)) cost) ≡ true = rw (← far.cost_is) e in
      record {
        tried =
            (λ j. record { state = record { x = taken.unknowns j; r = taken.rows j; cost = far.cost_is j; mu = softer mu }; better = true })
            ∙ sym (judges ∙ rw n);
        leaves = leaves_trans c p s t v stands.leaves taken.leaves;
      }

-- How closely every answer of `solve` meets its relations, and the end of its work. A run's rows are at every step those of its unknowns, so `converged` tells of the
-- poses that are filled in; the largest magnitude of rows laid end to end is within the tolerance where that of each part is; a body without unknowns keeps the pose of
-- its frame; the bound on the errors is the row bound. Assumes nothing.
use Prim.Native.Nat.{ℕ, zero, suc, ◌+◌, ◌*◌, ◌≤◌, ◌<◌}
use native.Mathlib.Nat.{le_of_lt, le_of_eq, not-suc-le-zero, le_of_suc-le-suc}
use native.Mathlib.Omega.{arith}
use mathlib.Core.Path.{◌≡◌, refl, sym, ap, subst, ◌∙◌}
use mathlib.Core.Bool.{Bool, true, false, not, ◌&&◌, ◌||◌, cond, and-true, and-false, and_assoc, true≢false}
use mathlib.Core.List.{List, [], ◌∷◌, ◌++◌, map, foldl}
use mathlib.Core.Logic.{◌⊎◌, inl, inr}
use mathlib.Core.Option.{Option, none, some}
use lib.ListN.{length, get_or}
use lib.Dec.{T, eqb, ltb, eqb→eq, eqb-suc-zero, ltb→lt, nltb→le}
use lib.IntN.{ℤ}
use lib.Ieee.{Float, nan, inf, fin, up, down, lt, eq, le, is_nan, of_bits}
use lib.Ieee.Bits.{is_true}
use lib.Ieee.Fits.{and_l, and_r, down_pos}
use lib.Ieee.Order.{le_of_values}
use lib.Ieee.Positive.{positive, between, through}
use Rattle.numbers.specs.Double.{zero64, is_finite, abs, fmax}
use Rattle.numbers.proofs.DoubleLaws.{zero_value}
use Rattle.numbers.specs.MaxAbs.{max_abs_step, max_abs}
use Rattle.relations.specs.Geometry.{Pose}
use Rattle.relations.specs.Model.{Body, Rel, pose_of_frame}
use Rattle.relations.specs.Rows.{ground_pose}
use Rattle.least_squares.specs.Lm.{State, Tried, Outcome, list_of, norm2, judged, step_with, trial, trials, one_round, rounds, run, inverse_weight}
use Rattle.scene.specs.Solve.{Scene, named, moves, layout_from, unknowns, pose_at, poses_from, poses_at, rows_at, all_rows, rows_of, Parameters, plain, FINEST, COARSEST, from_to, in_range, weights, start_at, slight_turn, run_from, better, solved, frames_from, solve_with}
use Rattle.closeness.proofs.RowBoundLaws.{error_bound}
use Rattle.closeness.specs.HowClosely.{all_within, HowClosely, AllSmall, Closeness, rounds_of, RoundsEnd, PlainRoundsEnd}

-- what holds on each side of a test holds, for each of the two ways to write the test
pub picked : {A : Type 0} (P : A → Type 0) (b : Bool) (x y : A) → (b ≡ true → P x) → (b ≡ false → P y) → P (cond b x y)
picked P true x y h k = h refl
picked P false x y h k = k refl

pub either : {A : Type 0} (P : A → Type 0) (b : Bool) (x y : A) → (b ≡ true → P x) → (b ≡ false → P y) → P (elim b as (λ (t : Bool). A) [ true ↦ x | false ↦ y ])
either P true x y h k = h refl
either P false x y h k = k refl

or-false : (a b : Bool) → (a || b) ≡ false → b ≡ false
or-false true b e = cc
or-false false b e = e

-- ---- how many rounds a run takes

module _ (f : List Float → List Float) (winv : List Float) (tol : Float) where
  pub rounds_most : (k done : ℕ) (s : State) → (rounds f winv tol k done s).rounds ≤ done + k
  unfolding rounds
  rounds_most zero done s = omega arith
  rounds_most (suc k) done s =
      let t = one_round f winv s in
      let next = rounds_most k (suc done) t.state in
      either (λ (o : Outcome). o.rounds ≤ done + suc k) (le (max_abs t.state.r) tol) _ _ (λ e. omega arith)
      (λ e. either (λ (o : Outcome). o.rounds ≤ done + suc k) t.better _ _ (λ g. omega arith) (λ g. omega arith))

  first_rounds : (k : ℕ) (s : State) → (rounds f winv tol k 0 s).rounds ≤ k
  first_rounds k s = omega (arith, rounds_most k 0 s)

  pub run_rounds : (most limit : ℕ) (x : List Float) → (run f winv tol most limit x).rounds ≤ most
  unfolding run
  run_rounds most limit x =
      either (λ (o : Outcome). o.rounds ≤ most) (eqb (length (f x)) 0 || le (max_abs (f x)) tol) _ _ (λ e. omega arith)
      (λ e. either (λ (o : Outcome). o.rounds ≤ most) (eqb (length x) 0 || ltb limit (length (f x))) _ _ (λ g. omega arith) (λ g. first_rounds most _))

pub rounds_end : RoundsEnd
unfolding rounds_of
rounds_end s p drag =
    let winv = map inverse_weight (weights s p.drag_weight drag) in
    let a = run_rounds (rows_of s) winv p.tolerance p.rounds p.row_limit (list_of start_at (unknowns s)) in
    let b = run_rounds (rows_of s) winv p.tolerance p.rounds p.row_limit (list_of slight_turn (unknowns s)) in
    either (λ (n : ℕ). n ≤ 2 * p.rounds) ((run_from s p drag (list_of start_at (unknowns s))).converged || eqb (unknowns s) 0) _ _ (λ e. omega arith) (λ e. omega arith)

pub plain_rounds_end : PlainRoundsEnd
plain_rounds_end s drag = rounds_end s plain drag

-- ---- a state's rows are those of its unknowns

module _ (f : List Float → List Float) (winv : List Float) where
  abbrev Own : State → Type 0
  Own s = s.r ≡ f s.x

  judged_own : (s : State) (xn : List Float) → Own s → Own (judged s xn (f xn)).state
  unfolding judged
  judged_own s xn h = picked (λ (t : Tried). Own t.state) (is_finite (norm2 (f xn)) && lt (norm2 (f xn)) s.cost) _ _ (λ e. refl) (λ e. h)

  step_own : (jac : List Float) (rows : ℕ) (s : State) (y : Option (List Float)) → Own s → Own (step_with f winv jac rows s y).state
  unfolding step_with
  step_own jac rows s none h = h
  step_own jac rows s (some y) h = judged_own s _ h

  trial_own : (jac a : List Float) (rows : ℕ) (s : State) → Own s → Own (trial f winv jac a rows s).state
  unfolding trial
  trial_own jac a rows s h = step_own jac rows s _ h

  trials_own : (jac a : List Float) (rows k : ℕ) (s : State) → Own s → Own (trials f winv jac a rows k s).state
  unfolding trials
  trials_own jac a rows zero s h = h
  trials_own jac a rows (suc k) s h =
      let t = trial f winv jac a rows s in
      let g = trial_own jac a rows s h in
      let next = trials_own jac a rows k t.state g in
      either (λ (t : Tried). Own t.state) t.better _ _ (λ e. g) (λ e. next)

  pub round_own : (s : State) → Own s → Own (one_round f winv s).state
  unfolding one_round
  round_own s h = trials_own _ _ _ 12 s h

module _ (f : List Float → List Float) (winv : List Float) (tol : Float) where
  -- an outcome tells of its own unknowns whether their rows are within the tolerance
  abbrev Told : Outcome → Type 0
  Told o = o.converged ≡ le (max_abs (f o.x)) tol

  told : (s : State) → Own f winv s → le (max_abs s.r) tol ≡ le (max_abs (f s.x)) tol
  told s h = ap (λ (r : List Float). le (max_abs r) tol) h

  rounds_told : (k done : ℕ) (s : State) → Own f winv s → Told (rounds f winv tol k done s)
  unfolding rounds
  rounds_told zero done s h = told s h
  rounds_told (suc k) done s h =
      let t = one_round f winv s in
      let g = round_own f winv s h in
      let next = rounds_told k (suc done) t.state g in
      either Told (le (max_abs t.state.r) tol) _ _ (λ e. sym e ∙ told t.state g) (λ e. either Told t.better _ _ (λ b. next) (λ b. sym e ∙ told t.state g))

  pub none_within : (r : List Float) → le zero64 tol ≡ true → (eqb (length r) 0 || le (max_abs r) tol) ≡ true → true ≡ le (max_abs r) tol
  none_within [] z e = unfold max_abs in sym z
  none_within (a ∷ r) z e = sym (rw eqb-suc-zero at e)

  pub run_converged : le zero64 tol ≡ true → (most limit : ℕ) (x : List Float) → (run f winv tol most limit x).converged ≡ le (max_abs (f (run f winv tol most limit x).x)) tol
  unfolding run
  run_converged z most limit x =
      either Told (eqb (length (f x)) 0 || le (max_abs (f x)) tol) _ _ (none_within (f x) z)
      (λ e. either Told (eqb (length x) 0 || ltb limit (length (f x))) _ _ (λ g. sym (or-false (eqb (length (f x)) 0) _ e)) (λ g. rounds_told most 0 _ refl))

-- ---- the largest magnitude is within a tolerance where every entry is

-- no NaN, and no negative number
abbrev unsigned : Float → Bool
unsigned nan = false
unsigned (inf s) = not s
unsigned (fin s m e) = not s

-- a finite number that is not negative
abbrev tolerance : Float → Bool
tolerance nan = false
tolerance (inf s) = false
tolerance (fin s m e) = not s

-- the magnitude of every entry is at most the tolerance
unfoldable each_within : Float → List Float → Bool
each_within tol [] = true
each_within tol (a ∷ v) = le (abs a) tol && each_within tol v

same_truth : (a b : Bool) → (T a → T b) → (T b → T a) → a ≡ b
same_truth true true h k = refl
same_truth true false h k = absurd (h tt)
same_truth false true h k = absurd (k tt)
same_truth false false h k = refl

both : (a b : Bool) → T a → T b → T (a && b)
both true b s t = t
both false b s t = absurd s

both_within : (x y tol : Float) → T (le x tol) → T (le y tol) → T (le x tol && le y tol)
both_within x y tol s t = both (le x tol) (le y tol) s t

or_cases : (a b : Bool) → T (a || b) → T a ⊎ T b
or_cases true b t = inl tt
or_cases false b t = inr t

holds : (b : Bool) → b ≡ true → T b
holds b e = subst (λ (c : Bool). T c) (sym e) tt

fails : (b : Bool) → b ≡ false → T (not b)
fails b e = subst (λ (c : Bool). T (not c)) (sym e) tt

keep : (b : Bool) (x y : Float) → T (unsigned x) → T (unsigned y) → T (unsigned (cond b x y))
keep true x y h k = h
keep false x y h k = k

max_unsigned : (x y : Float) → T (unsigned x) → T (unsigned y) → T (unsigned (fmax x y))
unfolding fmax of_bits
max_unsigned x y h k = keep (is_nan x) y _ k (keep (is_nan y) x _ h (keep (eq x zero64 && eq y zero64) zero64 _ tt (keep (lt x y) y x k h)))

abs_unsigned : (s : Bool) (m : ℕ) (e : ℤ) → T (unsigned (abs (fin s m e)))
unfolding abs
abs_unsigned s m e = tt

step_unsigned : (m a : Float) → T (unsigned m) → T (unsigned (max_abs_step m a))
unfolding max_abs_step
step_unsigned m nan h = tt
step_unsigned m (inf s) h = tt
step_unsigned m (fin s n e) h = max_unsigned m (abs (fin s n e)) h (abs_unsigned s n e)

module _ (n : ℕ) (d : ℤ) where
  -- a number that is not negative against the tolerance, as fractions
  at_most : (a : ℕ) (e : ℤ) → T (le (fin false a e) (fin false n d)) → a * up e * down d ≤ n * up d * down e
  unfolding le
  at_most a e t =
      elim (or_cases (ltb (a * up e * down d) (n * up d * down e)) _ t) [
        | inl u ↦ le_of_lt (ltb→lt (a * up e * down d) (n * up d * down e) u)
        | inr u ↦ le_of_eq (eqb→eq (a * up e * down d) (n * up d * down e) (and_l (eqb (a * up e * down d) (n * up d * down e)) _ u))
      ]

  is_within : (a : ℕ) (e : ℤ) → a * up e * down d ≤ n * up d * down e → T (le (fin false a e) (fin false n d))
  is_within a e h = le_of_values (fin false a e) (fin false n d) (a * up e) (down e) (n * up d) (down d) (down_pos e) (down_pos d) (refl, refl) (refl, refl) h

  zero_within : (a : ℕ) (e : ℤ) → a * up e ≡ 0 → T (le (fin false a e) (fin false n d))
  zero_within a e h = is_within a e (rw h (omega arith))

  less_within : (a : ℕ) (e : ℤ) (b : ℕ) (c : ℤ) → a * up e * down c ≤ b * up c * down e → T (le (fin false b c) (fin false n d)) → T (le (fin false a e) (fin false n d))
  less_within a e b c h t = is_within a e (through (a * up e) (b * up c) (n * up d) (down e) (down c) (down d) (down_pos c) h (at_most b c t))

  module _ (a : ℕ) (e : ℤ) (b : ℕ) (c : ℤ) where
    abbrev Larger : Float → Type 0
    Larger z = le z (fin false n d) ≡ (le (fin false a e) (fin false n d) && le (fin false b c) (fin false n d))

    larger_zero : eq (fin false a e) zero64 ≡ true → eq (fin false b c) zero64 ≡ true → Larger zero64
    unfolding of_bits
    larger_zero p q = same_truth _ _ (λ t. both_within (fin false a e) (fin false b c) (fin false n d) (zero_within a e (zero_value false a e p)) (zero_within b c (zero_value false b c q))) (λ t. zero_within 0 _ refl)

    larger_second : lt (fin false a e) (fin false b c) ≡ true → Larger (fin false b c)
    unfolding lt
    larger_second p =
        same_truth _ _ (λ t. both_within (fin false a e) (fin false b c) (fin false n d) (less_within a e b c (le_of_lt (ltb→lt (a * up e * down c) (b * up c * down e) (holds _ p))) t) t)
        (λ t. and_r (le (fin false a e) (fin false n d)) _ t)

    larger_first : lt (fin false a e) (fin false b c) ≡ false → Larger (fin false a e)
    unfolding lt
    larger_first p =
        same_truth _ _ (λ t. both_within (fin false a e) (fin false b c) (fin false n d) t (less_within b c a e (nltb→le (a * up e * down c) (b * up c * down e) (fails _ p)) t))
        (λ t. and_l (le (fin false a e) (fin false n d)) _ t)

    max_finite : Larger (fmax (fin false a e) (fin false b c))
    unfolding fmax is_nan
    max_finite =
        picked Larger (eq (fin false a e) zero64 && eq (fin false b c) zero64) _ _
        (λ p. let t = holds _ p in larger_zero (is_true _ (and_l (eq (fin false a e) zero64) _ t)) (is_true _ (and_r (eq (fin false a e) zero64) _ t)))
        (λ p. picked Larger (lt (fin false a e) (fin false b c)) _ _ larger_second larger_first)

  max_within : (x : Float) (b : ℕ) (c : ℤ) → T (unsigned x) → le (fmax x (fin false b c)) (fin false n d) ≡ (le x (fin false n d) && le (fin false b c) (fin false n d))
  max_within nan b c h = absurd h
  max_within (inf true) b c h = absurd h
  max_within (inf false) b c h = unfold fmax is_nan eq lt le of_bits in refl
  max_within (fin true a e) b c h = absurd h
  max_within (fin false a e) b c h = max_finite a e b c

  step_within : (m a : Float) → T (unsigned m) → le (max_abs_step m a) (fin false n d) ≡ (le m (fin false n d) && le (abs a) (fin false n d))
  unfolding max_abs_step abs
  step_within m nan h = unfold le in sym (and-false (lt m (fin false n d) || eq m (fin false n d)))
  step_within m (inf s) h = unfold le in sym (and-false (lt m (fin false n d) || eq m (fin false n d)))
  step_within m (fin s b c) h = max_within m b c h

  fold_within : (v : List Float) (m : Float) → T (unsigned m) → le (foldl max_abs_step m v) (fin false n d) ≡ (le m (fin false n d) && each_within (fin false n d) v)
  unfolding each_within
  fold_within [] m h = sym (and-true (le m (fin false n d)))
  fold_within (a ∷ v) m h =
      fold_within v (max_abs_step m a) (step_unsigned m a h) ∙ ap (λ (t : Bool). t && each_within (fin false n d) v) (step_within m a h)
      ∙ and_assoc (le m (fin false n d)) (le (abs a) (fin false n d)) (each_within (fin false n d) v)

  zero_first : le zero64 (fin false n d) ≡ true
  unfolding of_bits
  zero_first = is_true _ (zero_within 0 _ refl)

  all_within_lem : (v : List Float) → le (max_abs v) (fin false n d) ≡ each_within (fin false n d) v
  unfolding max_abs of_bits
  all_within_lem v = fold_within v zero64 tt ∙ ap (λ (t : Bool). t && each_within (fin false n d) v) zero_first

pub zero_tolerance : (tol : Float) → T (tolerance tol) → le zero64 tol ≡ true
zero_tolerance nan p = absurd p
zero_tolerance (inf s) p = absurd p
zero_tolerance (fin true n d) p = absurd p
zero_tolerance (fin false n d) p = zero_first n d

max_abs_within : (tol : Float) → T (tolerance tol) → (v : List Float) → le (max_abs v) tol ≡ each_within tol v
max_abs_within nan p v = absurd p
max_abs_within (inf s) p v = absurd p
max_abs_within (fin true n d) p v = absurd p
max_abs_within (fin false n d) p v = all_within_lem n d v

each_append : (tol : Float) (v w : List Float) → each_within tol (v ++ w) ≡ (each_within tol v && each_within tol w)
unfolding each_within
each_append tol [] w = refl
each_append tol (a ∷ v) w = ap (λ (t : Bool). le (abs a) tol && t) (each_append tol v w) ∙ sym (and_assoc (le (abs a) tol) (each_within tol v) (each_within tol w))

-- the largest magnitude of two lists end to end is within the tolerance where that of each is
pub append_within : (tol : Float) → T (tolerance tol) → (v w : List Float) → le (max_abs (v ++ w)) tol ≡ (le (max_abs v) tol && le (max_abs w) tol)
append_within tol p v w = rw (max_abs_within tol p (v ++ w), max_abs_within tol p v, max_abs_within tol p w) (each_append tol v w)

-- ---- an answer is converged where every error is within the tolerance

pub within_all : (tol : Float) → T (tolerance tol) → (poses : List (Pose Float)) (rels : List Rel)
    → le (max_abs (all_rows poses rels)) tol ≡ all_within tol (map (λ rel. max_abs (rows_at poses rel)) rels)
unfolding all_rows all_within max_abs
within_all tol t poses [] = zero_tolerance tol t
within_all tol t poses (rel ∷ rels) =
    append_within tol t (rows_at poses rel) (all_rows poses rels) ∙ ap (λ (b : Bool). le (max_abs (rows_at poses rel)) tol && b) (within_all tol t poses rels)

better_keeps : (P : Outcome → Type 0) (s : Scene) (first retry : Outcome) → P first → P retry → P (better s first retry)
unfolding better
better_keeps P s first retry h k = picked P (retry.converged || lt (max_abs (rows_of s retry.x)) (max_abs (rows_of s first.x))) retry first (λ e. k) (λ e. h)

pub solved_converged : (s : Scene) (p : Parameters) (drag : Option ℕ) → T (tolerance p.tolerance) → (solved s p drag).converged ≡ le (max_abs (rows_of s (solved s p drag).x)) p.tolerance
unfolding solved
solved_converged s p drag t =
    let winv = map inverse_weight (weights s p.drag_weight drag) in
    let P : Outcome → Type 0 = Told (rows_of s) winv p.tolerance in
    let z = zero_tolerance p.tolerance t in
    let first = run_converged (rows_of s) winv p.tolerance z p.rounds p.row_limit (list_of start_at (unknowns s)) in
    let retry = run_converged (rows_of s) winv p.tolerance z p.rounds p.row_limit (list_of slight_turn (unknowns s)) in
    either P ((run_from s p drag (list_of start_at (unknowns s))).converged || eqb (unknowns s) 0) _ _ (λ e. first) (λ e. better_keeps P s _ _ first retry)

-- a tolerance in its range is a finite number that is not negative
from_range : (x : Float) → T (positive x) → T (tolerance x)
from_range nan t = t
from_range (inf s) t = t
from_range (fin true m e) t = t
from_range (fin false m e) t = tt

pub range_tolerance : (p : Parameters) → in_range p ≡ true → T (tolerance p.tolerance)
unfolding in_range of_bits
range_tolerance p e =
    let t = and_l (from_to FINEST COARSEST p.tolerance) _ (holds _ e) in
    from_range p.tolerance (between FINEST p.tolerance COARSEST tt tt (and_l (le FINEST p.tolerance) _ t) (and_r (le FINEST p.tolerance) _ t))

-- ---- a body that has no unknowns

module _ (rels : List Rel) (x : List Float) where
  pub still_from : (bodies : List Body) (k next i : ℕ) (d : Body) → i < length bodies → moves rels (k + i) (get_or bodies i d) ≡ false
      → get_or (poses_from x bodies (layout_from rels k next bodies)) i ground_pose ≡ pose_of_frame (get_or bodies i d).frame
  unfolding poses_from layout_from pose_at
  still_from [] k next i d h e = absurd (not-suc-le-zero h)
  still_from (b ∷ bodies) k next zero d h e =
      let z : k + 0 ≡ k = omega arith in
      either (λ (ks : List (Option ℕ)). get_or (poses_from x (b ∷ bodies) ks) zero ground_pose ≡ pose_of_frame b.frame) (moves rels k b) _ _ (λ m. absurd (true≢false (sym m ∙ (rw z at e)))) (λ m. refl)
  still_from (b ∷ bodies) k next (suc i) d h e =
      let z : k + suc i ≡ suc k + i = omega arith in
      let g = rw z at e in
      let l = le_of_suc-le-suc h in
      either (λ (ks : List (Option ℕ)). get_or (poses_from x (b ∷ bodies) ks) (suc i) ground_pose ≡ pose_of_frame (get_or bodies i d).frame) (moves rels k b) _ _
      (λ m. still_from bodies (suc k) (next + 6) i d l g) (λ m. still_from bodies (suc k) next i d l g)

stays : (rels : List Rel) (i : ℕ) (b : Body) → (b.fixed ≡ true) ⊎ (named rels i ≡ false) → moves rels i b ≡ false
unfolding moves
stays rels i b (inl e) = rw e
stays rels i b (inr e) = rw e (and-false (not b.fixed))

pub still_pose : (s : Scene) (x : List Float) (i : ℕ) (d : Body) → i < length s.bodies → ((get_or s.bodies i d).fixed ≡ true) ⊎ (named s.rels i ≡ false)
    → get_or (poses_at s x) i ground_pose ≡ pose_of_frame (get_or s.bodies i d).frame
still_pose s x i d h e =
    let z : 0 + i ≡ i = omega arith in
    still_from s.rels x s.bodies 0 0 i d h (rw z (stays s.rels i (get_or s.bodies i d) e))

-- ---- the answers of `solve`

get_d_map_in : {A B : Type 0} (f : A → B) (l : List A) (j : ℕ) (d : A) (e : B) → j < length l → get_or (map f l) j e ≡ f (get_or l j d)
get_d_map_in f [] j d e h = absurd (not-suc-le-zero h)
get_d_map_in f (a ∷ l) zero d e h = refl
get_d_map_in f (a ∷ l) (suc j) d e h = get_d_map_in f l j d e (le_of_suc-le-suc h)

-- an answer for any unknowns, whose flag tells of its errors
pub answer_closely : (s : Scene) (tol : Float) (x : List Float) (flag : Bool) → AllSmall s → flag ≡ all_within tol (map (λ rel. max_abs (rows_at (poses_at s x) rel)) s.rels)
    → HowClosely s tol
    (record { poses = poses_at s x; frames = frames_from (poses_at s x) s.bodies; errors = map (λ rel. max_abs (rows_at (poses_at s x) rel)) s.rels; converged = flag })
answer_closely s tol x flag small told =
    let poses = poses_at s x in
    record {
      converged = told;
      still = λ i d h e. let w = still_pose s x i d h e in (w ∙ sym (still_pose s (list_of start_at (unknowns s)) i d h e), w);
      closely = λ j d h y near. rw (get_d_map_in (λ rel. max_abs (rows_at poses rel)) s.rels j d nan h) (error_bound (get_or s.rels j d) poses y (small j d h) near);
    }

pub how_closely : Closeness
unfolding solve_with
how_closely s p drag range small =
    let o = solved s p drag in
    let t = range_tolerance p range in
    answer_closely s p.tolerance o.x o.converged small (solved_converged s p drag t ∙ within_all p.tolerance t (poses_at s o.x) s.rels)

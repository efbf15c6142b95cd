-- Solving by rounds comes to the answer of `solve`. A better step's sum of squares, which `solve` carries along, is that of its rows, so a round from a running state is
-- the round of `solve`; as many rounds as a run takes come to the end of that run, and those of both runs to the end. Assumes nothing.
use Prim.Native.Nat.{ℕ, zero, suc, ◌+◌, ◌-◌, ◌≤◌}
use native.Mathlib.Omega.{arith}
use mathlib.Core.Path.{◌≡◌, refl, sym, ap, subst, ◌∙◌}
use mathlib.Core.Bool.{Bool, true, false, not, ◌&&◌, ◌||◌, cond, true≢false}
use mathlib.Core.List.{List, map}
use mathlib.Core.Option.{Option, none, some}
use lib.ListN.{length}
use lib.Dec.{eqb, leb, ltb}
use lib.Ieee.{Float, lt, le}
use borrow.Author.Tests.{le-leb, lt-leb}
use Rattle.numbers.specs.Double.{zero64, is_finite}
use Rattle.numbers.specs.MaxAbs.{max_abs}
use Rattle.least_squares.specs.Lm.{State, Tried, Outcome, list_of, norm2, judged as judged_step, step_with, trial, trials, one_round, rounds, run}
use Rattle.least_squares.proofs.TableLaws.{length_list_of}
use Rattle.scene.specs.Solve.{Scene, Parameters, in_range, unknowns, poses_at, rows_at, rows_of, frames_from, start_at, slight_turn, run_from, better, solved, solve_with}
use Rattle.scene.proofs.RowCountLaws.{rows_alike}
use Rattle.closeness.specs.HowClosely.{rounds_of}
use Rattle.closeness.proofs.HowCloselyLaws.{picked, either, none_within, zero_tolerance, range_tolerance, rounds_end, solved_converged, within_all, answer_closely}
use Rattle.portions.specs.Portions.{Running, is_running, finished, within, fresh, no_round, tried, after_round, end_retry, begin_retry, end_run, judged, one_more, go, start, inverse_weights, begin, answer_at}
use Rattle.portions.specs.Laws.{total, Finishes, FinishesInTwoRuns, OneState, CloselyAt}
use Rattle.portions.proofs.PortionLaws.{or_right, neither, Counts, counts, judged_on, judged_ends, go_none, go_more, go_stays, go_add, schedules}

-- ---- the sum of squares of a better step is that of its rows

abbrev Summed : Tried → Type 0
Summed t = t.better ≡ true → t.state.cost ≡ norm2 t.state.r

judged_summed : (s : State) (xn rn : List Float) → Summed (judged_step s xn rn)
unfolding judged_step
judged_summed s xn rn = picked Summed (is_finite (norm2 rn) && lt (norm2 rn) s.cost) _ _ (λ e b. refl) (λ e b. absurd (true≢false (sym b)))

module _ (f : List Float → List Float) (winv : List Float) where
  step_summed : (jac : List Float) (rows : ℕ) (s : State) (y : Option (List Float)) → Summed (step_with f winv jac rows s y)
  unfolding step_with
  step_summed jac rows s none b = absurd (true≢false (sym b))
  step_summed jac rows s (some y) b = judged_summed s _ _ b

  trial_summed : (jac a : List Float) (rows : ℕ) (s : State) → Summed (trial f winv jac a rows s)
  unfolding trial
  trial_summed jac a rows s = step_summed jac rows s _

  trials_summed : (jac a : List Float) (rows k : ℕ) (s : State) → Summed (trials f winv jac a rows k s)
  unfolding trials
  trials_summed jac a rows zero s = λ b. absurd (true≢false (sym b))
  trials_summed jac a rows (suc k) s =
      let t = trial f winv jac a rows s in
      let next = trials_summed jac a rows k t.state in
      either Summed t.better _ _ (λ e. trial_summed jac a rows s) (λ e. next)

  round_summed : (s : State) → Summed (one_round f winv s)
  unfolding one_round
  round_summed s = trials_summed _ _ _ 12 s

-- ---- the rounds of one run

-- From the state `from` the rounds that o tells of come to the end of the run that st is in; o counts those that st has made too.
record Comes (s : Scene) (p : Parameters) (winv : List Float) (st from : Running) (o : Outcome) : Type 0 where
  made : ℕ
  last : Running
  counted : st.done + made ≡ o.rounds
  unknowns_are : last.x ≡ o.x
  first_is : last.first ≡ st.first
  run_is : last.run ≡ st.run
  comes : go s p winv made from ≡ end_run s p o.converged last

module _ (s : Scene) (p : Parameters) (winv : List Float) where
  -- a round from a running state, and what is judged after it
  abbrev state_of : Running → State
  state_of st = record { x = st.x; r = st.r; cost = norm2 st.r; mu = st.mu }

  abbrev round : Running → Tried
  round st = tried s winv st

  abbrev next : Running → Running
  next st = after_round s winv st

  abbrev stops : Running → Bool
  stops st = not (round st).better || leb p.rounds (suc st.done)

  more_is : (st : Running) → one_more s p winv st ≡ judged s p (stops st) (next st)
  unfolding one_more
  more_is st = refl

  module _ (st : Running) (r : is_running st.run ≡ true) where
    after_one : go s p winv 1 st ≡ judged s p (stops st) (next st)
    after_one = go_more s p winv 0 st r ∙ go_none s p winv (one_more s p winv st) ∙ more_is st

    -- the run ends with this round
    ends_here : (c : Bool) → within s p (next st).r ≡ c → (c || stops st) ≡ true → Comes s p winv st st (record { x = (next st).x; converged = c; rounds = suc st.done })
    ends_here c e f =
        record {
          made = 1;
          last = next st;
          counted = omega arith;
          unknowns_are = refl;
          first_is = refl;
          run_is = refl;
          comes = after_one ∙ judged_ends s p c (stops st) (next st) e f;
        }

    -- or goes on
    goes_on : (o : Outcome) → within s p (next st).r ≡ false → stops st ≡ false → Comes s p winv (next st) (next st) o → Comes s p winv st st o
    goes_on o e f y =
        let k = y.made in
        let c = y.counted in
        let h : go s p winv 1 st ≡ next st = after_one ∙ judged_on s p (stops st) (next st) (neither _ _ e f) in
        let g : 1 + k ≡ suc k = omega arith in
        record {
          made = suc k;
          last = y.last;
          counted = omega arith;
          unknowns_are = y.unknowns_are;
          first_is = y.first_is;
          run_is = y.run_is;
          comes = ap (λ (i : ℕ). go s p winv i st) (sym g) ∙ go_add s p winv 1 k st ∙ ap (go s p winv k) h ∙ y.comes;
        }

    -- what `solve` carries along is the next state
    carried : (round st).better ≡ true → state_of (next st) ≡ (round st).state
    carried b = let w = (round st).state in ap (λ (c : Float). record { x = w.x; r = w.r; cost = c; mu = w.mu }) (sym (round_summed (rows_of s) winv (state_of st) b))

    -- a round of `solve`
    one_round_lem : (k : ℕ) → (within s p (next st).r ≡ false → (round st).better ≡ true → Comes s p winv st st (rounds (rows_of s) winv p.tolerance k (suc st.done) (round st).state))
        → Comes s p winv st st (rounds (rows_of s) winv p.tolerance (suc k) st.done (state_of st))
    unfolding rounds
    one_round_lem k on =
        either (Comes s p winv st st) (within s p (next st).r) _ _ (λ e. ends_here true e refl)
        (λ e. either (Comes s p winv st st) (round st).better _ _ (λ b. on e b) (λ b. ends_here false e (rw b)))

    -- with the last round that the set allows it ends
    last_round : within s p (next st).r ≡ false → (round st).better ≡ true → leb p.rounds (suc st.done) ≡ true
        → Comes s p winv st st (rounds (rows_of s) winv p.tolerance 0 (suc st.done) (round st).state)
    unfolding rounds
    last_round w b l = ends_here (within s p (next st).r) refl (rw (w, b, l))

  -- the n rounds that the set still allows
  rounds_come : (n : ℕ) (st : Running) → is_running st.run ≡ true → 1 ≤ n → st.done + n ≡ p.rounds
      → Comes s p winv st st (rounds (rows_of s) winv p.tolerance n st.done (state_of st))
  rounds_come zero st r h e = absurd (omega arith)
  rounds_come (suc zero) st r h e =
      let l : leb p.rounds (suc st.done) ≡ true = le-leb p.rounds (suc st.done) (omega arith) in
      one_round_lem st r 0 (λ w b. last_round st r w b l)
  rounds_come (suc (suc k)) st r h e =
      let l : leb p.rounds (suc st.done) ≡ false = lt-leb p.rounds (suc st.done) (omega arith) in
      let y = rounds_come (suc k) (next st) r (omega arith) (omega arith) in
      one_round_lem st r (suc k)
      (λ w b. goes_on st r _ w (rw (b, l)) (subst (λ (z : State). Comes s p winv (next st) (next st) (rounds (rows_of s) winv p.tolerance (suc k) (suc st.done) z)) (carried st r b) y))

  -- ---- a whole run

  module _ (n : Counts p) (z : le zero64 p.tolerance ≡ true) (i : ℕ) (running : is_running i ≡ true) (first x : List Float) (l : length x ≡ unknowns s) where
    abbrev begins : Running
    begins = fresh s i first x

    -- a run's own test whether it makes a round
    no_round_lem : no_round s p ≡ (eqb (length x) 0 || ltb p.row_limit (length (rows_of s x)))
    no_round_lem = λ j. eqb (sym l j) 0 || ltb p.row_limit (rows_alike s.rels (poses_at s (list_of start_at (unknowns s))) (poses_at s x) j)

    -- a run that makes none ends where it begins
    none_made : (c : Bool) → within s p (rows_of s x) ≡ c → (c || no_round s p) ≡ true
        → Comes s p winv begins (judged s p (no_round s p) begins) (record { x = x; converged = c; rounds = 0 })
    none_made c e f =
        record {
          made = 0;
          last = begins;
          counted = omega arith;
          unknowns_are = refl;
          first_is = refl;
          run_is = refl;
          comes = go_none s p winv _ ∙ judged_ends s p c (no_round s p) begins e f;
        }

    some_made : within s p (rows_of s x) ≡ false → no_round s p ≡ false
        → Comes s p winv begins (judged s p (no_round s p) begins) (rounds (rows_of s) winv p.tolerance p.rounds 0 (state_of begins))
    some_made e f = rw (judged_on s p (no_round s p) begins (neither _ _ e f)) (rounds_come p.rounds begins running n.rounds (omega arith))

    run_comes : Comes s p winv begins (judged s p (no_round s p) begins) (run (rows_of s) winv p.tolerance p.rounds p.row_limit x)
    unfolding run
    run_comes =
        let P : Outcome → Type 0 = Comes s p winv begins (judged s p (no_round s p) begins) in
        let r = rows_of s x in
        either P (eqb (length r) 0 || within s p r) _ _ (λ e. none_made true (sym (none_within (rows_of s) winv p.tolerance r z e)) refl)
        (λ e. let w = or_right (eqb (length r) 0) _ e in
        either P (eqb (length x) 0 || ltb p.row_limit (length r)) _ _ (λ g. none_made false w (no_round_lem ∙ g))
        (λ g. some_made w (no_round_lem ∙ g)))

-- ---- both runs

-- what holds on each side of a test holds of two values that it picks
both_either : {A B : Type 0} (P : A → B → Type 0) (b : Bool) (x x' : A) (y y' : B) → (b ≡ true → P x y) → (b ≡ false → P x' y')
    → P (elim b as (λ (t : Bool). A) [ true ↦ x | false ↦ x' ]) (elim b as (λ (t : Bool). B) [ true ↦ y | false ↦ y' ])
both_either P true x x' y y' h k = h refl
both_either P false x x' y y' h k = k refl

-- finished, with the unknowns of o
record Done (o : Outcome) (st : Running) : Type 0 where
  run_is : st.run ≡ 3
  unknowns_are : st.x ≡ o.x

picked_x : (b : Bool) (a c a' c' : Outcome) → a.x ≡ a'.x → c.x ≡ c'.x → (cond b a c).x ≡ (cond b a' c').x
picked_x true a c a' c' e f = e
picked_x false a c a' c' e f = f

-- which unknowns are kept is a matter of both runs' unknowns, and whether the retry converged
better_x : (s : Scene) (first retry first' retry' : Outcome) → first.x ≡ first'.x → retry.x ≡ retry'.x → retry.converged ≡ retry'.converged
    → (better s first retry).x ≡ (better s first' retry').x
unfolding better
better_x s first retry first' retry' e f g =
    let t = retry'.converged || lt (max_abs (rows_of s retry'.x)) (max_abs (rows_of s first'.x)) in
    ap (λ (b : Bool). (cond b retry first).x) (λ j. g j || lt (max_abs (rows_of s (f j))) (max_abs (rows_of s (e j)))) ∙ picked_x t retry first retry' first' f e

module _ (s : Scene) (p : Parameters) where
  -- what follows the first run, and the retry
  pub first_ends : (c : Bool) (st : Running) → st.run ≡ 1 → (c || eqb (unknowns s) 0) ≡ true → end_run s p c st ≡ finished st
  unfolding end_run
  first_ends c st e f = rw (e, f)

  pub retry_follows : (c : Bool) (st : Running) → st.run ≡ 1 → (c || eqb (unknowns s) 0) ≡ false → end_run s p c st ≡ begin_retry s p st.x
  unfolding end_run
  retry_follows c st e f = rw (e, f)

  retry_ends : (c : Bool) (st : Running) → st.run ≡ 2 → end_run s p c st ≡ end_retry s c st
  unfolding end_run
  retry_ends c st e = rw e

  -- the retry begins as the first run does
  retry_is : (first : List Float) → begin_retry s p first ≡ judged s p (no_round s p) (fresh s 2 first (list_of slight_turn (unknowns s)))
  unfolding begin_retry judged end_run
  retry_is first = refl

  retry_done : (st : Running) (first retry : Outcome) → st.first ≡ first.x → st.x ≡ retry.x → Done (better s first retry) (end_retry s retry.converged st)
  unfolding end_retry
  retry_done st first retry e f = record { run_is = refl; unknowns_are = better_x s _ _ first retry e f refl }

  module _ (drag : Option ℕ) (range : in_range p ≡ true) where
    abbrev first_run : Outcome
    first_run = run_from s p drag (list_of start_at (unknowns s))

    abbrev retry_run : Outcome
    retry_run = run_from s p drag (list_of slight_turn (unknowns s))

    run_from_lem : (i : ℕ) → is_running i ≡ true → (first : List Float) (f : ℕ → Float)
        → let st = fresh s i first (list_of f (unknowns s)) in Comes s p (inverse_weights s p drag) st (judged s p (no_round s p) st) (run_from s p drag st.x)
    run_from_lem i e first f =
        run_comes s p (inverse_weights s p drag) (counts p range) (zero_tolerance p.tolerance (range_tolerance p range)) i e first (list_of f (unknowns s)) (length_list_of f (unknowns s))

    abbrev comes_first : Comes s p (inverse_weights s p drag) (fresh s 1 (list_of start_at (unknowns s)) (list_of start_at (unknowns s))) (start s p) first_run
    comes_first = run_from_lem 1 refl (list_of start_at (unknowns s)) start_at

    abbrev gone : ℕ → Running
    gone k = go s p (inverse_weights s p drag) k (start s p)

    -- the first run alone, or both
    in_one : (first_run.converged || eqb (unknowns s) 0) ≡ true → Done first_run (gone first_run.rounds)
    in_one e =
        let a = comes_first in
        let k = a.counted in
        let g : first_run.rounds ≡ a.made = omega arith in
        let h : gone first_run.rounds ≡ finished a.last = ap gone g ∙ a.comes ∙ first_ends first_run.converged a.last a.run_is e in
        record { run_is = ap (λ (st : Running). st.run) h; unknowns_are = ap (λ (st : Running). st.x) h ∙ a.unknowns_are }

    in_two : (first_run.converged || eqb (unknowns s) 0) ≡ false → Done (better s first_run retry_run) (gone (first_run.rounds + retry_run.rounds))
    in_two e =
        let winv = inverse_weights s p drag in
        let a = comes_first in
        let b = run_from_lem 2 refl a.last.x slight_turn in
        let k = a.counted in
        let l = b.counted in
        let g : first_run.rounds + retry_run.rounds ≡ a.made + b.made = omega arith in
        let h = a.comes ∙ retry_follows first_run.converged a.last a.run_is e ∙ retry_is a.last.x in
        let y : gone (first_run.rounds + retry_run.rounds) ≡ end_retry s retry_run.converged b.last
        = ap gone g ∙ go_add s p winv a.made b.made (start s p) ∙ ap (go s p winv b.made) h ∙ b.comes ∙ retry_ends retry_run.converged b.last b.run_is in
        subst (Done (better s first_run retry_run)) (sym y) (retry_done b.last first_run retry_run (b.first_is ∙ a.unknowns_are) b.unknowns_are)

    in_all : Done (solved s p drag) (gone (rounds_of s p drag))
    unfolding solved rounds_of
    in_all = both_either (λ (o : Outcome) (k : ℕ). Done o (gone k)) (first_run.converged || eqb (unknowns s) 0) _ _ _ _ in_one in_two

-- ---- the laws

-- the flag of `solve` tells of its errors, as that of every answer
answer_is : (s : Scene) (p : Parameters) (drag : Option ℕ) → in_range p ≡ true → answer_at s p (solved s p drag).x ≡ solve_with s p drag
unfolding answer_at solve_with
answer_is s p drag range =
    let poses = poses_at s (solved s p drag).x in
    let t = range_tolerance p range in
    let e = solved_converged s p drag t ∙ within_all p.tolerance t poses s.rels in
    ap (λ (c : Bool). record { poses = poses; frames = frames_from poses s.bodies; errors = map (λ rel. max_abs (rows_at poses rel)) s.rels; converged = c }) (sym e)

-- more rounds than `solve` takes change nothing
enough : (s : Scene) (p : Parameters) (drag : Option ℕ) → in_range p ≡ true → (k : ℕ) → rounds_of s p drag ≤ k → begin s p drag k ≡ begin s p drag (rounds_of s p drag)
unfolding begin
enough s p drag range k h =
    let winv = inverse_weights s p drag in
    let n = rounds_of s p drag in
    let g : n + (k - n) ≡ k = omega arith in
    ap (λ (j : ℕ). go s p winv j (start s p)) (sym g)
    ∙ go_add s p winv n (k - n) (start s p)
    ∙ go_stays s p winv (k - n) _ (ap is_running (in_all s p drag range).run_is)

pub finishes : Finishes
unfolding begin
finishes s p drag range k h =
    let y = in_all s p drag range in
    let e = enough s p drag range k h in
    record {
      run_is = ap (λ (st : Running). st.run) e ∙ y.run_is;
      answer_is = ap (λ (st : Running). answer_at s p st.x) e ∙ ap (answer_at s p) y.unknowns_are ∙ answer_is s p drag range;
    }

pub finishes_in_two_runs : FinishesInTwoRuns
finishes_in_two_runs s p drag range k h = let e = rounds_end s p drag in finishes s p drag range k (omega arith)

-- any schedule is one call that begins, with the sum of its portions
pub one_state : OneState
one_state s p drag range k l ks ls h g =
    let e = schedules s p drag range k ks in
    let f = schedules s p drag range l ls in
    let y = finishes s p drag range (k + total ks) h in
    record {
      same = e ∙ enough s p drag range (k + total ks) h ∙ sym (enough s p drag range (l + total ls) g) ∙ sym f;
      run_is = ap (λ (st : Running). st.run) e ∙ y.run_is;
      answer_is = ap (λ (st : Running). answer_at s p st.x) e ∙ y.answer_is;
    }

pub closely_at : CloselyAt
unfolding answer_at
closely_at s p x small = answer_closely s p.tolerance x _ small refl

-- One's own states. Every round leaves the rows of its unknowns, so the test of a run tells of the errors; and a round is either the next of at most 1000 of its run or
-- the last one, so that two runs have at most 2000 by whatever sets. Assumes nothing.
use Prim.Native.Nat.{ℕ, zero, suc, ◌+◌, ◌≤◌, ◌<◌}
use native.Mathlib.Omega.{arith}
use mathlib.Core.Path.{◌≡◌, refl, sym, ap, subst, ◌∙◌}
use mathlib.Core.Bool.{Bool, true, false, ◌||◌, true≢false}
use mathlib.Core.List.{List}
use lib.Dec.{leb}
use lib.Ieee.{Float}
use borrow.Author.Tests.{leb-false}
use Rattle.least_squares.specs.Lm.{norm2}
use Rattle.scene.specs.Solve.{Scene, Parameters, poses_at, rows_of}
use Rattle.closeness.proofs.HowCloselyLaws.{picked, round_own, range_tolerance, within_all}
use Rattle.portions.specs.Portions.{Running, is_running, finished, within, no_round, end_retry, end_run, judged, judge, one_more, go, start, inverse_weights, begin, on, answer_at}
use Rattle.portions.specs.Laws.{Settled, Own, begun, gone, OwnStates, EndsByAnySets}
use Rattle.portions.proofs.PortionLaws.{or_left, or_right, Counts, counts, by_run, retry_begun, run_ended, ended_retry, start_settled, judge_settled, more_settled, judges_to_the_end}

-- ---- the rows are those of the unknowns

abbrev Rows : Scene → Running → Type 0
Rows s st = st.r ≡ rows_of s st.x

module _ (s : Scene) (p : Parameters) where
  retry_rows : (c : Bool) (st : Running) → Rows s (end_retry s c st)
  unfolding end_retry
  retry_rows c st = refl

  end_rows : (c : Bool) (st : Running) → Rows s st → Rows s (end_run s p c st)
  end_rows c st h = run_ended s p (Rows s) retry_rows c st h (λ e. retry_begun s p (Rows s) retry_rows st.x (λ f. refl))

  judged_rows : (stop : Bool) (st : Running) → Rows s st → Rows s (judged s p stop st)
  unfolding judged
  judged_rows stop st h = picked (Rows s) (within s p st.r || stop) _ _ (λ e. end_rows _ st h) (λ e. h)

  judge_rows : (st : Running) → Rows s st → Rows s (judge s p st)
  unfolding judge
  judge_rows st h = picked (Rows s) (is_running st.run) _ _ (λ e. judged_rows _ st h) (λ e. h)

  more_rows : (winv : List Float) (st : Running) → Rows s st → Rows s (one_more s p winv st)
  unfolding one_more
  more_rows winv st h = judged_rows _ _ (round_own (rows_of s) winv (record { x = st.x; r = st.r; cost = norm2 st.r; mu = st.mu }) h)

  go_rows : (winv : List Float) (k : ℕ) (st : Running) → Rows s st → Rows s (go s p winv k st)
  unfolding go
  go_rows winv zero st h = h
  go_rows winv (suc k) st h = let next = go_rows winv k (one_more s p winv st) (more_rows winv st h) in picked (Rows s) (is_running st.run) _ _ (λ e. next) (λ e. h)

own_rows : (s : Scene) {j : ℕ} {st : Running} → Own s j st → Rows s st
unfolding begin on
own_rows s (begun p drag k range) = go_rows s p _ k (start s p) (judged_rows s p (no_round s p) _ refl)
own_rows s (gone p drag k {j} {st} range o) = go_rows s p _ k (judge s p st) (judge_rows s p st (own_rows s o))

pub own_states : OwnStates
unfolding answer_at
own_states s j st o =
    let h = own_rows s o in
    record { rows_are = h; flag_is = λ p range. ap (within s p) h ∙ within_all p.tolerance (range_tolerance p range) (poses_at s st.x) s.rels }

-- ---- how many rounds have been made

-- a first run that goes on has made all of the j rounds, a retry all but at most 1000
record Made (j : ℕ) (st : Running) : Type 0 where
  first : st.run ≡ 1 → j ≤ st.done
  retry : st.run ≡ 2 → j ≤ 1000 + st.done

-- and it has made fewer than 1000
abbrev Few : Running → Type 0
Few st = is_running st.run ≡ true → st.done < 1000

standing : (j : ℕ) (st : Running) → is_running st.run ≡ false → Made j st
standing j st e = record { first = λ f. absurd (true≢false (sym (ap is_running f) ∙ e)); retry = λ f. absurd (true≢false (sym (ap is_running f) ∙ e)) }

module _ (s : Scene) (p : Parameters) where
  settled_few : Counts p → (st : Running) → Settled s p st → Few st
  settled_few n st g r =
      let h = leb-false p.rounds st.done (or_left (leb p.rounds st.done) _ (or_right (within s p st.r) _ (g r))) in
      let m = n.most in
      omega arith

  retry_made : (j : ℕ) (c : Bool) (st : Running) → Made j (end_retry s c st)
  retry_made j c st = standing j _ (ended_retry s p c st)

  end_made : (j : ℕ) (c : Bool) (st : Running) → (st.run ≡ 1 → j ≤ 1000) → Made j (end_run s p c st)
  end_made j c st h =
      run_ended s p (Made j) (retry_made j) c st (standing j (finished st) refl)
      (λ e. retry_begun s p (Made j) (retry_made j) st.x (λ f. let k = h e in record { first = λ g. absurd (omega arith); retry = λ g. omega arith }))

  judged_made : (j : ℕ) (stop : Bool) (st : Running) → (is_running st.run ≡ true → st.done ≤ 1000) → Made j st → Made j (judged s p stop st)
  unfolding judged
  judged_made j stop st few m =
      picked (Made j) (within s p st.r || stop) _ _ (λ e. end_made j _ st (λ f. let a = few (ap is_running f) in let b = m.first f in omega arith)) (λ e. m)

  judge_made : (j : ℕ) (st : Running) → Few st → Made j st → Made j (judge s p st)
  unfolding judge
  judge_made j st few m = picked (Made j) (is_running st.run) _ _ (λ e. judged_made j _ st (λ r. let a = few r in omega arith) m) (λ e. m)

  more_made : (j : ℕ) (winv : List Float) (st : Running) → Few st → Made j st → Made (suc j) (one_more s p winv st)
  unfolding one_more
  more_made j winv st few m =
      judged_made (suc j) _ _ (λ r. few r) (record { first = λ f. let a = m.first f in omega arith; retry = λ f. let a = m.retry f in omega arith })

  go_made : Counts p → (winv : List Float) (k j : ℕ) (st : Running) → Settled s p st → Made j st → Made (j + k) (go s p winv k st)
  unfolding go
  go_made n winv zero j st g m = let e : j + 0 ≡ j = omega arith in rw e m
  go_made n winv (suc k) j st g m =
      let e : j + suc k ≡ suc j + k = omega arith in
      rw e
      (picked (Made (suc j + k)) (is_running st.run) _ _
      (λ r. go_made n winv k (suc j) (one_more s p winv st) (more_settled s p n winv st r g) (more_made j winv st (settled_few n st g) m)) (λ r. standing (suc j + k) st r))

record Counted (j : ℕ) (st : Running) : Type 0 where
  made : Made j st
  few : Few st

own_counted : (s : Scene) {j : ℕ} {st : Running} → Own s j st → Counted j st
unfolding begin on
own_counted s (begun p drag k range) =
    let n = counts p range in
    let winv = inverse_weights s p drag in
    let e : 0 + k ≡ k = omega arith in
    let m : Made 0 (start s p) = judged_made s p 0 (no_round s p) _ (λ r. omega arith) (record { first = λ f. omega arith; retry = λ f. omega arith }) in
    record {
      made = subst (λ (i : ℕ). Made i (go s p winv k (start s p))) e (go_made s p n winv k 0 (start s p) (start_settled s p n) m);
      few = settled_few s p n (begin s p drag k) (judges_to_the_end s p drag range k).of_begin;
    }
own_counted s (gone p drag k {j} {st} range o) =
    let n = counts p range in
    let winv = inverse_weights s p drag in
    let c = own_counted s o in
    record {
      made = go_made s p n winv k j (judge s p st) (judge_settled s p n st) (judge_made s p j st c.few c.made);
      few = settled_few s p n (on s p drag k st) ((judges_to_the_end s p drag range k).of_on st);
    }

-- so none goes on after 2000
not_over : (j : ℕ) (st : Running) → Counted j st → 2000 ≤ j → is_running st.run ≡ true → ⊥
not_over j st c h r = let f = c.few r in by_run st.run r (λ e. let m = c.made.first e in omega arith) (λ e. let m = c.made.retry e in omega arith)

pub ends_by_any_sets : EndsByAnySets
ends_by_any_sets s j st o h = both (is_running st.run) refl
  where
    both : (b : Bool) → is_running st.run ≡ b → b ≡ false
    both true e = absurd (not_over j st (own_counted s o) h e)
    both false e = refl

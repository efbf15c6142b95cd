-- Portions: a call leaves no run that has ended by its set, and judging leaves such a state as it is; so portions come to their sum. A portion makes a round while the state
-- runs, so it makes them all unless it finishes. Assumes nothing.
use Prim.Native.Nat.{ℕ, zero, suc, ◌+◌, ◌≤◌}
use native.Mathlib.Omega.{arith}
use mathlib.Core.Path.{◌≡◌, refl, sym, ap, ◌∙◌}
use mathlib.Core.Bool.{Bool, true, false, not, ◌&&◌, ◌||◌, cond, true≢false}
use mathlib.Core.List.{List, [], ◌∷◌}
use mathlib.Core.Option.{Option}
use lib.Dec.{eqb, leb, ltb}
use lib.Ieee.{Float}
use borrow.Author.Tests.{leb-true, ltb-false, lt-leb, le-ltb, eqb-true}
use Rattle.least_squares.specs.Lm.{list_of}
use Rattle.scene.specs.Solve.{Scene, Parameters, from_to, FINEST, COARSEST, in_range, unknowns, rows_of, slight_turn}
use Rattle.closeness.proofs.HowCloselyLaws.{picked}
use Rattle.portions.specs.Portions.{Running, is_running, finished, row_count, within, fresh, no_round, tried, end_retry, begin_retry, end_run, judged, judge, one_more, go, rounds_made, start, inverse_weights, begin, on}
use Rattle.portions.specs.Laws.{Settled, on_all, total, Portions, Schedules, PortionsOn, FinishedStays, JudgesToTheEnd, more, PortionMade, MakesThePortion}

-- ---- tests

pub or_left : (a b : Bool) → (a || b) ≡ false → a ≡ false
or_left true b e = e
or_left false b e = refl

pub or_right : (a b : Bool) → (a || b) ≡ false → b ≡ false
or_right true b e = absurd (true≢false e)
or_right false b e = e

pub neither : (a b : Bool) → a ≡ false → b ≡ false → (a || b) ≡ false
neither a b e f = rw (e, f)

and_left : (a b : Bool) → (a && b) ≡ true → a ≡ true
and_left true b e = refl
and_left false b e = e

and_right : (a b : Bool) → (a && b) ≡ true → b ≡ true
and_right true b e = e
and_right false b e = absurd (true≢false (sym e))

-- a set that test 15 lets pass has 1 to 1000 rounds, and at most 800 rows
pub record Counts (p : Parameters) : Type 0 where
  pub rounds : 1 ≤ p.rounds
  pub most : p.rounds ≤ 1000
  pub rows : p.row_limit ≤ 800

pub counts : (p : Parameters) → in_range p ≡ true → Counts p
unfolding in_range
counts p e =
    let a = and_right (from_to FINEST COARSEST p.tolerance) _ e in
    let b = and_left (leb 1 p.rounds && leb p.rounds 1000) _ a in
    let c = and_left (leb 1 p.row_limit && leb p.row_limit 800) _ (and_right (leb 1 p.rounds && leb p.rounds 1000) _ a) in
    record {
      rounds = leb-true 1 p.rounds (and_left _ _ b);
      most = leb-true p.rounds 1000 (and_right (leb 1 p.rounds) _ b);
      rows = leb-true p.row_limit 800 (and_right (leb 1 p.row_limit) _ c);
    }

-- ---- which states there are

pub by_run : {A : Type 0} (run : ℕ) → is_running run ≡ true → (run ≡ 1 → A) → (run ≡ 2 → A) → A
by_run {A} run e h k = both (eqb run 1) refl e
  where
    both : (b : Bool) → eqb run 1 ≡ b → (b || eqb run 2) ≡ true → A
    both true f g = h (eqb-true run 1 f)
    both false f g = k (eqb-true run 2 g)

module _ (s : Scene) (p : Parameters) (P : Running → Type 0) (ended : (c : Bool) (st : Running) → P (end_retry s c st)) where
  -- where a retry is to begin it goes on, or has ended
  pub retry_begun : (first : List Float)
      → ((within s p (rows_of s (list_of slight_turn (unknowns s))) || no_round s p) ≡ false → P (fresh s 2 first (list_of slight_turn (unknowns s)))) → P (begin_retry s p first)
  unfolding begin_retry
  retry_begun first h = picked P (within s p (rows_of s (list_of slight_turn (unknowns s))) || no_round s p) _ _ (λ e. ended _ _) h

  -- after a run it is finished, or the retry begins
  pub run_ended : (c : Bool) (st : Running) → P (finished st) → (st.run ≡ 1 → P (begin_retry s p st.x)) → P (end_run s p c st)
  unfolding end_run
  run_ended c st h k =
      picked P (eqb st.run 1) _ _ (λ e. picked P (c || eqb (unknowns s) 0) _ _ (λ f. h) (λ f. k (eqb-true st.run 1 e))) (λ e. ended c st)

-- ---- what a call leaves has not ended

module _ (s : Scene) (p : Parameters) where
  stands : (st : Running) → is_running st.run ≡ false → Settled s p st
  stands st e h = absurd (true≢false (sym h ∙ e))

  pub ended_retry : (c : Bool) (st : Running) → is_running (end_retry s c st).run ≡ false
  unfolding end_retry
  ended_retry c st = refl

  end_retry_settled : (c : Bool) (st : Running) → Settled s p (end_retry s c st)
  end_retry_settled c st = stands (end_retry s c st) (ended_retry c st)

  module _ (n : Counts p) where
    -- a run that begins has made no round, and has at most 800 rows
    begun : no_round s p ≡ false → (leb p.rounds 0 || ltb 800 (row_count s)) ≡ false
    begun e =
        let few : ltb p.row_limit (row_count s) ≡ false = or_right (eqb (unknowns s) 0) _ e in
        let under = ltb-false p.row_limit (row_count s) few in
        neither (leb p.rounds 0) _ (lt-leb p.rounds 0 n.rounds) (le-ltb 800 (row_count s) (omega (arith, under, n.rows)))

    begin_retry_settled : (first : List Float) → Settled s p (begin_retry s p first)
    begin_retry_settled first =
        let near = within s p (rows_of s (list_of slight_turn (unknowns s))) in
        retry_begun s p (Settled s p) end_retry_settled first (λ e h. neither near _ (or_left near _ e) (begun (or_right near _ e)))

    end_settled : (c : Bool) (st : Running) → Settled s p (end_run s p c st)
    end_settled c st = run_ended s p (Settled s p) end_retry_settled c st (stands (finished st) refl) (λ e. begin_retry_settled st.x)

    judged_settled : (stop : Bool) (st : Running) → (stop ≡ false → is_running st.run ≡ true → (leb p.rounds st.done || ltb 800 (row_count s)) ≡ false) → Settled s p (judged s p stop st)
    unfolding judged
    judged_settled stop st g =
        let near = within s p st.r in
        picked (Settled s p) (near || stop) _ _ (λ e. end_settled near st) (λ e h. neither near _ (or_left near _ e) (g (or_right near _ e) h))

    pub start_settled : Settled s p (start s p)
    start_settled = judged_settled (no_round s p) _ (λ e h. begun e)

    pub judge_settled : (st : Running) → Settled s p (judge s p st)
    unfolding judge
    judge_settled st =
        picked (Settled s p) (is_running st.run) _ _ (λ e. judged_settled (leb p.rounds st.done || ltb 800 (row_count s)) st (λ f h. f)) (λ e. stands st e)

    pub more_settled : (winv : List Float) (st : Running) → is_running st.run ≡ true → Settled s p st → Settled s p (one_more s p winv st)
    unfolding one_more
    more_settled winv st r g =
        let few : ltb 800 (row_count s) ≡ false = or_right (leb p.rounds st.done) _ (or_right (within s p st.r) _ (g r)) in
        let worse = not (tried s winv st).better in
        judged_settled (worse || leb p.rounds (suc st.done)) _ (λ e h. neither _ _ (or_right worse _ e) few)

    pub go_settled : (winv : List Float) (k : ℕ) (st : Running) → Settled s p st → Settled s p (go s p winv k st)
    unfolding go
    go_settled winv zero st g = g
    go_settled winv (suc k) st g = picked (Settled s p) (is_running st.run) _ _ (λ e. go_settled winv k (one_more s p winv st) (more_settled winv st e g)) (λ e. g)

  -- judging leaves it
  judge_stays : (st : Running) → is_running st.run ≡ false → judge s p st ≡ st
  unfolding judge
  judge_stays st e = rw e

  pub judged_on : (stop : Bool) (st : Running) → (within s p st.r || stop) ≡ false → judged s p stop st ≡ st
  unfolding judged
  judged_on stop st e = rw e

  -- or ends the run
  pub judged_ends : (c stop : Bool) (st : Running) → within s p st.r ≡ c → (c || stop) ≡ true → judged s p stop st ≡ end_run s p c st
  unfolding judged
  judged_ends c stop st e f = rw (e, f)

  judge_on : (st : Running) → is_running st.run ≡ true → Settled s p st → judge s p st ≡ st
  unfolding judge
  judge_on st e g = rw e (judged_on (leb p.rounds st.done || ltb 800 (row_count s)) st (g e))

  pub settled : (st : Running) → Settled s p st → judge s p st ≡ st
  settled st g = both (is_running st.run) refl
    where
      both : (b : Bool) → is_running st.run ≡ b → judge s p st ≡ st
      both true e = judge_on st e g
      both false e = judge_stays st e

  -- ---- rounds one after another

  module _ (winv : List Float) where
    pub go_stays : (k : ℕ) (st : Running) → is_running st.run ≡ false → go s p winv k st ≡ st
    unfolding go
    go_stays zero st e = refl
    go_stays (suc k) st e = rw e

    pub go_more : (k : ℕ) (st : Running) → is_running st.run ≡ true → go s p winv (suc k) st ≡ go s p winv k (one_more s p winv st)
    unfolding go
    go_more k st e = rw e

    pub go_none : (st : Running) → go s p winv 0 st ≡ st
    unfolding go
    go_none st = refl

    pub go_add : (j k : ℕ) (st : Running) → go s p winv (j + k) st ≡ go s p winv k (go s p winv j st)
    go_add zero k st = let e : 0 + k ≡ k = omega arith in ap (λ (i : ℕ). go s p winv i st) e ∙ ap (go s p winv k) (sym (go_none st))
    go_add (suc j) k st = let e : suc j + k ≡ suc (j + k) = omega arith in ap (λ (i : ℕ). go s p winv i st) e ∙ both (go_add j k (one_more s p winv st)) (is_running st.run) refl
      where
        both : go s p winv (j + k) (one_more s p winv st) ≡ go s p winv k (go s p winv j (one_more s p winv st)) → (b : Bool) → is_running st.run ≡ b
            → go s p winv (suc (j + k)) st ≡ go s p winv k (go s p winv (suc j) st)
        both next true e = go_more (j + k) st e ∙ next ∙ ap (go s p winv k) (sym (go_more j st e))
        both next false e = go_stays (suc (j + k)) st e ∙ sym (go_stays k st e) ∙ ap (go s p winv k) (sym (go_stays (suc j) st e))

    -- judged in between or not
    pub go_on : Counts p → (k l : ℕ) (st : Running) → Settled s p st → go s p winv l (judge s p (go s p winv k st)) ≡ go s p winv (k + l) st
    go_on n k l st g = ap (go s p winv l) (settled (go s p winv k st) (go_settled n winv k st g)) ∙ sym (go_add k l st)

    -- how many a portion makes
    led : (k : ℕ) (st : Running) → go s p winv k st ≡ more s p winv (rounds_made s p winv k st) st
    unfolding go more rounds_made
    led zero st = refl
    led (suc k) st = both (led k (one_more s p winv st)) (is_running st.run)
      where
        both : go s p winv k (one_more s p winv st) ≡ more s p winv (rounds_made s p winv k (one_more s p winv st)) (one_more s p winv st) → (b : Bool)
            → cond b (go s p winv k (one_more s p winv st)) st ≡ more s p winv (cond b (suc (rounds_made s p winv k (one_more s p winv st))) 0) st
        both next true = next
        both next false = refl

    few : (k : ℕ) (st : Running) → rounds_made s p winv k st ≤ k
    unfolding rounds_made
    few zero st = omega arith
    few (suc k) st = let h = few k (one_more s p winv st) in picked (λ (j : ℕ). j ≤ suc k) (is_running st.run) _ _ (λ e. omega arith) (λ e. omega arith)

    all : (k : ℕ) (st : Running) → is_running (go s p winv k st).run ≡ true → rounds_made s p winv k st ≡ k
    unfolding go rounds_made
    all zero st r = refl
    all (suc k) st r = both (all k (one_more s p winv st)) (is_running st.run) refl r
      where
        both : (is_running (go s p winv k (one_more s p winv st)).run ≡ true → rounds_made s p winv k (one_more s p winv st) ≡ k) → (b : Bool) → is_running st.run ≡ b
            → is_running (cond b (go s p winv k (one_more s p winv st)) st).run ≡ true → cond b (suc (rounds_made s p winv k (one_more s p winv st))) 0 ≡ suc k
        both next true e h = ap suc (next h)
        both next false e h = absurd (true≢false (sym h ∙ e))

    portion_made : (k : ℕ) (st : Running) → PortionMade s p winv k st (go s p winv k st)
    portion_made k st = record { led = led k st; few = few k st; all = all k st }

    -- and step by step
    pub none_made : (st : Running) → rounds_made s p winv 0 st ≡ 0
    unfolding rounds_made
    none_made st = refl

    pub made_stays : (k : ℕ) (st : Running) → is_running st.run ≡ false → rounds_made s p winv k st ≡ 0
    unfolding rounds_made
    made_stays zero st e = refl
    made_stays (suc k) st e = rw e

    pub made_more : (k : ℕ) (st : Running) → is_running st.run ≡ true → rounds_made s p winv (suc k) st ≡ suc (rounds_made s p winv k (one_more s p winv st))
    unfolding rounds_made
    made_more k st e = rw e

-- ---- the laws

on_settled : (s : Scene) (p : Parameters) (drag : Option ℕ) → Counts p → (k : ℕ) (st : Running) → Settled s p (on s p drag k st)
unfolding on
on_settled s p drag n k st = go_settled s p n (inverse_weights s p drag) k (judge s p st) (judge_settled s p n st)

pub portions : Portions
unfolding begin on
portions s p drag range k l = let n = counts p range in go_on s p (inverse_weights s p drag) n k l (start s p) (start_settled s p n)

pub portions_on : PortionsOn
unfolding on
portions_on s p drag range k l st = let n = counts p range in go_on s p (inverse_weights s p drag) n k l (judge s p st) (judge_settled s p n st)

pub schedules : Schedules
unfolding on_all total
schedules s p drag range k [] = let e : k ≡ k + 0 = omega arith in ap (begin s p drag) e
schedules s p drag range k (l ∷ ks) =
    let e : k + l + total ks ≡ k + (l + total ks) = omega arith in
    ap (on_all s p drag ks) (portions s p drag range k l) ∙ schedules s p drag range (k + l) ks ∙ ap (begin s p drag) e

pub judges_to_the_end : JudgesToTheEnd
unfolding begin
judges_to_the_end s p drag range k =
    let n = counts p range in
    record { of_begin = go_settled s p n (inverse_weights s p drag) k (start s p) (start_settled s p n); of_on = on_settled s p drag n k }

pub finished_stays : FinishedStays
unfolding on
finished_stays s p drag k st e = ap (go s p (inverse_weights s p drag) k) (judge_stays s p st e) ∙ go_stays s p (inverse_weights s p drag) k st e

pub makes_the_portion : MakesThePortion
unfolding begin on
makes_the_portion s p drag k =
    let winv = inverse_weights s p drag in
    record { of_begin = portion_made s p winv k (start s p); of_on = λ st. portion_made s p winv k (judge s p st) }

-- What a call's own set does to the state that it goes on with. A run that has ended is no first run any more, so where the first run still goes on none has ended and
-- no row limit was read; none is read either where it has converged, in a retry that goes on, and where nothing moves. Assumes nothing.
use Prim.Native.Nat.{ℕ, zero, suc, ◌+◌, ◌-◌, ◌<◌}
use native.Mathlib.Omega.{arith}
use mathlib.Core.Path.{◌≡◌, refl, sym, ap, ◌∙◌}
use mathlib.Core.Bool.{Bool, true, false, ◌||◌, cond, true≢false, or-true}
use mathlib.Core.List.{List}
use mathlib.Core.Option.{Option}
use lib.Dec.{eqb, leb, ltb}
use lib.Ieee.{Float}
use borrow.Author.Tests.{eqb-true}
use Rattle.least_squares.specs.Lm.{list_of}
use Rattle.scene.specs.Solve.{Scene, Parameters, unknowns, rows_of, start_at, slight_turn}
use Rattle.closeness.proofs.HowCloselyLaws.{picked}
use Rattle.portions.specs.Portions.{Running, is_running, finished, row_count, after_round, within, no_round, end_retry, begin_retry, end_run, judged, judge, one_more, go, start, inverse_weights, on}
use Rattle.portions.specs.Laws.{JudgesAgain, CarriesOver, RetryBegins, with_limit, LimitAtTheBegin, NoneOverTheLimit}
use Rattle.portions.proofs.PortionLaws.{or_right, retry_begun, run_ended, ended_retry, judged_ends, settled, go_stays, go_more, go_add}
use Rattle.portions.proofs.FinishLaws.{first_ends, retry_follows}

-- ---- the state is judged again, or carried over

or_more : (a b c : Bool) → (a || b) ≡ true → (a || (b || c)) ≡ true
or_more true b c e = refl
or_more false b c e = rw e

judge_ends : (s : Scene) (p : Parameters) (st : Running) → is_running st.run ≡ true → (within s p st.r || leb p.rounds st.done) ≡ true
    → judge s p st ≡ end_run s p (within s p st.r) st
unfolding judge
judge_ends s p st r e = rw r (judged_ends s p (within s p st.r) _ st refl (or_more (within s p st.r) _ _ e))

pub judges_again : JudgesAgain
unfolding on
judges_again s p drag k st r e = ap (go s p (inverse_weights s p drag) k) (judge_ends s p st r e)

pub carries_over : CarriesOver
unfolding on
carries_over s p drag k st g = ap (go s p (inverse_weights s p drag) k) (settled s p st g)

-- ---- a run that has ended is no first run

module _ (s : Scene) (p : Parameters) where
  abbrev NoFirst : Running → Type 0
  NoFirst st = st.run ≡ 1 → ⊥

  retry_ended : (c : Bool) (st : Running) → NoFirst (end_retry s c st)
  unfolding end_retry
  retry_ended c st h = omega arith

  end_no_first : (c : Bool) (st : Running) → NoFirst (end_run s p c st)
  end_no_first c st = run_ended s p NoFirst retry_ended c st (λ h. omega arith) (λ e. retry_begun s p NoFirst retry_ended st.x (λ f h. omega arith))

  -- so where the first run goes on it went on before
  judged_back : (stop : Bool) (st : Running) → (judged s p stop st).run ≡ 1 → st.run ≡ 1
  unfolding judged
  judged_back stop st = picked (λ (z : Running). z.run ≡ 1 → st.run ≡ 1) (within s p st.r || stop) _ _ (λ e h. absurd (end_no_first _ st h)) (λ e h. h)

  judge_back : (st : Running) → (judge s p st).run ≡ 1 → st.run ≡ 1
  unfolding judge
  judge_back st = picked (λ (z : Running). z.run ≡ 1 → st.run ≡ 1) (is_running st.run) _ _ (λ e. judged_back _ st) (λ e h. h)

  more_back : (winv : List Float) (st : Running) → (one_more s p winv st).run ≡ 1 → st.run ≡ 1
  unfolding one_more
  more_back winv st h = judged_back _ _ h

  go_back : (winv : List Float) (k : ℕ) (st : Running) → (go s p winv k st).run ≡ 1 → st.run ≡ 1
  unfolding go
  go_back winv zero st = λ h. h
  go_back winv (suc k) st =
      let next = go_back winv k (one_more s p winv st) in
      picked (λ (z : Running). z.run ≡ 1 → st.run ≡ 1) (is_running st.run) _ _ (λ e h. more_back winv st (next h)) (λ e h. h)

pub retry_begins : RetryBegins
retry_begins s p st = record { begun = λ e f. retry_follows s p false st e f; no_first = λ c h. end_no_first s p c st h }

-- ---- the row limit counts where a run begins

-- what holds on each side of a test holds of two values that it picks
both_picked : {A : Type 0} (P : A → A → Type 0) (b : Bool) (x x' y y' : A) → (b ≡ true → P x y) → (b ≡ false → P x' y') → P (cond b x x') (cond b y y')
both_picked P true x x' y y' h k = h refl
both_picked P false x x' y y' h k = k refl

module _ (s : Scene) (p : Parameters) (limit : ℕ) where
  abbrev other : Parameters
  other = with_limit limit p

  -- the first state is the second, if that is of the first run
  abbrev Same : Running → Running → Type 0
  Same st st' = st'.run ≡ 1 → st ≡ st'

  judged_first : (stop : Bool) (st : Running) → Same (judged s other stop st) (judged s p stop st)
  unfolding judged
  judged_first stop st = both_picked Same (within s p st.r || stop) _ _ _ _ (λ e h. absurd (end_no_first s p _ st h)) (λ e h. refl)

  judge_first : (st : Running) → Same (judge s other st) (judge s p st)
  unfolding judge
  judge_first st = both_picked Same (is_running st.run) _ _ _ _ (λ e. judged_first _ st) (λ e h. refl)

  more_first : (winv : List Float) (st : Running) → Same (one_more s other winv st) (one_more s p winv st)
  unfolding one_more
  more_first winv st = judged_first _ _

  go_first : (winv : List Float) (k : ℕ) (st : Running) → Same (go s other winv k st) (go s p winv k st)
  unfolding go
  go_first winv zero st = λ h. refl
  go_first winv (suc k) st =
      let next = go_first winv k (one_more s p winv st) in
      both_picked Same (is_running st.run) _ _ _ _ (λ e h. ap (go s other winv k) (more_first winv st (go_back s p winv k (one_more s p winv st) h)) ∙ next h) (λ e h. refl)

  -- no retry is to begin: the first run has ended, or nothing moves
  abbrev NoRetry : Running → Type 0
  NoRetry st = st.run ≡ 1 → eqb (unknowns s) 0 ≡ true

  end_same : (c : Bool) (st : Running) → NoRetry st → end_run s other c st ≡ end_run s p c st
  unfolding end_run
  end_same c st n =
      both_picked (λ (z z' : Running). z ≡ z') (eqb st.run 1) _ _ _ _
      (λ e. rw (ap (λ (b : Bool). c || b) (n (eqb-true st.run 1 e)) ∙ or-true c))
      (λ e. refl)

  judged_same : (stop : Bool) (st : Running) → NoRetry st → judged s other stop st ≡ judged s p stop st
  unfolding judged
  judged_same stop st n = ap (λ (z : Running). cond (within s p st.r || stop) z st) (end_same (within s p st.r) st n)

  judge_same : (st : Running) → NoRetry st → judge s other st ≡ judge s p st
  unfolding judge
  judge_same st n = ap (λ (z : Running). cond (is_running st.run) z st) (judged_same (leb p.rounds st.done || ltb 800 (row_count s)) st n)

  more_same : (winv : List Float) (st : Running) → NoRetry st → one_more s other winv st ≡ one_more s p winv st
  unfolding one_more
  more_same winv st n = judged_same _ _ n

  go_same : (winv : List Float) (k : ℕ) (st : Running) → NoRetry st → go s other winv k st ≡ go s p winv k st
  unfolding go
  go_same winv zero st n = refl
  go_same winv (suc k) st n =
      let next = go_same winv k (one_more s p winv st) (λ h. n (more_back s p winv st h)) in
      both_picked (λ (z z' : Running). z ≡ z') (is_running st.run) _ _ _ _ (λ e. ap (go s other winv k) (more_same winv st n) ∙ next) (λ e. refl)

-- a first run that has converged finishes
module _ (s : Scene) (p : Parameters) where
  judged_home : (stop : Bool) (st : Running) → st.run ≡ 1 → within s p st.r ≡ true → judged s p stop st ≡ finished st
  judged_home stop st e h = judged_ends s p true stop st h refl ∙ first_ends s p true st e refl

  judge_home : (st : Running) → st.run ≡ 1 → within s p st.r ≡ true → judge s p st ≡ finished st
  unfolding judge
  judge_home st e h = rw (ap is_running e) (judged_home (leb p.rounds st.done || ltb 800 (row_count s)) st e h)

  module _ (winv : List Float) where
    more_home : (st : Running) → st.run ≡ 1 → within s p (after_round s winv st).r ≡ true → one_more s p winv st ≡ finished (after_round s winv st)
    unfolding one_more
    more_home st e h = judged_home _ (after_round s winv st) e h

    go_home : (j k : ℕ) (st : Running) → j < k → (go s p winv j st).run ≡ 1 → within s p (after_round s winv (go s p winv j st)).r ≡ true
        → go s p winv k st ≡ finished (after_round s winv (go s p winv j st))
    go_home j k st l e h =
        let n = k - suc j in
        let g : j + suc n ≡ k = omega arith in
        let here = go s p winv j st in
        ap (λ (i : ℕ). go s p winv i st) (sym g)
        ∙ go_add s p winv j (suc n) st
        ∙ go_more s p winv n here (ap is_running e)
        ∙ ap (go s p winv n) (more_home here e h)
        ∙ go_stays s p winv n (finished (after_round s winv here)) refl

-- ---- by calls

module _ (s : Scene) (p : Parameters) (drag : Option ℕ) where
  on_first : (k limit : ℕ) (st : Running) → (on s p drag k st).run ≡ 1 → on s (with_limit limit p) drag k st ≡ on s p drag k st
  unfolding on
  on_first k limit st h =
      let winv = inverse_weights s p drag in
      ap (go s (with_limit limit p) winv k) (judge_first s p limit st (go_back s p winv k (judge s p st) h)) ∙ go_first s p limit winv k (judge s p st) h

  on_same : (k limit : ℕ) (st : Running) → NoRetry s p limit st → on s (with_limit limit p) drag k st ≡ on s p drag k st
  unfolding on
  on_same k limit st n =
      let winv = inverse_weights s p drag in
      ap (go s (with_limit limit p) winv k) (judge_same s p limit st n) ∙ go_same s p limit winv k (judge s p st) (λ h. n (judge_back s p st h))

  on_at_once : (k : ℕ) (st : Running) → st.run ≡ 1 → within s p st.r ≡ true → on s p drag k st ≡ finished st
  unfolding on
  on_at_once k st e h = let winv = inverse_weights s p drag in ap (go s p winv k) (judge_home s p st e h) ∙ go_stays s p winv k (finished st) refl

  on_later : (j k : ℕ) (st : Running) → j < k → (on s p drag j st).run ≡ 1 → within s p (after_round s (inverse_weights s p drag) (on s p drag j st)).r ≡ true
      → on s p drag k st ≡ finished (after_round s (inverse_weights s p drag) (on s p drag j st))
  unfolding on
  on_later j k st l e h = go_home s p (inverse_weights s p drag) j k (judge s p st) l e h

-- by another limit it goes on for as many rounds, and finishes with the same
on_later_other : (s : Scene) (p : Parameters) (drag : Option ℕ) (j k limit : ℕ) (st : Running) → j < k → (on s p drag j st).run ≡ 1
    → within s p (after_round s (inverse_weights s p drag) (on s p drag j st)).r ≡ true
    → on s (with_limit limit p) drag k st ≡ finished (after_round s (inverse_weights s p drag) (on s p drag j st))
on_later_other s p drag j k limit st l e h =
    let winv = inverse_weights s p drag in
    let a = on_first s p drag j limit st e in
    on_later s (with_limit limit p) drag j k st l (ap (λ (z : Running). z.run) a ∙ e) (ap (λ (z : Running). within s p (after_round s winv z).r) a ∙ h)
    ∙ ap (λ (z : Running). finished (after_round s winv z)) a

pub limit_at_the_begin : LimitAtTheBegin
limit_at_the_begin s p drag k limit st =
    record {
      retry = λ e. on_same s p drag k limit st (λ h. absurd (omega arith));
      first = λ h. on_first s p drag k limit st h;
      at_once = λ e h. record { own = on_at_once s p drag k st e h; other = on_at_once s (with_limit limit p) drag k st e h };
      later = λ j l e h. record { own = on_later s p drag j k st l e h; other = on_later_other s p drag j k limit st l e h };
      unmoved = λ e. on_same s p drag k limit st (λ h. e);
    }

-- ---- over the limit

abbrev Stands : Running → Type 0
Stands st = is_running st.run ≡ false

module _ (s : Scene) (p : Parameters) (over : ltb p.row_limit (row_count s) ≡ true) where
  -- so no run goes on where it would begin
  not_begun : (x : List Float) → (within s p (rows_of s x) || no_round s p) ≡ false → ⊥
  not_begun x e = true≢false (sym over ∙ or_right (eqb (unknowns s) 0) _ (or_right (within s p (rows_of s x)) _ e))

  retry_over : (x : List Float) → Stands (begin_retry s p x)
  retry_over x = retry_begun s p Stands (ended_retry s p) x (λ e. absurd (not_begun (list_of slight_turn (unknowns s)) e))

  first_over : Stands (start s p)
  unfolding judged
  first_over =
      let zeros = list_of start_at (unknowns s) in
      picked Stands (within s p (rows_of s zeros) || no_round s p) _ _ (λ e. run_ended s p Stands (ended_retry s p) _ _ refl (λ f. retry_over zeros)) (λ e. absurd (not_begun zeros e))

pub none_over_the_limit : NoneOverTheLimit
none_over_the_limit s p over = record { first = first_over s p over; retry = retry_over s p over }

-- What holds of solving by rounds: document 02, 6/14, clause by clause. Statements; the proofs stand in proofs/PortionLaws.antt, FinishLaws.antt, ChangeLaws.antt,
-- OwnLaws.antt and KnownLaws.antt. `in_range` is test 15.
use Rattle.std.specs.Prelude.{ℕ, zero, suc, ◌+◌, ◌*◌, ◌≤◌, ◌<◌, ◌≡◌, Bool, true, false, ◌||◌, List, [], ◌∷◌, eqb, leb, ltb, Float}
use Rattle.std.proofs.Math.Option.{Option}
use Rattle.scene.specs.Solve.{Scene, Parameters, in_range, unknowns, rows_of, solve_with}
use Rattle.closeness.specs.HowClosely.{AllSmall, HowClosely, rounds_of}
use Rattle.portions.specs.Portions.{Running, is_running, run_of, finished, row_count, after_round, within, begin_retry, end_run, judge, one_more, go, rounds_made, start, inverse_weights, begin, on, answer_at}

-- by this set the run that goes on has not ended
abbrev pub Settled : Scene → Parameters → Running → Type 0
Settled s p st = is_running st.run ≡ true → (within s p st.r || (leb p.rounds st.done || ltb 800 (row_count s))) ≡ false

-- ---- under one set any portions end in one state, with the answer of `solve`

-- any number of calls that go on, one after another
unfoldable pub on_all : Scene → Parameters → Option ℕ → List ℕ → Running → Running
on_all s p drag [] st = st
on_all s p drag (k ∷ ks) st = on_all s p drag ks (on s p drag k st)

unfoldable pub total : List ℕ → ℕ
total [] = 0
total (k ∷ ks) = k + total ks

-- going on is as if the portion had been larger from the start: from a call that begins, in any number of calls, and from any state
abbrev pub Portions : Type 0
Portions = (s : Scene) (p : Parameters) (drag : Option ℕ) → in_range p ≡ true → (k l : ℕ) → on s p drag l (begin s p drag k) ≡ begin s p drag (k + l)

abbrev pub Schedules : Type 0
Schedules = (s : Scene) (p : Parameters) (drag : Option ℕ) → in_range p ≡ true → (k : ℕ) (ks : List ℕ) → on_all s p drag ks (begin s p drag k) ≡ begin s p drag (k + total ks)

abbrev pub PortionsOn : Type 0
PortionsOn = (s : Scene) (p : Parameters) (drag : Option ℕ) → in_range p ≡ true → (k l : ℕ) (st : Running) → on s p drag l (on s p drag k st) ≡ on s p drag (k + l) st

-- once it has had as many rounds as `solve` takes, at most two runs of the set's, it is finished, and the answer is that of `solve`
pub record Finished (s : Scene) (p : Parameters) (drag : Option ℕ) (k : ℕ) : Type 0 where
  pub run_is : (begin s p drag k).run ≡ 3
  pub answer_is : answer_at s p (begin s p drag k).x ≡ solve_with s p drag

abbrev pub Finishes : Type 0
Finishes = (s : Scene) (p : Parameters) (drag : Option ℕ) → in_range p ≡ true → (k : ℕ) → rounds_of s p drag ≤ k → Finished s p drag k

abbrev pub FinishesInTwoRuns : Type 0
FinishesInTwoRuns = (s : Scene) (p : Parameters) (drag : Option ℕ) → in_range p ≡ true → (k : ℕ) → 2 * p.rounds ≤ k → Finished s p drag k

-- Any portions end in one state: two schedules, each a call that begins and any number that go on, both with as many
-- rounds as `solve` takes.
pub record OneEnd (s : Scene) (p : Parameters) (drag : Option ℕ) (k l : ℕ) (ks ls : List ℕ) : Type 0 where
  pub same : on_all s p drag ks (begin s p drag k) ≡ on_all s p drag ls (begin s p drag l)
  pub run_is : (on_all s p drag ks (begin s p drag k)).run ≡ 3
  pub answer_is : answer_at s p (on_all s p drag ks (begin s p drag k)).x ≡ solve_with s p drag

abbrev pub OneState : Type 0
OneState = (s : Scene) (p : Parameters) (drag : Option ℕ) → in_range p ≡ true → (k l : ℕ) (ks ls : List ℕ)
    → rounds_of s p drag ≤ k + total ks → rounds_of s p drag ≤ l + total ls → OneEnd s p drag k l ks ls

-- a finished state stays, by any set
abbrev pub FinishedStays : Type 0
FinishedStays = (s : Scene) (p : Parameters) (drag : Option ℕ) (k : ℕ) (st : Running) → is_running st.run ≡ false → on s p drag k st ≡ st

-- ---- a change of set between two calls

-- a call judges by its own set up to the start of the round after its last: no run that it leaves has ended by that set
pub record JudgedToTheEnd (s : Scene) (p : Parameters) (drag : Option ℕ) (k : ℕ) : Type 0 where
  pub of_begin : Settled s p (begin s p drag k)
  pub of_on : (st : Running) → Settled s p (on s p drag k st)

abbrev pub JudgesToTheEnd : Type 0
JudgesToTheEnd = (s : Scene) (p : Parameters) (drag : Option ℕ) → in_range p ≡ true → (k : ℕ) → JudgedToTheEnd s p drag k

-- going on judges again before the first round: rows within this set's tolerance, or as many rounds as it allows or more, end the run
abbrev pub JudgesAgain : Type 0
JudgesAgain = (s : Scene) (p : Parameters) (drag : Option ℕ) (k : ℕ) (st : Running) → is_running st.run ≡ true → (within s p st.r || leb p.rounds st.done) ≡ true
    → on s p drag k st ≡ go s p (inverse_weights s p drag) k (end_run s p (within s p st.r) st)

-- unknowns and damping are carried over: a run that this set does not end goes on from the state as it stands
abbrev pub CarriesOver : Type 0
CarriesOver = (s : Scene) (p : Parameters) (drag : Option ℕ) (k : ℕ) (st : Running) → Settled s p st → on s p drag k st ≡ go s p (inverse_weights s p drag) k st

-- where the first run ends unconverged and something moves, the retry begins there; a run that has ended is no first run any more
pub record RetryBegun (s : Scene) (p : Parameters) (st : Running) : Type 0 where
  pub begun : st.run ≡ 1 → eqb (unknowns s) 0 ≡ false → end_run s p false st ≡ begin_retry s p st.x
  pub no_first : (converged : Bool) → (end_run s p converged st).run ≡ 1 → ⊥

abbrev pub RetryBegins : Type 0
RetryBegins = (s : Scene) (p : Parameters) (st : Running) → RetryBegun s p st

-- The row limit counts when a run begins: a call comes to the same state by any other limit, unless the retry begins
-- in it. (A finished state stays by any set.)
abbrev pub with_limit : ℕ → Parameters → Parameters
with_limit limit p = record { tolerance = p.tolerance; rounds = p.rounds; row_limit = limit; drag_weight = p.drag_weight }

-- the call finishes with the state `last`, by its own limit and by the other
pub record FinishedBy (s : Scene) (p : Parameters) (drag : Option ℕ) (k limit : ℕ) (st last : Running) : Type 0 where
  pub own : on s p drag k st ≡ finished last
  pub other : on s (with_limit limit p) drag k st ≡ finished last

pub record SameByLimit (s : Scene) (p : Parameters) (drag : Option ℕ) (k limit : ℕ) (st : Running) : Type 0 where
  -- the retry goes on
  pub retry : st.run ≡ 2 → on s (with_limit limit p) drag k st ≡ on s p drag k st
  -- the first run goes on, and the call leaves it so
  pub first : (on s p drag k st).run ≡ 1 → on s (with_limit limit p) drag k st ≡ on s p drag k st
  -- the first run has converged before the call's first round
  pub at_once : st.run ≡ 1 → within s p st.r ≡ true → FinishedBy s p drag k limit st st
  -- j rounds leave the first run going on, and it converges with the round after them
  pub later : (j : ℕ) → j < k → (on s p drag j st).run ≡ 1
      → let last = after_round s (inverse_weights s p drag) (on s p drag j st) in
      within s p last.r ≡ true → FinishedBy s p drag k limit st last
  -- nothing moves, so there is no retry
  pub unmoved : eqb (unknowns s) 0 ≡ true → on s (with_limit limit p) drag k st ≡ on s p drag k st

abbrev pub LimitAtTheBegin : Type 0
LimitAtTheBegin = (s : Scene) (p : Parameters) (drag : Option ℕ) (k limit : ℕ) (st : Running) → SameByLimit s p drag k limit st

-- with more rows than the limit a run that begins makes no round
pub record NoneOver (s : Scene) (p : Parameters) : Type 0 where
  pub first : is_running (start s p).run ≡ false
  pub retry : (x : List Float) → is_running (begin_retry s p x).run ≡ false

abbrev pub NoneOverTheLimit : Type 0
NoneOverTheLimit = (s : Scene) (p : Parameters) → ltb p.row_limit (row_count s) ≡ true → NoneOver s p

-- ---- one's own states: begun by a call, and gone on with by calls over the same sheet, each by a set and a drag of its own; j is the sum of their portions

pub data Own (s : Scene) : ℕ → Running → Type 0 where
  begun : (p : Parameters) (drag : Option ℕ) (k : ℕ) → in_range p ≡ true → Own s k (begin s p drag k)
  gone : (p : Parameters) (drag : Option ℕ) (k : ℕ) {j : ℕ} {st : Running} → in_range p ≡ true → Own s j st → Own s (j + k) (on s p drag k st)

-- the rows are those of the unknowns, so what a run is judged by is the flag that the call answers with
pub record OwnState (s : Scene) (st : Running) : Type 0 where
  pub rows_are : st.r ≡ rows_of s st.x
  pub flag_is : (p : Parameters) → in_range p ≡ true → within s p st.r ≡ (answer_at s p st.x).converged

abbrev pub OwnStates : Type 0
OwnStates = (s : Scene) (j : ℕ) (st : Running) → Own s j st → OwnState s st

-- by whatever sets, it is finished after portions of two runs of the most rounds that a set allows
abbrev pub EndsByAnySets : Type 0
EndsByAnySets = (s : Scene) (j : ℕ) (st : Running) → Own s j st → 2000 ≤ j → is_running st.run ≡ false

-- ---- from any state, one's own or not

-- the run is 1, 2 or 3, and a call leaves no other, so that the next call reads what this one left
abbrev pub Known : Running → Type 0
Known st = run_of st.run ≡ st.run

pub record KnownRun (s : Scene) (p : Parameters) (drag : Option ℕ) (k : ℕ) : Type 0 where
  pub of_begin : Known (begin s p drag k)
  pub of_on : (st : Running) → Known st → Known (on s p drag k st)

abbrev pub KnownRuns : Type 0
KnownRuns = (s : Scene) (p : Parameters) (drag : Option ℕ) (k : ℕ) → KnownRun s p drag k

-- so many rounds, one after another
unfoldable pub more : Scene → Parameters → List Float → ℕ → Running → Running
more s p winv zero st = st
more s p winv (suc k) st = more s p winv k (one_more s p winv st)

-- A portion of k rounds leads from one state to another by just the rounds that it makes. These are at most k, and
-- exactly k where the state that is reached still runs.
pub record PortionMade (s : Scene) (p : Parameters) (winv : List Float) (k : ℕ) (from to : Running) : Type 0 where
  pub led : to ≡ more s p winv (rounds_made s p winv k from) from
  pub few : rounds_made s p winv k from ≤ k
  pub all : is_running to.run ≡ true → rounds_made s p winv k from ≡ k

pub record MadeByCall (s : Scene) (p : Parameters) (drag : Option ℕ) (k : ℕ) : Type 0 where
  pub of_begin : PortionMade s p (inverse_weights s p drag) k (start s p) (begin s p drag k)
  pub of_on : (st : Running) → PortionMade s p (inverse_weights s p drag) k (judge s p st) (on s p drag k st)

abbrev pub MakesThePortion : Type 0
MakesThePortion = (s : Scene) (p : Parameters) (drag : Option ℕ) (k : ℕ) → MadeByCall s p drag k

-- demand 3 for any unknowns
abbrev pub CloselyAt : Type 0
CloselyAt = (s : Scene) (p : Parameters) (x : List Float) → AllSmall s → HowClosely s p.tolerance (answer_at s p x)

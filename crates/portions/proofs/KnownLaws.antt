-- Which run a call leaves: 1, 2 or 3, whatever byte stood there before. Assumes nothing.
use Prim.Native.Nat.{ℕ, zero, suc}
use mathlib.Core.Path.{◌≡◌, refl}
use mathlib.Core.Bool.{Bool, ◌||◌}
use mathlib.Core.List.{List}
use lib.Ieee.{Float}
use Rattle.scene.specs.Solve.{Scene, Parameters}
use Rattle.closeness.proofs.HowCloselyLaws.{picked}
use Rattle.portions.specs.Portions.{Running, is_running, run_of, within, end_retry, end_run, judged, judge, one_more, go, start, inverse_weights, begin, on}
use Rattle.portions.specs.Laws.{Known, KnownRuns}
use Rattle.portions.proofs.PortionLaws.{retry_begun, run_ended}

module _ (s : Scene) (p : Parameters) where
  retry_known : (c : Bool) (st : Running) → Known (end_retry s c st)
  unfolding end_retry
  retry_known c st = refl

  end_known : (c : Bool) (st : Running) → Known (end_run s p c st)
  end_known c st = run_ended s p Known retry_known c st refl (λ e. retry_begun s p Known retry_known st.x (λ f. refl))

  judged_known : (stop : Bool) (st : Running) → Known st → Known (judged s p stop st)
  unfolding judged
  judged_known stop st h = picked Known (within s p st.r || stop) _ _ (λ e. end_known (within s p st.r) st) (λ e. h)

  judge_known : (st : Running) → Known st → Known (judge s p st)
  unfolding judge
  judge_known st h = picked Known (is_running st.run) _ _ (λ e. judged_known _ st h) (λ e. h)

  more_known : (winv : List Float) (st : Running) → Known st → Known (one_more s p winv st)
  unfolding one_more
  more_known winv st h = judged_known _ _ h

  go_known : (winv : List Float) (k : ℕ) (st : Running) → Known st → Known (go s p winv k st)
  unfolding go
  go_known winv zero st h = h
  go_known winv (suc k) st h = picked Known (is_running st.run) _ _ (λ e. go_known winv k (one_more s p winv st) (more_known winv st h)) (λ e. h)

pub known_runs : KnownRuns
unfolding begin on
known_runs s p drag k =
    record {
      of_begin = go_known s p (inverse_weights s p drag) k (start s p) (judged_known s p _ _ refl);
      of_on = λ st h. go_known s p (inverse_weights s p drag) k (judge s p st) (judge_known s p st h);
    }

-- a byte that was read is a run
pub run_known : (run : ℕ) → run_of (run_of run) ≡ run_of run
run_known run = picked (λ (r : ℕ). run_of r ≡ r) (is_running run) run 3 (λ e. rw e) (λ e. refl)

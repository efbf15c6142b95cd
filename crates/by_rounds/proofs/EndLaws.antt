-- How runs begin and end in the scratch: each end of the code is the definition's, by what the calls below leave of the unknowns, those of the first run, the rows and the
-- weights. Assumes nothing.
use mathlib.Core.Path.{◌≡◌, refl, sym, ap, ◌∙◌}
use mathlib.Core.Bool.{Bool, true, false, ◌||◌, cond}
use mathlib.Core.List.{List}
use Prim.Native.Nat.{ℕ, ◌+◌, ◌≤◌}
use native.Mathlib.Omega.{arith}
use borrow.Author.Tests.{eq-eqb, ne_eqb}
use lib.ListN.{length}
use lib.Dec.{eqb, leb, ltb}
use lib.Ieee.{Float, binary64, lt, le, of_bits}
use Rattle.numbers.specs.MaxAbs.{max_abs}
use Rattle.least_squares.specs.Lm.{list_of}
use Rattle.least_squares.specs.LmPosts.{Copied}
use Rattle.least_squares.specs.Memory.{part}
use Rattle.least_squares.proofs.MemoryLaws.{part_below, taken_part, kept_part_below, kept_part_above}
use Rattle.scene.specs.Scene.{Laid, Put, RowsAt, scene_of}
use Rattle.scene.specs.Solve.{Scene, Parameters, unknowns, rows_of, start_at, slight_turn, better, poses_at}
use Rattle.scene.specs.declared.scene.Scene.{Scene as SceneStruct}
use Rattle.rounds.specs.Parts.{Arranged}
use Rattle.rounds.specs.Rounds.{unknowns_in, first_in, within_in}
use Rattle.rounds.specs.declared.parts.SolveParts.{SolveParts as PartsStruct}
use Rattle.placement.specs.Answer.{Better}
use Rattle.portions.specs.Portions.{Running, is_running, finished, row_count, fresh, end_retry, within, no_round, begin_retry, end_run, judged, judge}
use Rattle.by_rounds.specs.Running.{running_in, worked, Went}
use Rattle.by_rounds.specs.declared.ends.Going.{Going as GoingStruct}

-- ---- one call after another

pub went_then : (c : SceneStruct) (p : PartsStruct) (s t u : List Float) (g h : GoingStruct) (st a b : Running) → Went c p s t g st → Went c p t u h a → a ≡ b → Went c p s u h b
went_then c p s t u g h st a b x y e = record { running = y.running ∙ e; weights = y.weights ∙ x.weights; size = y.size ∙ x.size }

pub went_as : (c : SceneStruct) (p : PartsStruct) (s t : List Float) (g : GoingStruct) (a b : Running) → Went c p s t g a → a ≡ b → Went c p s t g b
went_as c p s t g a b x e = record { running = x.running ∙ e; weights = x.weights; size = x.size }

pub went_none : (c : SceneStruct) (p : PartsStruct) (s : List Float) (g : GoingStruct) (st : Running) → running_in c p s g ≡ st → Went c p s s g st
went_none c p s g st e = record { running = e; weights = refl; size = refl }

-- ---- the rows worked

module _ (sc : Scene) (c : SceneStruct) (p : PartsStruct) (s t : List Float) (at : Arranged c p (length s)) (rows : RowsAt sc s t p.x c.n p.rows c.rows p.poses) where
  rows_same : (o k : ℕ) → o + k ≤ p.rows → part t o k ≡ part s o k
  rows_same o k h = part_below s t _ o k rows.size rows.below h

  pub worked_is : (g : GoingStruct) → Went c p s t g (worked sc (running_in c p s g))
  worked_is g =
      let x = rows_same p.x c.n (omega arith) in
      let first = rows_same p.first c.n (omega arith) in
      record {
        running = λ z. record { x = x z; first = first z; r = rows.holds z; mu = g.mu; done = g.done; run = g.run };
        weights = rows_same p.weights c.n (omega arith);
        size = rows.size;
      }

-- ---- the retry ends

-- a running state whose retry has ended at x
abbrev ended : Scene → Running → List Float → Running
ended sc st x = record { x = x; first = st.first; r = rows_of sc x; mu = st.mu; done = st.done; run = 3 }

end_retry_at : (sc : Scene) (converged : Bool) (st : Running) (b : Bool) → (converged || lt (max_abs (rows_of sc st.x)) (max_abs (rows_of sc st.first))) ≡ b
    → ended sc st (cond b st.x st.first) ≡ end_retry sc converged st
unfolding end_retry better
end_retry_at sc converged st true h = rw h
end_retry_at sc converged st false h = rw h

-- what goes by value, finished
abbrev pub at_end : GoingStruct → GoingStruct
at_end g = record { mu = g.mu; done = g.done; run = 3 }

module _ (sc : Scene) (c : SceneStruct) (p : PartsStruct) (s t : List Float) (g : GoingStruct) (converged kept : Bool) (at : Arranged c p (length s)) (b : Better sc c p s t converged kept) where
  choice_part : (o k : ℕ) → o + k ≤ p.ahead → part t o k ≡ part s o k
  choice_part o k h = taken_part s t p.ahead o k b.size b.below h

  -- the choice leaves the running state
  pub choice_leaves : Went c p s t g (running_in c p s g)
  choice_leaves =
      let x = choice_part p.x c.n (omega arith) in
      let first = choice_part p.first c.n (omega arith) in
      let r = choice_part p.rows c.rows (omega arith) in
      record {
        running = λ z. record { x = x z; first = first z; r = r z; mu = g.mu; done = g.done; run = g.run };
        weights = choice_part p.weights c.n (omega arith);
        size = b.size;
      }

  pub retry_stays : (u : List Float) (h : GoingStruct) → kept ≡ true → Went c p t u h (worked sc (running_in c p t (at_end g))) → Went c p s u h (end_retry sc converged (running_in c p s g))
  retry_stays u h k w =
      let x = choice_part p.x c.n (omega arith) in
      let first = choice_part p.first c.n (omega arith) in
      let e : worked sc (running_in c p t (at_end g)) ≡ ended sc (running_in c p s g) (unknowns_in c p s) = λ z. record { x = x z; first = first z; r = rows_of sc (x z); mu = g.mu; done = g.done; run = 3 } in
      went_then c p s t u g h _ _ _ choice_leaves w (e ∙ end_retry_at sc converged (running_in c p s g) true (sym b.told ∙ k))

  pub retry_goes : (u v : List Float) (h : GoingStruct) → kept ≡ false → Copied t u p.first p.x c.n → Went c p u v h (worked sc (running_in c p u (at_end g)))
      → Went c p s v h (end_retry sc converged (running_in c p s g))
  retry_goes u v h k d w =
      let x : unknowns_in c p u ≡ first_in c p s = d.copy ∙ choice_part p.first c.n (omega arith) in
      let first : first_in c p u ≡ first_in c p s = kept_part_below t u p.x (p.x + c.n) p.first c.n at.first d.kept ∙ choice_part p.first c.n (omega arith) in
      let e : worked sc (running_in c p u (at_end g)) ≡ ended sc (running_in c p s g) (first_in c p s) = λ z. record { x = x z; first = first z; r = rows_of sc (x z); mu = g.mu; done = g.done; run = 3 } in
      record {
        running = w.running ∙ e ∙ end_retry_at sc converged (running_in c p s g) false (sym b.told ∙ k);
        weights = w.weights ∙ kept_part_above t u p.x (p.x + c.n) p.weights c.n (omega arith) d.kept ∙ choice_part p.weights c.n (omega arith);
        size = w.size ∙ d.kept.size ∙ b.size;
      }

-- ---- the retry begins

-- what goes by value, about to begin
abbrev pub at_begin : ℕ → GoingStruct
at_begin run = record { mu = of_bits binary64 0x3DDB_7CDF_D9D7_BDBB; done = 0; run = run }

pub turned_is : (sc : Scene) (c : SceneStruct) (p : PartsStruct) (s t u v : List Float) (g : GoingStruct) → c.n ≡ unknowns sc → Arranged c p (length s) → Copied s t p.x p.first c.n
    → Put t u p.x c.n (list_of slight_turn c.n) → Went c p u v g (worked sc (running_in c p u (at_begin 2)))
    → Went c p s v g (fresh sc 2 (unknowns_in c p s) (list_of slight_turn (unknowns sc)))
turned_is sc c p s t u v g n at d y w =
    let x : unknowns_in c p u ≡ list_of slight_turn (unknowns sc) = y.holds ∙ ap (list_of slight_turn) n in
    let first : first_in c p u ≡ unknowns_in c p s = kept_part_below t u p.x (p.x + c.n) p.first c.n at.first y.kept ∙ d.copy in
    let e : worked sc (running_in c p u (at_begin 2)) ≡ fresh sc 2 (unknowns_in c p s) (list_of slight_turn (unknowns sc))
    = λ z. record { x = x z; first = first z; r = rows_of sc (x z); mu = of_bits binary64 0x3DDB_7CDF_D9D7_BDBB; done = 0; run = 2 } in
    record {
      running = w.running ∙ e;
      weights =
          w.weights
          ∙ kept_part_above t u p.x (p.x + c.n) p.weights c.n (omega arith) y.kept
          ∙ kept_part_above s t p.first (p.first + c.n) p.weights c.n (omega arith) d.kept;
      size = w.size ∙ y.kept.size ∙ d.kept.size;
    }

-- where no round is made, by the scene's own counts
pub none_made : (sheet : List ℕ) (c : SceneStruct) (q : Parameters) → Laid sheet c → (eqb c.n 0 || ltb q.row_limit c.rows) ≡ no_round (scene_of sheet c) q
none_made sheet c q l = λ z. eqb (l.unknown_count z) 0 || ltb q.row_limit (sym (l.row_count (poses_at (scene_of sheet c) (list_of start_at (unknowns (scene_of sheet c))))) z)

pub row_count_is : (sheet : List ℕ) (c : SceneStruct) → Laid sheet c → row_count (scene_of sheet c) ≡ c.rows
row_count_is sheet c l = l.row_count (poses_at (scene_of sheet c) (list_of start_at (unknowns (scene_of sheet c))))

module _ (sc : Scene) (q : Parameters) (first : List Float) where
  abbrev turned : Running
  turned = fresh sc 2 first (list_of slight_turn (unknowns sc))

  begin_near : within sc q turned.r ≡ true → end_retry sc true turned ≡ begin_retry sc q first
  unfolding begin_retry
  begin_near h = rw h

  begin_none : within sc q turned.r ≡ false → no_round sc q ≡ true → end_retry sc false turned ≡ begin_retry sc q first
  unfolding begin_retry
  begin_none h k = rw (h, k)

  begin_on : within sc q turned.r ≡ false → no_round sc q ≡ false → turned ≡ begin_retry sc q first
  unfolding begin_retry
  begin_on h k = rw (h, k)

  module _ (c : SceneStruct) (p : PartsStruct) (s t : List Float) (g : GoingStruct) (w : Went c p s t g turned) (near : Bool) (e : near ≡ within_in c p t q.tolerance) where
    -- what the rows in the scratch tell
    turned_within : within sc q turned.r ≡ near
    turned_within = sym (ap (λ (st : Running). le (max_abs st.r) q.tolerance) w.running) ∙ sym e

    pub retry_near : (u : List Float) (h : GoingStruct) → near ≡ true → Went c p t u h (end_retry sc true (running_in c p t g)) → Went c p s u h (begin_retry sc q first)
    retry_near u h k y = went_then c p s t u g h _ _ _ w y (ap (end_retry sc true) w.running ∙ begin_near (turned_within ∙ k))

    pub retry_none : (u : List Float) (h : GoingStruct) → near ≡ false → no_round sc q ≡ true → Went c p t u h (end_retry sc false (running_in c p t g)) → Went c p s u h (begin_retry sc q first)
    retry_none u h k n y = went_then c p s t u g h _ _ _ w y (ap (end_retry sc false) w.running ∙ begin_none (turned_within ∙ k) n)

    pub retry_on : near ≡ false → no_round sc q ≡ false → Went c p s t g (begin_retry sc q first)
    retry_on k n = went_as c p s t g _ _ w (begin_on (turned_within ∙ k) n)

-- ---- a run ends

module _ (sc : Scene) (q : Parameters) (st : Running) where
  pub end_retried : (converged : Bool) → (st.run ≡ 1 → ⊥) → end_retry sc converged st ≡ end_run sc q converged st
  unfolding end_run
  end_retried converged h = rw (ne_eqb st.run 1 h)

  pub end_converged : (converged : Bool) → st.run ≡ 1 → converged ≡ true → finished st ≡ end_run sc q converged st
  unfolding end_run
  end_converged converged h k = rw (eq-eqb st.run 1 h, k)

  pub end_still : (converged : Bool) → st.run ≡ 1 → converged ≡ false → unknowns sc ≡ 0 → finished st ≡ end_run sc q converged st
  unfolding end_run
  end_still converged h k n = rw (eq-eqb st.run 1 h, k, eq-eqb (unknowns sc) 0 n)

  pub end_retries : (converged : Bool) → st.run ≡ 1 → converged ≡ false → (unknowns sc ≡ 0 → ⊥) → begin_retry sc q st.x ≡ end_run sc q converged st
  unfolding end_run
  end_retries converged h k n = rw (eq-eqb st.run 1 h, k, ne_eqb (unknowns sc) 0 n)

  -- ---- and is judged

  pub judged_near : (stop near : Bool) → near ≡ within sc q st.r → near ≡ true → end_run sc q true st ≡ judged sc q stop st
  unfolding judged
  judged_near stop near e h = rw (sym e ∙ h)

  pub judged_stop : (stop near : Bool) → near ≡ within sc q st.r → near ≡ false → stop ≡ true → end_run sc q false st ≡ judged sc q stop st
  unfolding judged
  judged_stop stop near e h k = rw (sym e ∙ h, k)

  pub judged_on : (stop near : Bool) → near ≡ within sc q st.r → near ≡ false → stop ≡ false → st ≡ judged sc q stop st
  unfolding judged
  judged_on stop near e h k = rw (sym e ∙ h, k)

  pub judge_running : (running stop : Bool) → running ≡ is_running st.run → running ≡ true → stop ≡ (leb q.rounds st.done || ltb 800 (row_count sc)) → judged sc q stop st ≡ judge sc q st
  unfolding judge
  judge_running running stop e h k = rw (sym e ∙ h, k)

  pub judge_finished : (running : Bool) → running ≡ is_running st.run → running ≡ false → st ≡ judge sc q st
  unfolding judge
  judge_finished running e h = rw (sym e ∙ h)

-- Rounds and runs in memory: what each round of a run and each early end is by the definitions, and what it leaves alone. By the laws of one round. Assumes nothing.
use mathlib.Core.Path.{◌≡◌, refl, sym, ap, ◌∙◌}
use mathlib.Core.Bool.{Bool, true, false, ◌||◌}
use mathlib.Core.List.{List}
use Prim.Native.Nat.{ℕ, suc, ◌+◌, ◌-◌, ◌≤◌, ◌<◌}
use native.Mathlib.Omega.{arith}
use native.Mathlib.Numerals.{add-one}
use borrow.Author.Tests.{eq-eqb, ne_eqb, lt-ltb, le-ltb}
use lib.Dec.{eqb, ltb}
use lib.ListN.{length, get_or}
use lib.Ieee.{Float, binary64, le, nan, of_bits}
use Rattle.numbers.specs.MaxAbs.{max_abs}
use Rattle.least_squares.specs.Memory.{part}
use Rattle.least_squares.specs.Lm.{State, Tried, Outcome, norm2, one_round, rounds, run}
use Rattle.scene.specs.Solve.{Scene, rows_of}
use Rattle.scene.specs.Scene.{RowsAt}
use Rattle.scene.specs.declared.scene.Scene.{Scene as SceneStruct}
use Rattle.least_squares.proofs.MemoryLaws.{part_length, part_below}
use Rattle.rounds.proofs.TrialLaws.{keeps_refl, keeps_trans}
use Rattle.rounds.specs.Parts.{Arranged}
use Rattle.rounds.specs.Rounds.{weights_in, unknowns_in, rows_in, state_in, tried_in, within_in, Keeps, RoundMade, Ran}
use Rattle.rounds.specs.declared.parts.SolveParts.{SolveParts as PartsStruct}
use Rattle.rounds.specs.declared.trial.Tried.{Tried as TriedStruct}
use Rattle.rounds.specs.declared.rounds.RunEnd.{RunEnd as RunEndStruct}
use Rattle.rounds.proofs.RoundLaws.{pick_true, pick_false}

-- ---- rounds, by the definitions

module _ (f : List Float → List Float) (winv : List Float) (tol : Float) (k done : ℕ) (s : State) (t : Tried) (e : t ≡ one_round f winv s) where
  -- what follows a round
  abbrev after : Tried → Outcome
  after w =
      elim (le (max_abs w.state.r) tol) [
        | true ↦ record { x = w.state.x; converged = true; rounds = suc done }
        | false ↦
            elim w.better [
              | true ↦ rounds f winv tol k (suc done) w.state
              | false ↦ record { x = w.state.x; converged = false; rounds = suc done }
            ]
      ]

  rounds_after : rounds f winv tol (suc k) done s ≡ after t
  unfolding rounds
  rounds_after = ap after (sym e)

  rounds_in : le (max_abs t.state.r) tol ≡ true → rounds f winv tol (suc k) done s ≡ record { x = t.state.x; converged = true; rounds = suc done }
  rounds_in h = rounds_after ∙ pick_true (le (max_abs t.state.r) tol) _ _ h

  rounds_on : le (max_abs t.state.r) tol ≡ false → t.better ≡ true → rounds f winv tol (suc k) done s ≡ rounds f winv tol k (suc done) t.state
  rounds_on h b = rounds_after ∙ pick_false (le (max_abs t.state.r) tol) _ _ h ∙ pick_true t.better _ _ b

  rounds_stop : le (max_abs t.state.r) tol ≡ false → t.better ≡ false → rounds f winv tol (suc k) done s ≡ record { x = t.state.x; converged = false; rounds = suc done }
  rounds_stop h b = rounds_after ∙ pick_false (le (max_abs t.state.r) tol) _ _ h ∙ pick_false t.better _ _ b

rounds_none : (f : List Float → List Float) (winv : List Float) (tol : Float) (done : ℕ) (s : State)
    → rounds f winv tol 0 done s ≡ record { x = s.x; converged = le (max_abs s.r) tol; rounds = done }
unfolding rounds
rounds_none f winv tol done s = refl

-- ---- rounds in memory

-- the rounds from a state, with the weights that s has
abbrev rounds_from : Scene → SceneStruct → PartsStruct → List Float → Float → ℕ → ℕ → State → Outcome
rounds_from sc c p s tol k done w = rounds (rows_of sc) (weights_in c p s) tol k done w

-- i rounds were made, each better and none within the tolerance: those left come to what all come to
pub record Going (sc : Scene) (c : SceneStruct) (p : PartsStruct) (s t : List Float) (tol : Float) (most : ℕ) (cost mu e d : Float) (i : ℕ) : Type 0 where
  pub keeps : Keeps c p s t
  pub left : rounds_from sc c p s tol most 0 (state_in c p s cost mu) ≡ rounds_from sc c p s tol (most - i) i (state_in c p t e d)

pub going_start : (sc : Scene) (c : SceneStruct) (p : PartsStruct) (s : List Float) (tol : Float) (most : ℕ) (cost mu : Float) → Going sc c p s s tol most cost mu cost mu 0
going_start sc c p s tol most cost mu =
    let e : most ≡ most - 0 = omega arith in
    record { keeps = keeps_refl c p s; left = ap (λ (k : ℕ). rounds_from sc c p s tol k 0 (state_in c p s cost mu)) e }

-- how a run ended, as the code tells it
abbrev told : Bool → ℕ → RunEndStruct
told ok k = record { converged = ok; rounds = k }

ran : (c : SceneStruct) (p : PartsStruct) (s t : List Float) (o : Outcome) (ok : Bool) (k : ℕ) → o ≡ record { x = unknowns_in c p t; converged = ok; rounds = k } → Keeps c p s t
    → Ran c p s t o (told ok k)
ran c p s t o ok k e h = record { told = sym (ap (λ (w : Outcome). w.converged) e); made = sym (ap (λ (w : Outcome). w.rounds) e); unknowns = sym (ap (λ (w : Outcome). w.x) e); keeps = h }

module _ (sc : Scene) (c : SceneStruct) (p : PartsStruct) (s t u : List Float) (tol : Float) (most : ℕ) (cost mu e d : Float) (i : ℕ) (r : TriedStruct)
    (h : i < most) (g : Going sc c p s t tol most cost mu e d i) (m : RoundMade sc c p t u e d r) where
  round_is : tried_in c p u r ≡ one_round (rows_of sc) (weights_in c p s) (state_in c p t e d)
  round_is = m.tried ∙ ap (λ (w : List Float). one_round (rows_of sc) w (state_in c p t e d)) g.keeps.weights

  round_less : rounds_from sc c p s tol most 0 (state_in c p s cost mu) ≡ rounds_from sc c p s tol (suc (most - (i + 1))) i (state_in c p t e d)
  round_less = let z : most - i ≡ suc (most - (i + 1)) = omega arith in g.left ∙ ap (λ (k : ℕ). rounds_from sc c p s tol k i (state_in c p t e d)) z

  round_keeps : Keeps c p s u
  round_keeps = keeps_trans c p s t u g.keeps m.keeps

  -- the round just made is counted
  counted : (ok : Bool) → ◌≡◌ {A = Outcome} (record { x = unknowns_in c p u; converged = ok; rounds = suc i }) (record { x = unknowns_in c p u; converged = ok; rounds = i + 1 })
  counted ok = ap (λ (k : ℕ). record { x = unknowns_in c p u; converged = ok; rounds = k }) (sym (add-one i))

  pub going_in : (ok : Bool) → ok ≡ within_in c p u tol → ok ≡ true → Ran c p s u (rounds_from sc c p s tol most 0 (state_in c p s cost mu)) (told true (i + 1))
  going_in ok w q =
      ran c p s u _ true (i + 1)
      (round_less ∙ rounds_in (rows_of sc) (weights_in c p s) tol (most - (i + 1)) i (state_in c p t e d) (tried_in c p u r) round_is (sym w ∙ q) ∙ counted true) round_keeps

  pub going_stop : (ok : Bool) → ok ≡ within_in c p u tol → ok ≡ false → r.better ≡ false → Ran c p s u (rounds_from sc c p s tol most 0 (state_in c p s cost mu)) (told false (i + 1))
  going_stop ok w q b =
      ran c p s u _ false (i + 1)
      (round_less ∙ rounds_stop (rows_of sc) (weights_in c p s) tol (most - (i + 1)) i (state_in c p t e d) (tried_in c p u r) round_is (sym w ∙ q) b ∙ counted false) round_keeps

  pub going_on : (ok : Bool) → ok ≡ within_in c p u tol → ok ≡ false → r.better ≡ true → Going sc c p s u tol most cost mu r.cost r.mu (i + 1)
  going_on ok w q b =
      record {
        keeps = round_keeps;
        left =
            round_less
            ∙ rounds_on (rows_of sc) (weights_in c p s) tol (most - (i + 1)) i (state_in c p t e d) (tried_in c p u r) round_is (sym w ∙ q) b
            ∙ ap (λ (k : ℕ). rounds_from sc c p s tol (most - (i + 1)) k (state_in c p u r.cost r.mu)) (sym (add-one i));
      }

pub going_end : (sc : Scene) (c : SceneStruct) (p : PartsStruct) (s t : List Float) (tol : Float) (most : ℕ) (cost mu e d : Float) (i : ℕ) (ok : Bool) → i ≡ most → Going sc c p s t tol most cost mu e d i → ok ≡ within_in c p t tol
    → Ran c p s t (rounds_from sc c p s tol most 0 (state_in c p s cost mu)) (told ok most)
going_end sc c p s t tol most cost mu e d i ok h g w =
    let z : most - i ≡ 0 = omega arith in
    let a =
    g.left ∙ ap (λ (k : ℕ). rounds_from sc c p s tol k i (state_in c p t e d)) z
    ∙ rounds_none (rows_of sc) (weights_in c p s) tol i (state_in c p t e d) in
    record { told = w ∙ sym (ap (λ (o : Outcome). o.converged) a); made = sym h ∙ sym (ap (λ (o : Outcome). o.rounds) a); unknowns = sym (ap (λ (o : Outcome). o.x) a); keeps = g.keeps }

-- ---- a run, by the definitions

or-false : (a b : Bool) → a ≡ false → (a || b) ≡ b
or-false a b h = rw h

module _ (f : List Float → List Float) (winv : List Float) (tol : Float) (most limit : ℕ) (x r : List Float) (e : r ≡ f x) where
  -- a run with the rows v
  abbrev run_with : List Float → Outcome
  run_with v =
      elim (eqb (length v) 0 || le (max_abs v) tol) [
        | true ↦ record { x = x; converged = true; rounds = 0 }
        | false ↦
            elim (eqb (length x) 0 || ltb limit (length v)) [
              | true ↦ record { x = x; converged = false; rounds = 0 }
              | false ↦ rounds f winv tol most 0 (record { x = x; r = v; cost = norm2 v; mu = of_bits binary64 0x3DDB_7CDF_D9D7_BDBB })
            ]
      ]

  run_with_lem : run f winv tol most limit x ≡ run_with r
  unfolding run
  run_with_lem = ap run_with (sym e)

  run_done : (eqb (length r) 0 || le (max_abs r) tol) ≡ true → run f winv tol most limit x ≡ record { x = x; converged = true; rounds = 0 }
  run_done h = run_with_lem ∙ pick_true (eqb (length r) 0 || le (max_abs r) tol) _ _ h

  run_none : (eqb (length r) 0 || le (max_abs r) tol) ≡ false → (eqb (length x) 0 || ltb limit (length r)) ≡ true → run f winv tol most limit x ≡ record { x = x; converged = false; rounds = 0 }
  run_none h l = run_with_lem ∙ pick_false (eqb (length r) 0 || le (max_abs r) tol) _ _ h ∙ pick_true (eqb (length x) 0 || ltb limit (length r)) _ _ l

  run_rounds : (eqb (length r) 0 || le (max_abs r) tol) ≡ false → (eqb (length x) 0 || ltb limit (length r)) ≡ false
      → run f winv tol most limit x ≡ rounds f winv tol most 0 (record { x = x; r = r; cost = norm2 r; mu = of_bits binary64 0x3DDB_7CDF_D9D7_BDBB })
  run_rounds h l = run_with_lem ∙ pick_false (eqb (length r) 0 || le (max_abs r) tol) _ _ h ∙ pick_false (eqb (length x) 0 || ltb limit (length r)) _ _ l

-- ---- a run in memory

module _ (sc : Scene) (c : SceneStruct) (p : PartsStruct) (s u : List Float) (tol : Float) (most limit : ℕ) (at : Arranged c p (length s)) (rows : RowsAt sc s u p.x c.n p.rows c.rows p.poses) where
  -- a part before the rows is as it was
  run_same : (o k : ℕ) → o + k ≤ p.rows → part u o k ≡ part s o k
  run_same o k h = part_below s u _ o k rows.size rows.below (omega arith)

  pub run_keeps : Keeps c p s u
  run_keeps = record { size = rows.size; weights = run_same p.weights c.n (omega arith); first = run_same p.first c.n (omega arith) }

  run_unknowns : unknowns_in c p u ≡ unknowns_in c p s
  run_unknowns = run_same p.x c.n (omega arith)

  row_count : length (rows_in c p u) ≡ c.rows
  row_count = let z = rows.size in part_length u p.rows c.rows (omega arith)

  unknown_count : length (unknowns_in c p s) ≡ c.n
  unknown_count = part_length s p.x c.n (omega arith)

  -- the run from the unknowns at entry
  abbrev whole : Outcome
  whole = run (rows_of sc) (weights_in c p s) tol most limit (unknowns_in c p s)

  ends : (ok : Bool) → whole ≡ record { x = unknowns_in c p s; converged = ok; rounds = 0 } → Ran c p s u whole (told ok 0)
  ends ok e = ran c p s u whole ok 0 (e ∙ ap (λ (w : List Float). record { x = w; converged = ok; rounds = 0 }) (sym run_unknowns)) run_keeps

  pub ran_empty : c.rows ≡ 0 → Ran c p s u whole (told true 0)
  ran_empty h = ends true (run_done (rows_of sc) (weights_in c p s) tol most limit (unknowns_in c p s) (rows_in c p u) rows.holds (rw (eq-eqb (length (rows_in c p u)) 0 (row_count ∙ h))))

  -- the rows are some
  some_rows : (ok : Bool) → ok ≡ within_in c p u tol → (c.rows ≡ 0 → ⊥) → (eqb (length (rows_in c p u)) 0 || within_in c p u tol) ≡ ok
  some_rows ok w h = or-false (eqb (length (rows_in c p u)) 0) (within_in c p u tol) (ne_eqb (length (rows_in c p u)) 0 (λ z. h (sym row_count ∙ z))) ∙ sym w

  pub ran_within : (ok : Bool) → ok ≡ within_in c p u tol → (c.rows ≡ 0 → ⊥) → ok ≡ true → Ran c p s u whole (told true 0)
  ran_within ok w h q = ends true (run_done (rows_of sc) (weights_in c p s) tol most limit (unknowns_in c p s) (rows_in c p u) rows.holds (some_rows ok w h ∙ q))

  module _ (ok : Bool) (w : ok ≡ within_in c p u tol) (h : c.rows ≡ 0 → ⊥) (q : ok ≡ false) where
    pub ran_fixed : c.n ≡ 0 → Ran c p s u whole (told false 0)
    ran_fixed l =
        ends false
        (run_none (rows_of sc) (weights_in c p s) tol most limit (unknowns_in c p s) (rows_in c p u) rows.holds (some_rows ok w h ∙ q)
        (rw (eq-eqb (length (unknowns_in c p s)) 0 (unknown_count ∙ l))))

    pub ran_large : (c.n ≡ 0 → ⊥) → limit < c.rows → Ran c p s u whole (told false 0)
    ran_large l m =
        let e = row_count in
        ends false
        (run_none (rows_of sc) (weights_in c p s) tol most limit (unknowns_in c p s) (rows_in c p u) rows.holds (some_rows ok w h ∙ q)
        (or-false (eqb (length (unknowns_in c p s)) 0) (ltb limit (length (rows_in c p u))) (ne_eqb (length (unknowns_in c p s)) 0 (λ z. l (sym unknown_count ∙ z)))
        ∙ lt-ltb limit (length (rows_in c p u)) (omega arith)))

    -- the rounds from the unknowns at entry, their rows and the sum of their squares
    from_here : (cost : Float) → cost ≡ norm2 (rows_in c p u) → (c.n ≡ 0 → ⊥) → c.rows ≤ limit
        → whole ≡ rounds (rows_of sc) (weights_in c p u) tol most 0 (state_in c p u cost (of_bits binary64 0x3DDB_7CDF_D9D7_BDBB))
    from_here cost v l m =
        let e = row_count in
        run_rounds (rows_of sc) (weights_in c p s) tol most limit (unknowns_in c p s) (rows_in c p u) rows.holds (some_rows ok w h ∙ q)
        (or-false (eqb (length (unknowns_in c p s)) 0) (ltb limit (length (rows_in c p u))) (ne_eqb (length (unknowns_in c p s)) 0 (λ z. l (sym unknown_count ∙ z)))
        ∙ le-ltb limit (length (rows_in c p u)) (omega arith))
        ∙ (λ j. rounds (rows_of sc) (sym run_keeps.weights j) tol most 0
        (record { x = sym run_unknowns j; r = rows_in c p u; cost = sym v j; mu = of_bits binary64 0x3DDB_7CDF_D9D7_BDBB }))

    pub ran_rounds : (t : List Float) (cost : Float) (done : RunEndStruct) → cost ≡ norm2 (rows_in c p u) → (c.n ≡ 0 → ⊥) → c.rows ≤ limit
        → Ran c p u t (rounds (rows_of sc) (weights_in c p u) tol most 0 (state_in c p u cost (of_bits binary64 0x3DDB_7CDF_D9D7_BDBB))) done
        → Ran c p s t whole done
    ran_rounds t cost done v l m g =
        let e = from_here cost v l m in
        record {
          told = g.told ∙ sym (ap (λ (o : Outcome). o.converged) e);
          made = g.made ∙ sym (ap (λ (o : Outcome). o.rounds) e);
          unknowns = g.unknowns ∙ sym (ap (λ (o : Outcome). o.x) e);
          keeps = keeps_trans c p s u t run_keeps g.keeps;
        }

-- ---- the end of a run where nothing moves, by plain lists

pub still_run : (f : List Float → List Float) (winv : List Float) (tol : Float) (most limit : ℕ) (x : List Float) → (length (f x) ≡ 0 → ⊥) → le (max_abs (f x)) tol ≡ false → length x ≡ 0
    → run f winv tol most limit x ≡ record { x = x; converged = false; rounds = 0 }
still_run f winv tol most limit x h q l =
    run_none f winv tol most limit x (f x) refl (or-false (eqb (length (f x)) 0) (le (max_abs (f x)) tol) (ne_eqb (length (f x)) 0 h) ∙ q) (rw (eq-eqb (length x) 0 l))

pub same_part : (s u : List Float) (o k : ℕ) → length u ≡ length s → ((q : ℕ) → q < o + k → get_or u q nan ≡ get_or s q nan) → part u o k ≡ part s o k
same_part s u o k e h = part_below s u (o + k) o k e h (omega arith)

-- what the end of a run where nothing moves rests on
pub ruleset still_end = (still_run, part_length, same_part)

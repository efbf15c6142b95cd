-- The answers of the calls that solve by rounds, from their parts: what an accepted call says of the sheet and of what is lent, and the promises' fields from what is left in
-- the caller's memory. Assumes nothing.
use mathlib.Core.Path.{◌≡◌, refl, sym, ap, subst, ◌∙◌}
use mathlib.Core.Bool.{Bool, true}
use mathlib.Core.List.{List, ◌++◌}
use mathlib.Core.Option.{Option}
use Prim.Native.Nat.{ℕ, ◌+◌, ◌*◌, ◌≤◌, ◌<◌}
use native.Mathlib.Omega.{arith}
use borrow.Author.Tests.{ne_eqb}
use lib.ListN.{length, drop}
use lib.Ieee.{Float}
use Rattle.records.specs.Numbers.{flag_number}
use Rattle.scene.specs.Scene.{Laid, SceneMade, scene_of, poses_doubles}
use Rattle.scene.specs.Solve.{Scene, Parameters, in_range}
use Rattle.scene.specs.declared.scene.Scene.{Scene as SceneStruct}
use Rattle.rounds.specs.Parts.{need}
use Rattle.placement.specs.Answer.{frames_doubles}
use Rattle.closeness.proofs.HowCloselyLaws.{rounds_end}
use Rattle.portions.specs.Portions.{Running, run_of, begin, on, begin_made, on_made}
use Rattle.portions.specs.Laws.{Known}
use Rattle.portions.specs.Laws.Own.{begun, gone}
use Rattle.portions.proofs.PortionLaws.{makes_the_portion, portions, judges_to_the_end, finished_stays}
use Rattle.portions.proofs.FinishLaws.{finishes, closely_at}
use Rattle.portions.proofs.KnownLaws.{known_runs, run_known}
use Rattle.by_rounds.specs.State.{state_size, held_in, state_doubles}
use Rattle.by_rounds.specs.Held.{Room, Left}
use Rattle.by_rounds.specs.declared.held.Reached.{Reached as ReachedStruct}
use Rattle.by_rounds.proofs.HeldLaws.{left_as}
use Rattle.format.specs.Format.{bodies_of, relations_of}
use Rattle.refusals.specs.SceneAt.{scene_at}
use Rattle.refusals.specs.Refusals.{begin_fault, on_fault}
use Rattle.refusals.proofs.AcceptedLaws.{AcceptedByRounds, begin_accepted, on_accepted}
use Rattle.refusals.proofs.FigureLaws.{few, row_count, scene_is, unknown_count}
use Rattle.sheet.specs.Solving.{drag_of}
use Rattle.sheet.specs.Going.{state_of, begun_on, gone_on, shown_of, LeftBy, BeginAnswer, OnAnswer}
use Rattle.sheet.proofs.LimitLaws.{all_small}
use Rattle.sheet.proofs.SolvingLaws.{need_is}

-- a scene as it is made of the sheet
abbrev pub Made : List ℕ → SceneStruct → Type 0
Made s c = SceneMade s 24 (bodies_of s) (24 + 136 * bodies_of s) (relations_of s) c

-- ---- what the calls below ask for

module _ (s : List ℕ) (c : SceneStruct) (made : Made s c) (p : Parameters) (state scratch poses frames errors : List Float)
    (a : AcceptedByRounds s p (length state) (length scratch) (length poses) (length frames) (length errors)) where
  pub asked : Laid s c × ((in_range p ≡ true) × ((need c ≤ length scratch) × Room c state poses frames errors))
  asked =
      let l = few s c made a.sheet in
      let m = made.body_count in
      let k = made.rel_count in
      let n = need_is s c made in
      let u = unknown_count s c made in
      let r = row_count s c made in (
        made.laid,
        (
          a.range,
          (
            omega (arith, a.scratch_long),
            record {
              row_limit_is = l.rows;
              unknown_limit = l.unknowns;
              state_long = omega (arith, a.state_long, u, r);
              poses_long = omega (arith, a.poses_long);
              frames_long = omega (arith, a.frames_long);
              errors_long = omega (arith, a.errors_long);
            },
          ),
        ),
      )

  -- the counts fit a word
  pub counts_fit_lem : (c.n < 0x1_0000_0000) × (c.rows < 0x1_0000_0000)
  counts_fit_lem = let l = few s c made a.sheet in (omega (arith, l.unknowns), omega (arith, l.rows))

-- ---- what is left

module _ (s : List ℕ) (p : Parameters) (c : SceneStruct) (made : Made s c) (state state' scratch scratch' poses poses' frames frames' errors errors' : List Float) (done done' run run' flag flag' : ℕ) (e : ReachedStruct) where
  left_by : (a st : Running) (count : ℕ) → AcceptedByRounds s p (length state) (length scratch) (length poses) (length frames) (length errors)
      → Left (scene_of s c) p c a count state state' poses poses' frames frames' errors errors' e → a ≡ st → Known st → length scratch' ≡ length scratch → done' ≡ e.done → run' ≡ e.run
      → flag' ≡ flag_number e.converged → LeftBy s p st 0 done done' run run' state state' scratch scratch' poses poses' frames frames' errors errors' flag flag'
  left_by a st count acc l h known size de re fe =
      let w : Left (scene_at s) p c st count state state' poses poses' frames frames' errors errors' e
      = subst (λ (sc : Scene). Left sc p c st count state state' poses poses' frames frames' errors errors' e) (scene_is s c made)
      (left_as (scene_of s c) p c a st count count state state' poses poses' frames frames' errors errors' e l h refl) in
      let n = unknown_count s c made in
      let r = row_count s c made in
      let runs : run_of run' ≡ st.run = ap (λ (k : ℕ). run_of k) (re ∙ w.run_is) ∙ known in
      record {
        done_is = de ∙ w.done_is;
        run_is = re ∙ w.run_is;
        state_is = w.state_is ∙ (λ z. state_doubles st ++ drop (state_size (n z) (r z)) state);
        poses_are = w.poses_are ∙ ap (λ (m : ℕ). poses_doubles (shown_of s p st).poses ++ drop (12 * m) poses) made.body_count;
        frames_are = w.frames_are ∙ ap (λ (m : ℕ). frames_doubles (shown_of s p st).frames ++ drop (12 * m) frames) made.body_count;
        errors_are = w.errors_are ∙ ap (λ (k : ℕ). (shown_of s p st).errors ++ drop k errors) made.rel_count;
        flag_is = fe ∙ ap (λ (b : Bool). flag_number b) w.converged;
        scratch_kept = λ ne. absurd (ne refl);
        scratch_size = size;
        holds =
            λ q. (λ z. held_in (sym n z) (sym r z) done' run' state')
            ∙ (λ z. record { x = w.unknowns z; first = w.first z; r = w.rows z; mu = w.damping z; done = (de ∙ w.done_is) z; run = runs z });
        closely = λ q. closely_at (scene_at s) p st.x (all_small s acc.sheet);
      }

-- a call that is refused leaves everything, whatever it would have come to
left_none : (s : List ℕ) (p : Parameters) (st : Running) (r : ℕ) (state scratch poses frames errors : List Float) (done run flag : ℕ) → (r ≡ 0 → ⊥)
    → LeftBy s p st r done done run run state state scratch scratch poses poses frames frames errors errors flag flag
left_none s p st r state scratch poses frames errors done run flag ne =
    let t = ne_eqb r 0 ne in
    record {
      done_is = rw t;
      run_is = rw t;
      state_is = rw t;
      poses_are = rw t;
      frames_are = rw t;
      errors_are = rw t;
      flag_is = rw t;
      scratch_kept = λ q. refl;
      scratch_size = refl;
      holds = λ q. absurd (ne q);
      closely = λ q. absurd (ne q);
    }

-- ---- a call that begins

module _ (s : List ℕ) (p : Parameters) (drag portion : ℕ) (state scratch poses frames errors : List Float) (n rows done run flag : ℕ) where
  abbrev begin_number : ℕ
  begin_number = begin_fault s p drag portion (length state) (length scratch) (length poses) (length frames) (length errors)

  module _ (state' scratch' poses' frames' errors' : List Float) (n' rows' done' run' flag' : ℕ) (c : SceneStruct) (place : Option ℕ) (e : ReachedStruct) where
    pub begin_answered : (f : ℕ) → f ≡ begin_number → f ≡ 0 → Made s c → place ≡ drag_of drag → length scratch' ≡ length scratch
        → Left (scene_of s c) p c (begin (scene_of s c) p place portion) (begin_made (scene_of s c) p place portion) state state' poses poses' frames frames' errors errors' e
        → n' ≡ c.n → rows' ≡ c.rows → done' ≡ e.done → run' ≡ e.run → flag' ≡ flag_number e.converged
        → BeginAnswer s p drag portion 0 n n' rows rows' done done' run run' state state' scratch scratch' poses poses' frames frames' errors errors' flag flag'
    begin_answered f fe z made d size l ne re de rune fle =
        let a = begin_accepted s p drag portion (length state) (length scratch) (length poses) (length frames) (length errors) (sym fe ∙ z) in
        let h : begin (scene_of s c) p place portion ≡ begun_on s p drag portion = λ i. begin (scene_is s c made i) p (d i) portion in
        record {
          number = sym z ∙ fe;
          unknowns_are = ne ∙ unknown_count s c made;
          rows_are = re ∙ row_count s c made;
          left =
              left_by s p c made state state' scratch scratch' poses poses' frames frames' errors errors' done done' run run' flag flag' e _ _ _ a l h
              (known_runs (scene_at s) p (drag_of drag) portion).of_begin
              size
              de
              rune
              fle;
          portion_made = (makes_the_portion (scene_at s) p (drag_of drag) portion).of_begin;
          rounds = rounds_end (scene_at s) p (drag_of drag);
          judged = λ q. (judges_to_the_end (scene_at s) p (drag_of drag) a.range portion).of_begin;
          solves = λ q k. finishes (scene_at s) p (drag_of drag) a.range portion k;
          own = λ q. begun p (drag_of drag) portion a.range;
        }

  pub begin_refused : (r : ℕ) → r ≡ begin_number → (r ≡ 0 → ⊥)
      → BeginAnswer s p drag portion r n n rows rows done done run run state state scratch scratch poses poses frames frames errors errors flag flag
  begin_refused r e ne =
      let t = ne_eqb r 0 ne in
      record {
        number = e;
        unknowns_are = rw t;
        rows_are = rw t;
        left = left_none s p _ r state scratch poses frames errors done run flag ne;
        portion_made = (makes_the_portion (scene_at s) p (drag_of drag) portion).of_begin;
        rounds = rounds_end (scene_at s) p (drag_of drag);
        judged = λ q. absurd (ne q);
        solves = λ q. absurd (ne q);
        own = λ q. absurd (ne q);
      }

-- ---- a call that goes on

module _ (s : List ℕ) (p : Parameters) (drag portion n rows : ℕ) (state scratch poses frames errors : List Float) (done run flag : ℕ) where
  abbrev on_number : ℕ
  on_number = on_fault s p drag portion n rows (length state) (length scratch) (length poses) (length frames) (length errors)

  module _ (state' scratch' poses' frames' errors' : List Float) (done' run' flag' : ℕ) (c : SceneStruct) (place : Option ℕ) (e : ReachedStruct) where
    pub on_answered : (f : ℕ) → f ≡ on_number → f ≡ 0 → Made s c → place ≡ drag_of drag → length scratch' ≡ length scratch
        → Left (scene_of s c) p c (on (scene_of s c) p place portion (held_in c.n c.rows done run state)) (on_made (scene_of s c) p place portion (held_in c.n c.rows done run state))
        state state' poses poses' frames frames' errors errors' e
        → done' ≡ e.done → run' ≡ e.run → flag' ≡ flag_number e.converged
        → OnAnswer s p drag portion 0 n rows done done' run run' state state' scratch scratch' poses poses' frames frames' errors errors' flag flag'
    on_answered f fe z made d size l de rune fle =
        let a = (on_accepted s p drag portion n rows (length state) (length scratch) (length poses) (length frames) (length errors) (sym fe ∙ z)).accepted in
        let h : on (scene_of s c) p place portion (held_in c.n c.rows done run state) ≡ gone_on s p drag portion (state_of s done run state)
        = λ i. on (scene_is s c made i) p (d i) portion (held_in (unknown_count s c made i) (row_count s c made i) done run state) in
        record {
          number = sym z ∙ fe;
          left =
              left_by s p c made state state' scratch scratch' poses poses' frames frames' errors errors' done done' run run' flag flag' e _ _ _ a l h
              ((known_runs (scene_at s) p (drag_of drag) portion).of_on (state_of s done run state) (run_known run))
              size
              de
              rune
              fle;
          portion_made = (makes_the_portion (scene_at s) p (drag_of drag) portion).of_on (state_of s done run state);
          rounds = rounds_end (scene_at s) p (drag_of drag);
          judged = λ q. (judges_to_the_end (scene_at s) p (drag_of drag) a.range portion).of_on (state_of s done run state);
          stays = finished_stays (scene_at s) p (drag_of drag) portion (state_of s done run state);
          own_state = λ q j o. gone p (drag_of drag) portion a.range o;
          follows = λ q k i. ap (on (scene_at s) p (drag_of drag) portion) i ∙ portions (scene_at s) p (drag_of drag) a.range k portion;
          solves = λ q k i m. finishes (scene_at s) p (drag_of drag) a.range (k + portion) m;
        }

  pub on_refused : (r : ℕ) → r ≡ on_number → (r ≡ 0 → ⊥) → OnAnswer s p drag portion r n rows done done run run state state scratch scratch poses poses frames frames errors errors flag flag
  on_refused r e ne =
      record {
        number = e;
        left = left_none s p _ r state scratch poses frames errors done run flag ne;
        portion_made = (makes_the_portion (scene_at s) p (drag_of drag) portion).of_on (state_of s done run state);
        rounds = rounds_end (scene_at s) p (drag_of drag);
        judged = λ q. absurd (ne q);
        stays = finished_stays (scene_at s) p (drag_of drag) portion (state_of s done run state);
        own_state = λ q. absurd (ne q);
        follows = λ q. absurd (ne q);
        solves = λ q. absurd (ne q);
      }

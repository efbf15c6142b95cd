-- Rounds one after another in the scratch: one round more is the definition's, those that are left come to what all come to, those made and those left are as many as the
-- definition makes, and a call that begins or goes on comes to what the definition does from its first state. Assumes nothing.
use mathlib.Core.Path.{◌≡◌, refl, sym, ap, subst, ◌∙◌}
use mathlib.Core.Bool.{Bool, true, false, not, ◌||◌}
use mathlib.Core.List.{List, map}
use mathlib.Core.Option.{Option}
use Prim.Native.Nat.{ℕ, suc, ◌+◌, ◌-◌, ◌≤◌, ◌<◌}
use native.Mathlib.Omega.{arith}
use native.Mathlib.Numerals.{add-one}
use borrow.Author.Tests.{leb-false, ltb-false}
use lib.ListN.{length}
use lib.Dec.{leb}
use lib.Ieee.{Float, binary64, of_bits}
use Rattle.least_squares.specs.Lm.{list_of, norm2, inverse_weight, Tried, one_round}
use Rattle.least_squares.proofs.MemoryLaws.{kept_part_below, kept_part_above}
use Rattle.scene.specs.Scene.{Laid, Put, scene_of}
use Rattle.scene.specs.Solve.{Scene, Parameters, in_range, unknowns, rows_of, weights, start_at}
use Rattle.scene.specs.declared.scene.Scene.{Scene as SceneStruct}
use Rattle.rounds.specs.Parts.{Arranged}
use Rattle.rounds.specs.Rounds.{weights_in, unknowns_in, first_in, rows_in, state_in, tried_in, RoundMade}
use Rattle.rounds.specs.declared.parts.SolveParts.{SolveParts as PartsStruct}
use Rattle.rounds.specs.declared.trial.Tried.{Tried as TriedStruct}
use Rattle.portions.specs.Portions.{Running, is_running, row_count, fresh, within, judged, judge, one_more, go, rounds_made, start, inverse_weights, begin, on}
use Rattle.portions.specs.Laws.{Settled}
use Rattle.portions.proofs.PortionLaws.{counts, or_left, or_right, more_settled, go_stays, go_more, go_none, none_made, made_stays, made_more}
use Rattle.by_rounds.specs.Running.{running_in, worked, Went, WentBy, StandsBy}
use Rattle.by_rounds.specs.declared.ends.Going.{Going as GoingStruct}
use Rattle.by_rounds.specs.declared.portion.Portion.{Portion as PortionStruct}
use Rattle.by_rounds.proofs.EndLaws.{at_begin, row_count_is}

-- ---- one round more

module _ (sc : Scene) (c : SceneStruct) (p : PartsStruct) (q : Parameters) (s u v : List Float) (g h : GoingStruct) (cost : Float) (r : TriedStruct) (stop : Bool) where
  -- the running state after a round, and what is judged of it
  abbrev after : Tried → Running
  after t =
      judged sc q (not t.better || leb q.rounds (suc g.done))
      (record { x = t.state.x; first = first_in c p s; r = t.state.r; mu = t.state.mu; done = suc g.done; run = g.run })

  more_after : one_more sc q (weights_in c p s) (running_in c p s g) ≡ after (one_round (rows_of sc) (weights_in c p s) (state_in c p s (norm2 (rows_in c p s)) g.mu))
  unfolding one_more
  more_after = refl

  pub one_more_is : cost ≡ norm2 (rows_in c p s) → RoundMade sc c p s u cost g.mu r → stop ≡ (not r.better || leb q.rounds (g.done + 1))
      → Went c p u v h (judged sc q stop (running_in c p u (record { mu = r.mu; done = g.done + 1; run = g.run })))
      → Went c p s v h (one_more sc q (weights_in c p s) (running_in c p s g))
  one_more_is e m f w =
      let d : g.done + 1 ≡ suc g.done = add-one g.done in
      let k : stop ≡ (not r.better || leb q.rounds (suc g.done)) = f ∙ ap (λ (n : ℕ). not r.better || leb q.rounds n) d in
      let a : judged sc q stop (running_in c p u (record { mu = r.mu; done = g.done + 1; run = g.run })) ≡ after (tried_in c p u r)
      = λ z. judged sc q (k z) (record { x = unknowns_in c p u; first = m.keeps.first z; r = rows_in c p u; mu = r.mu; done = d z; run = g.run }) in
      let b : tried_in c p u r ≡ one_round (rows_of sc) (weights_in c p s) (state_in c p s (norm2 (rows_in c p s)) g.mu)
      = m.tried ∙ ap (λ (w : Float). one_round (rows_of sc) (weights_in c p s) (state_in c p s w g.mu)) e in
      record { running = w.running ∙ a ∙ ap after b ∙ sym more_after; weights = w.weights ∙ m.keeps.weights; size = w.size ∙ m.keeps.size }

-- ---- rounds one after another

-- i rounds are passed, and `made` were made: those left come to what all come to, and with those made they are as many
pub record Gone (sc : Scene) (c : SceneStruct) (p : PartsStruct) (q : Parameters) (s t : List Float) (g e : GoingStruct) (portion i made : ℕ) : Type 0 where
  pub weights : weights_in c p t ≡ weights_in c p s
  pub size : length t ≡ length s
  pub left : go sc q (weights_in c p s) (portion - i) (running_in c p t e) ≡ go sc q (weights_in c p s) portion (running_in c p s g)
  pub counted : made + rounds_made sc q (weights_in c p s) (portion - i) (running_in c p t e) ≡ rounds_made sc q (weights_in c p s) portion (running_in c p s g)
  pub settled : Settled sc q (running_in c p t e)

pub gone_start : (sc : Scene) (c : SceneStruct) (p : PartsStruct) (q : Parameters) (s : List Float) (g : GoingStruct) (portion : ℕ) → Settled sc q (running_in c p s g)
    → Gone sc c p q s s g g portion 0 0
gone_start sc c p q s g portion h =
    let z : portion - 0 ≡ portion = omega arith in
    let m = ap (λ (k : ℕ). rounds_made sc q (weights_in c p s) k (running_in c p s g)) z in
    record { weights = refl; size = refl; left = ap (λ (k : ℕ). go sc q (weights_in c p s) k (running_in c p s g)) z; counted = omega arith; settled = h }

-- a run that goes on has few rows and has made few rounds
pub record Few (c : SceneStruct) (e : GoingStruct) : Type 0 where
  pub rows : c.rows ≤ 800
  pub done : e.done < 1000

pub few_left : (sheet : List ℕ) (c : SceneStruct) (p : PartsStruct) (q : Parameters) (t : List Float) (e : GoingStruct) (running : Bool) → Laid sheet c → in_range q ≡ true
    → Settled (scene_of sheet c) q (running_in c p t e) → running ≡ is_running e.run → running ≡ true → Few c e
few_left sheet c p q t e running l range h f k =
    let n = counts q range in
    let a = or_right (within (scene_of sheet c) q (rows_in c p t)) _ (h (sym f ∙ k)) in
    let made = leb-false q.rounds e.done (or_left (leb q.rounds e.done) _ a) in
    let under = ltb-false 800 (row_count (scene_of sheet c)) (or_right (leb q.rounds e.done) _ a) in
    let z = row_count_is sheet c l in
    record { rows = omega (arith, under, z); done = omega (arith, made, n.most) }

module _ (sc : Scene) (c : SceneStruct) (p : PartsStruct) (q : Parameters) (s t : List Float) (g e : GoingStruct) (portion i made : ℕ) (running : Bool) (a : Gone sc c p q s t g e portion i made) (f : running ≡ is_running e.run) where
  pub gone_on_lem : (u : List Float) (next : GoingStruct) → in_range q ≡ true → i < portion → running ≡ true → Went c p t u next (one_more sc q (weights_in c p t) (running_in c p t e))
      → Gone sc c p q s u g next portion (i + 1) (made + 1)
  gone_on_lem u next range h k w =
      let z : portion - i ≡ suc (portion - (i + 1)) = omega arith in
      let m : running_in c p u next ≡ one_more sc q (weights_in c p s) (running_in c p t e) = w.running ∙ ap (λ (l : List Float). one_more sc q l (running_in c p t e)) a.weights in
      let rest = ap (rounds_made sc q (weights_in c p s) (portion - (i + 1))) m in
      let one = made_more sc q (weights_in c p s) (portion - (i + 1)) (running_in c p t e) (sym f ∙ k) in
      let all = ap (λ (j : ℕ). rounds_made sc q (weights_in c p s) j (running_in c p t e)) z in
      let before = a.counted in
      record {
        weights = w.weights ∙ a.weights;
        size = w.size ∙ a.size;
        left =
            ap (go sc q (weights_in c p s) (portion - (i + 1))) m
            ∙ sym (go_more sc q (weights_in c p s) (portion - (i + 1)) (running_in c p t e) (sym f ∙ k))
            ∙ ap (λ (j : ℕ). go sc q (weights_in c p s) j (running_in c p t e)) (sym z)
            ∙ a.left;
        counted = omega arith;
        settled = subst (Settled sc q) (sym m) (more_settled sc q (counts q range) (weights_in c p s) (running_in c p t e) (sym f ∙ k) a.settled);
      }

  pub gone_stop : running ≡ false
      → WentBy c p s t (record { going = e; made = made }) (go sc q (weights_in c p s) portion (running_in c p s g)) (rounds_made sc q (weights_in c p s) portion (running_in c p s g))
  gone_stop k =
      let none = made_stays sc q (weights_in c p s) (portion - i) (running_in c p t e) (sym f ∙ k) in
      let all = a.counted in
      record {
        went = record { running = sym (go_stays sc q (weights_in c p s) (portion - i) (running_in c p t e) (sym f ∙ k)) ∙ a.left; weights = a.weights; size = a.size };
        made_is = omega arith;
      }

pub gone_end : (sc : Scene) (c : SceneStruct) (p : PartsStruct) (q : Parameters) (s t : List Float) (g e : GoingStruct) (portion i made : ℕ) → i ≡ portion
    → Gone sc c p q s t g e portion i made
    → WentBy c p s t (record { going = e; made = made }) (go sc q (weights_in c p s) portion (running_in c p s g)) (rounds_made sc q (weights_in c p s) portion (running_in c p s g))
gone_end sc c p q s t g e portion i made h a =
    let z : portion - i ≡ 0 = omega arith in
    let none = ap (λ (j : ℕ). rounds_made sc q (weights_in c p s) j (running_in c p t e)) z ∙ none_made sc q (weights_in c p s) (running_in c p t e) in
    let all = a.counted in
    record {
      went =
          record {
            running = sym (go_none sc q (weights_in c p s) (running_in c p t e)) ∙ ap (λ (j : ℕ). go sc q (weights_in c p s) j (running_in c p t e)) (sym z) ∙ a.left;
            weights = a.weights;
            size = a.size;
          };
      made_is = omega arith;
    }

-- ---- a call

-- the running state is st, and the inverse weights are winv
pub record Ready (c : SceneStruct) (p : PartsStruct) (s t : List Float) (g : GoingStruct) (st : Running) (winv : List Float) : Type 0 where
  pub running : running_in c p t g ≡ st
  pub weights : weights_in c p t ≡ winv
  pub size : length t ≡ length s

pub ready_then : (c : SceneStruct) (p : PartsStruct) (s t u : List Float) (g h : GoingStruct) (a : Running) (winv : List Float) (f : Running → Running) → Ready c p s t g a winv
    → Went c p t u h (f (running_in c p t g)) → Ready c p s u h (f a) winv
ready_then c p s t u g h a winv f x w = record { running = w.running ∙ ap f x.running; weights = w.weights ∙ x.weights; size = w.size ∙ x.size }

pub ready_gone : (sc : Scene) (c : SceneStruct) (p : PartsStruct) (q : Parameters) (s t u : List Float) (g : GoingStruct) (h : PortionStruct) (a b : Running) (winv : List Float) (portion : ℕ)
    → Ready c p s t g a winv
    → WentBy c p t u h (go sc q (weights_in c p t) portion (running_in c p t g)) (rounds_made sc q (weights_in c p t) portion (running_in c p t g))
    → go sc q winv portion a ≡ b → StandsBy c p s u h b (rounds_made sc q winv portion a)
ready_gone sc c p q s t u g h a b winv portion x w e =
    let y = w.went in
    record {
      stands = record { running = y.running ∙ (λ z. go sc q (x.weights z) portion (x.running z)) ∙ e; size = y.size ∙ x.size };
      made_is = w.made_is ∙ (λ z. rounds_made sc q (x.weights z) portion (x.running z));
    }

-- begun, the rows of the first unknowns worked
pub begun_is : (sc : Scene) (c : SceneStruct) (p : PartsStruct) (q : Parameters) (drag : Option ℕ) (s t u v w : List Float) (g : GoingStruct) → c.n ≡ unknowns sc → Arranged c p (length s)
    → Put s t p.weights c.n (map inverse_weight (weights sc q.drag_weight drag)) → Put t u p.x c.n (list_of start_at c.n) → Put u v p.first c.n (list_of start_at c.n)
    → Went c p v w g (worked sc (running_in c p v (at_begin 1)))
    → let zeros = list_of start_at (unknowns sc) in Ready c p s w g (fresh sc 1 zeros zeros) (inverse_weights sc q drag)
begun_is sc c p q drag s t u v w g n at a b d y =
    let zeros = list_of start_at (unknowns sc) in
    let x : unknowns_in c p v ≡ zeros = kept_part_above u v p.first (p.first + c.n) p.x c.n at.first d.kept ∙ b.holds ∙ ap (list_of start_at) n in
    let first : first_in c p v ≡ zeros = d.holds ∙ ap (list_of start_at) n in
    let e : worked sc (running_in c p v (at_begin 1)) ≡ fresh sc 1 zeros zeros
    = λ z. record { x = x z; first = first z; r = rows_of sc (x z); mu = of_bits binary64 0x3DDB_7CDF_D9D7_BDBB; done = 0; run = 1 } in
    record {
      running = y.running ∙ e;
      weights =
          y.weights
          ∙ kept_part_above u v p.first (p.first + c.n) p.weights c.n (omega arith) d.kept
          ∙ kept_part_above t u p.x (p.x + c.n) p.weights c.n (omega arith) b.kept
          ∙ a.holds;
      size = y.size ∙ d.kept.size ∙ b.kept.size ∙ a.kept.size;
    }

-- the weights worked, the running state as it stood
pub weighed_is : (sc : Scene) (c : SceneStruct) (p : PartsStruct) (q : Parameters) (drag : Option ℕ) (s t : List Float) (g : GoingStruct) → Arranged c p (length s)
    → Put s t p.weights c.n (map inverse_weight (weights sc q.drag_weight drag)) → Ready c p s t g (running_in c p s g) (inverse_weights sc q drag)
weighed_is sc c p q drag s t g at a =
    let x : unknowns_in c p t ≡ unknowns_in c p s = kept_part_below s t p.weights (p.weights + c.n) p.x c.n (omega arith) a.kept in
    let first : first_in c p t ≡ first_in c p s = kept_part_below s t p.weights (p.weights + c.n) p.first c.n (omega arith) a.kept in
    let r : rows_in c p t ≡ rows_in c p s = kept_part_above s t p.weights (p.weights + c.n) p.rows c.rows (omega arith) a.kept in
    record { running = λ z. record { x = x z; first = first z; r = r z; mu = g.mu; done = g.done; run = g.run }; weights = a.holds; size = a.kept.size }

module _ (sc : Scene) (q : Parameters) (drag : Option ℕ) (portion : ℕ) where
  pub begin_is : go sc q (inverse_weights sc q drag) portion (start sc q) ≡ begin sc q drag portion
  unfolding begin
  begin_is = refl

  pub on_is : (st : Running) → go sc q (inverse_weights sc q drag) portion (judge sc q st) ≡ on sc q drag portion st
  unfolding on
  on_is st = refl

-- what is judged goes on settled
pub ready_settled : (sc : Scene) (c : SceneStruct) (p : PartsStruct) (q : Parameters) (s t : List Float) (g : GoingStruct) (st : Running) (winv : List Float) → Ready c p s t g st winv → Settled sc q st → Settled sc q (running_in c p t g)
ready_settled sc c p q s t g st winv a h = subst (Settled sc q) (sym a.running) h

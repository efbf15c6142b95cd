-- A running state taken from the caller's memory and put there again: what stands where, part by part and as one list; the flag by the errors filled in. Assumes nothing.
use mathlib.Core.Path.{◌≡◌, refl, ap, subst, ◌∙◌}
use mathlib.Core.Bool.{Bool, ◌&&◌}
use mathlib.Core.List.{List, [], ◌∷◌, ◌++◌, map, append_assoc}
use Prim.Native.Nat.{ℕ, suc, ◌+◌, ◌*◌, ◌≤◌}
use native.Mathlib.Omega.{arith}
use lib.ListN.{length, get_or, set, take, drop}
use lib.Seq.{take_at, get_or-set_same}
use lib.Ieee.{Float, nan, le}
use Rattle.std.specs.List.{list_all}
use Rattle.numbers.specs.MaxAbs.{max_abs}
use Rattle.relations.specs.Model.{Rel}
use Rattle.least_squares.specs.Memory.{part}
use Rattle.least_squares.proofs.MemoryLaws.{kept_part_below, kept_part_above, kept_at_below}
use Rattle.least_squares.proofs.TableLaws.{length_list_of}
use Rattle.records.specs.Record.{rel_at}
use Rattle.scene.specs.Scene.{Put, scene_in, scene_of}
use Rattle.scene.specs.Solve.{Scene, Parameters, poses_at, rows_at}
use Rattle.scene.specs.declared.scene.Scene.{Scene as SceneStruct}
use Rattle.scene.proofs.SceneLaws.{put_one, put_then, put_front}
use Rattle.rounds.specs.Parts.{Arranged}
use Rattle.rounds.specs.Rounds.{unknowns_in, first_in, rows_in}
use Rattle.rounds.specs.declared.parts.SolveParts.{SolveParts as PartsStruct}
use Rattle.placement.specs.Answer.{Shown}
use Rattle.closeness.specs.HowClosely.{all_within}
use Rattle.portions.specs.Portions.{Running, run_of, answer_at}
use Rattle.by_rounds.specs.Running.{running_in, Stands}
use Rattle.by_rounds.specs.State.{state_size, held_in}
use Rattle.by_rounds.specs.Held.{HeldPut, Left}
use Rattle.by_rounds.specs.declared.ends.Going.{Going as GoingStruct}
use Rattle.by_rounds.specs.declared.portion.Portion.{Portion as PortionStruct}
use Rattle.by_rounds.specs.declared.held.Reached.{Reached as ReachedStruct}

-- ---- taken to the scratch

pub taken_is : (c : SceneStruct) (p : PartsStruct) (s t u v : List Float) (done run : ℕ) (state : List Float) (g : GoingStruct) → Arranged c p (length s)
    → Put s t p.x c.n (part state 1 c.n) → Put t u p.first c.n (part state (1 + c.n) c.n) → Put u v p.rows c.rows (part state (1 + 2 * c.n) c.rows)
    → g.mu ≡ get_or state 0 nan → g.done ≡ done → g.run ≡ run_of run → Stands c p s v g (held_in c.n c.rows done run state)
taken_is c p s t u v done run state g at a b d m e f =
    let x : unknowns_in c p v ≡ part state 1 c.n
    = kept_part_below u v p.rows (p.rows + c.rows) p.x c.n (omega arith) d.kept
    ∙ kept_part_above t u p.first (p.first + c.n) p.x c.n at.first b.kept
    ∙ a.holds in
    let first : first_in c p v ≡ part state (1 + c.n) c.n = kept_part_below u v p.rows (p.rows + c.rows) p.first c.n (omega arith) d.kept ∙ b.holds in
    record {
      running = λ z. record { x = x z; first = first z; r = d.holds z; mu = m z; done = e z; run = f z };
      size = d.kept.size ∙ b.kept.size ∙ a.kept.size;
    }

-- ---- put to the caller's memory

pub held_put : (c : SceneStruct) (p : PartsStruct) (s : List Float) (mu : Float) (state a b d : List Float) → 1 + 2 * c.n + c.rows ≤ length state
    → Put (set state 0 mu) a 1 c.n (unknowns_in c p s) → Put a b (1 + c.n) c.n (first_in c p s) → Put b d (1 + 2 * c.n) c.rows (rows_in c p s) → HeldPut c p s mu state d
held_put c p s mu state a b d room x first rows =
    let zero_put : Put state (set state 0 mu) 0 1 (mu ∷ []) = put_one state 0 mu (omega arith) in
    let one : Put state a 0 (1 + c.n) (mu ∷ unknowns_in c p s) = put_then state (set state 0 mu) a 0 1 1 c.n _ _ refl zero_put x in
    let two : Put state b 0 (1 + c.n + c.n) ((mu ∷ unknowns_in c p s) ++ first_in c p s) = put_then state a b 0 (1 + c.n) (1 + c.n) c.n _ _ (omega arith) one first in
    let all : Put state d 0 (1 + c.n + c.n + c.rows) (((mu ∷ unknowns_in c p s) ++ first_in c p s) ++ rows_in c p s)
    = put_then state b d 0 (1 + c.n + c.n) (1 + 2 * c.n) c.rows _ _ (omega arith) two rows in
    let n : 1 + c.n + c.n + c.rows ≡ state_size c.n c.rows = omega arith in
    record {
      doubles =
          put_front state d (1 + c.n + c.n + c.rows) _ all
          ∙ (λ z. (mu ∷ append_assoc (unknowns_in c p s) (first_in c p s) (rows_in c p s) z) ++ drop (n z) state);
      damping =
          kept_at_below b d (1 + 2 * c.n) (1 + 2 * c.n + c.rows) 0 nan (omega arith) rows.kept
          ∙ kept_at_below a b (1 + c.n) (1 + c.n + c.n) 0 nan (omega arith) first.kept
          ∙ kept_at_below (set state 0 mu) a 1 (1 + c.n) 0 nan (omega arith) x.kept
          ∙ get_or-set_same state 0 mu nan (omega arith);
      unknowns =
          kept_part_below b d (1 + 2 * c.n) (1 + 2 * c.n + c.rows) 1 c.n (omega arith) rows.kept
          ∙ kept_part_below a b (1 + c.n) (1 + c.n + c.n) 1 c.n (omega arith) first.kept
          ∙ x.holds;
      first = kept_part_below b d (1 + 2 * c.n) (1 + 2 * c.n + c.rows) (1 + c.n) c.n (omega arith) rows.kept ∙ first.holds;
      rows = rows.holds;
    }

-- ---- the flag

pub within_list : (tol : Float) (errors : List Float) → list_all (λ e. le e tol) errors ≡ all_within tol errors
unfolding all_within
within_list tol [] = refl
within_list tol (e ∷ errors) = ap (λ (t : Bool). le e tol && t) (within_list tol errors)

-- ---- what a call leaves

length-map : {A B : Type 0} (f : A → B) (l : List A) → length (map f l) ≡ length l
length-map f [] = refl
length-map f (a ∷ l) = ap suc (length-map f l)

length_rels : (sheet : List ℕ) (c : SceneStruct) → length (scene_of sheet c).rels ≡ c.k
unfolding scene_in
length_rels sheet c = length_list_of (λ j. rel_at sheet (c.rels + 264 * j)) c.k

module _ (sheet : List ℕ) (c : SceneStruct) (p : PartsStruct) (q : Parameters) (s : List Float) (y : PortionStruct) (state state' poses poses' frames frames' errors errors' : List Float) (ok : Bool) where
  abbrev g : GoingStruct
  g = y.going

  pub left_is : HeldPut c p s g.mu state state' → Shown (scene_of sheet c) c.m c.k (unknowns_in c p s) poses poses' frames frames' errors errors' → ok ≡ all_within q.tolerance (take c.k errors')
      → Left (scene_of sheet c) q c (running_in c p s g) y.made state state' poses poses' frames frames' errors errors'
      (record { done = g.done; run = g.run; made = y.made; converged = ok })
  unfolding answer_at
  left_is h shown e =
      let sc = scene_of sheet c in
      let l : List Float = map (λ (rel : Rel). max_abs (rows_at (poses_at sc (unknowns_in c p s)) rel)) sc.rels in
      let n : length l ≡ c.k = length-map _ sc.rels ∙ length_rels sheet c in
      record {
        state_is = h.doubles;
        done_is = refl;
        run_is = refl;
        made_is = refl;
        poses_are = shown.poses_are;
        frames_are = shown.frames_are;
        errors_are = shown.errors_are;
        converged = e ∙ ap (all_within q.tolerance) (ap (take c.k) shown.errors_are ∙ take_at l (drop c.k errors) c.k n);
        damping = h.damping;
        unknowns = h.unknowns;
        first = h.first;
        rows = h.rows;
      }

pub left_as : (sc : Scene) (q : Parameters) (c : SceneStruct) (a b : Running) (i j : ℕ) (state state' poses poses' frames frames' errors errors' : List Float) (e : ReachedStruct)
    → Left sc q c a i state state' poses poses' frames frames' errors errors' e → a ≡ b → i ≡ j → Left sc q c b j state state' poses poses' frames frames' errors errors' e
left_as sc q c a b i j state state' poses poses' frames frames' errors errors' e l h k =
    subst (λ (n : ℕ). Left sc q c b n state state' poses poses' frames frames' errors errors' e) k
    (subst (λ (st : Running). Left sc q c st i state state' poses poses' frames frames' errors errors' e) h l)

-- by what the rounds have come to, of a call that begins and of one that goes on
module _ (sc : Scene) (q : Parameters) (c : SceneStruct) (p : PartsStruct) (state state' poses poses' frames frames' errors errors' : List Float) (e : ReachedStruct) where
  abbrev LeftAt : Running → ℕ → Type 0
  LeftAt st made = Left sc q c st made state state' poses poses' frames frames' errors errors' e

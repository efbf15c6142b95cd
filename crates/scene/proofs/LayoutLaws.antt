-- How a scene is made: which bodies are named, the layout body by body, and the rows counted relation by relation. Assumes nothing.
use mathlib.Core.Path.{◌≡◌, refl, sym, ap, subst, ◌∙◌}
use mathlib.Core.Logic.{inl, inr}
use mathlib.Core.Bool.{Bool, true, false, ◌||◌}
use mathlib.Core.List.{List, [], ◌∷◌, ◌++◌}
use mathlib.Core.Option.{Option, none, some}
use Prim.Native.Nat.{ℕ, suc, ◌+◌, ◌*◌, ◌≤◌, ◌<◌}
use native.Mathlib.Omega.{arith}
use native.Mathlib.Numerals.{add-one}
use native.Mathlib.Nat.{not-suc-le-zero, le_of_suc-le-suc, eq-or-lt_of_le}
use lib.ListN.{length, get_or, set, drop, replicate, length-replicate, get_or-replicate, length-set, length-append}
use lib.Seq.{drop-drop, get_or-drop, get_or-set_same, get_or-set_other}
use lib.Ieee.{Float}
use Rattle.std.specs.Prelude.{Option as Entry, None, Some}
use Rattle.relations.specs.Geometry.{Pose}
use Rattle.relations.specs.Model.{Body, Rel}
use Rattle.least_squares.specs.Lm.{list_of}
use Rattle.records.specs.Record.{body_at, rel_at}
use Rattle.scene.specs.Scene.{scene_in}
use Rattle.judging.specs.Count.{row_count}
use Rattle.judging.proofs.CountLaws.{residual_length, row_count_le}
use Rattle.scene.specs.Solve.{Scene, names, named, moves, layout_from, unknowns_in, unknowns, end_pose, third_body, rows_at, all_rows}
use Rattle.scene.specs.Scene.{first_unknown, scene_of, rels_in, place_body, Laid, LaidOut, SceneMade}
use Rattle.scene.specs.declared.scene.Scene.{Scene as SceneStruct}
use Rattle.scene.specs.declared.scene.Unknowns.{Unknowns as UnknownsStruct}
use Rattle.least_squares.proofs.TableLaws.{length_list_of}
use Rattle.scene.proofs.SceneLaws.{list_of_next, drop_whole, next_layout, length_layout}

-- ---- which bodies are named

module _ (sheet : List ℕ) (rels k i : ℕ) where
  named_next : (j : ℕ) → j < k → named (drop j (rels_in sheet rels k)) i ≡ (names (rel_at sheet (rels + 264 * j)) i || named (drop (suc j) (rels_in sheet rels k)) i)
  unfolding named
  named_next j h = ap (λ (l : List Rel). named l i) (list_of_next (λ j. rel_at sheet (rels + 264 * j)) k j h)

  pub named_hit : (j : ℕ) → j < k → names (rel_at sheet (rels + 264 * j)) i ≡ true → named (rels_in sheet rels k) i ≡ named (drop j (rels_in sheet rels k)) i
      → named (rels_in sheet rels k) i ≡ true
  named_hit j h e g = g ∙ named_next j h ∙ ap (λ (t : Bool). t || named (drop (suc j) (rels_in sheet rels k)) i) e

  pub named_miss : (j : ℕ) → j < k → names (rel_at sheet (rels + 264 * j)) i ≡ false → named (rels_in sheet rels k) i ≡ named (drop j (rels_in sheet rels k)) i
      → named (rels_in sheet rels k) i ≡ named (drop (j + 1) (rels_in sheet rels k)) i
  named_miss j h e g =
      g ∙ named_next j h ∙ ap (λ (t : Bool). t || named (drop (suc j) (rels_in sheet rels k)) i) e ∙ ap (λ (w : ℕ). named (drop w (rels_in sheet rels k)) i) (sym (add-one j))

  pub named_done : (j : ℕ) → j ≡ k → named (rels_in sheet rels k) i ≡ named (drop j (rels_in sheet rels k)) i → named (rels_in sheet rels k) i ≡ false
  unfolding named
  named_done j e g = g ∙ ap (λ (l : List Rel). named l i) (drop_whole (rels_in sheet rels k) j (length_list_of (λ j. rel_at sheet (rels + 264 * j)) k ∙ sym e))

-- ---- the layout

-- the first i bodies are placed
pub record Laying (rels : List Rel) (bodies : List Body) (l : UnknownsStruct) (i : ℕ) : Type 0 where
  pub small : l.n ≤ 6 * i
  pub size : length l.index ≡ 64
  pub rest : drop i (layout_from rels 0 0 bodies) ≡ layout_from rels i l.n (drop i bodies)
  pub count : unknowns_in (layout_from rels 0 0 bodies) ≡ l.n + unknowns_in (drop i (layout_from rels 0 0 bodies))
  pub placed : (q : ℕ) → q < i → get_or (layout_from rels 0 0 bodies) q none ≡ first_unknown (get_or l.index q None)
  pub free : (q : ℕ) → i ≤ q → q < 64 → get_or l.index q None ≡ None

pub laying_start : (rels : List Rel) (bodies : List Body) → Laying rels bodies (record { n = 0; index = replicate 64 None }) 0
laying_start rels bodies =
    record {
      small = omega arith;
      size = length-replicate {A = Entry ℕ} 64 None;
      rest = refl;
      count = omega arith;
      placed = λ q h. absurd (not-suc-le-zero h);
      free = λ q h l. get_or-replicate {A = Entry ℕ} 64 q None None l;
    }

module _ (rels : List Rel) (bodies : List Body) (l : UnknownsStruct) (i : ℕ) (b : Body) (i-in : i < 64) (here : drop i bodies ≡ b ∷ drop (suc i) bodies) (g : Laying rels bodies l i) where
  all : List (Option ℕ)
  all = layout_from rels 0 0 bodies

  from_here : (t : Bool) → moves rels i b ≡ t → drop i (layout_from rels 0 0 bodies) ≡ next_layout rels i l.n (drop (suc i) bodies) t
  unfolding layout_from
  from_here t e = g.rest ∙ ap (layout_from rels i l.n) here ∙ ap (next_layout rels i l.n (drop (suc i) bodies)) e

  head_is : (k : Option ℕ) (ks : List (Option ℕ)) → drop i (layout_from rels 0 0 bodies) ≡ k ∷ ks → get_or (layout_from rels 0 0 bodies) i none ≡ k
  head_is k ks e =
      let z : i ≡ i + 0 = omega arith in
      ap (λ (w : ℕ). get_or (layout_from rels 0 0 bodies) w none) z ∙ sym (get_or-drop i (layout_from rels 0 0 bodies) 0 none) ∙ ap (λ (w : List (Option ℕ)). get_or w 0 none) e

  tail_is : (k : Option ℕ) (ks : List (Option ℕ)) → drop i (layout_from rels 0 0 bodies) ≡ k ∷ ks → drop (i + 1) (layout_from rels 0 0 bodies) ≡ ks
  tail_is k ks e = sym (drop-drop 1 i (layout_from rels 0 0 bodies)) ∙ ap (drop 1) e

  one_more : {A : ℕ → Type 0} → ((q : ℕ) → q < i → A q) → A i → (q : ℕ) → q < i + 1 → A q
  one_more {A} f a q h =
      elim (eq-or-lt_of_le (le_of_suc-le-suc (rw add-one at h))) [
        | inl e ↦ subst A (sym e) a
        | inr k ↦ f q k
      ]

  laying_moved : moves rels i b ≡ true → Laying rels bodies (record { n = l.n + 6; index = set l.index i (Some l.n) }) (i + 1)
  unfolding unknowns_in
  laying_moved e =
      let d = from_here true e in
      let t = tail_is _ _ d in
      let u = ap unknowns_in d in
      let v = ap unknowns_in t in
      let c = g.count in
      let z = g.size in
      let m = g.small in
      record {
        small = omega arith;
        size = length-set l.index i (Some l.n) ∙ g.size;
        rest = subst (λ (w : ℕ). drop (i + 1) (layout_from rels 0 0 bodies) ≡ layout_from rels w (l.n + 6) (drop w bodies)) (sym (add-one i)) t;
        count = omega arith;
        placed =
            one_more {A = λ q. get_or (layout_from rels 0 0 bodies) q none ≡ first_unknown (get_or (set l.index i (Some l.n)) q None)}
            (λ q k. g.placed q k ∙ ap first_unknown (sym (get_or-set_other l.index i q (Some l.n) None (λ x. absurd (omega arith)))))
            (head_is _ _ d ∙ ap first_unknown (sym (get_or-set_same l.index i (Some l.n) None (omega arith))));
        free = λ q k w. get_or-set_other l.index i q (Some l.n) None (λ x. absurd (omega arith)) ∙ g.free q (omega arith) w;
      }

  laying_stays : moves rels i b ≡ false → Laying rels bodies l (i + 1)
  unfolding unknowns_in
  laying_stays e =
      let d = from_here false e in
      let t = tail_is _ _ d in
      let u = ap unknowns_in d in
      let v = ap unknowns_in t in
      let c = g.count in
      let m = g.small in
      record {
        small = omega arith;
        size = g.size;
        rest = subst (λ (w : ℕ). drop (i + 1) (layout_from rels 0 0 bodies) ≡ layout_from rels w l.n (drop w bodies)) (sym (add-one i)) t;
        count = omega arith;
        placed =
            one_more {A = λ q. get_or (layout_from rels 0 0 bodies) q none ≡ first_unknown (get_or l.index q None)} g.placed
            (head_is _ _ d ∙ ap first_unknown (sym (g.free i (omega arith) i-in)));
        free = λ q k w. g.free q (omega arith) w;
      }

  pub laying_step : (t : Bool) → moves rels i b ≡ t → Laying rels bodies (place_body l i t) (i + 1)
  laying_step true e = laying_moved e
  laying_step false e = laying_stays e

pub laying_end : (sheet : List ℕ) (bodies m rels k : ℕ) (l : UnknownsStruct) (i : ℕ) → i ≡ m → Laying (rels_in sheet rels k) (list_of (λ i. body_at sheet (bodies + 136 * i)) m) l i
    → LaidOut sheet bodies m rels k l
unfolding scene_in unknowns_in
laying_end sheet bodies m rels k l i e g =
    let n = length_layout (rels_in sheet rels k) 0 0 (list_of (λ i. body_at sheet (bodies + 136 * i)) m) ∙ length_list_of (λ i. body_at sheet (bodies + 136 * i)) m in
    let d = ap unknowns_in (drop_whole (layout_from (rels_in sheet rels k) 0 0 (list_of (λ i. body_at sheet (bodies + 136 * i)) m)) i (n ∙ sym e)) in
    let c = g.count in
    record { unknown_count = omega arith; index = λ q h. g.placed q (rw e h); unused = λ q h. g.free q (rw e h) }

-- ---- the rows

pub count_step : (sheet : List ℕ) (rels k j rows n : ℕ) → j < k → n ≡ row_count (rel_at sheet (rels + 264 * j)).law (rel_at sheet (rels + 264 * j)).a.prim (rel_at sheet (rels + 264 * j)).b.prim
    → ((poses : List (Pose Float)) → length (all_rows poses (rels_in sheet rels k)) ≡ rows + length (all_rows poses (drop j (rels_in sheet rels k))))
    → (poses : List (Pose Float)) → length (all_rows poses (rels_in sheet rels k)) ≡ rows + n + length (all_rows poses (drop (j + 1) (rels_in sheet rels k)))
unfolding all_rows
count_step sheet rels k j rows n h e g poses =
    let a = g poses in
    let b : length (all_rows poses (drop j (rels_in sheet rels k))) ≡ length (rows_at poses (rel_at sheet (rels + 264 * j)) ++ all_rows poses (drop (suc j) (rels_in sheet rels k)))
    = ap (λ (l : List Rel). length (all_rows poses l)) (list_of_next (λ j. rel_at sheet (rels + 264 * j)) k j h) in
    let c = length-append (rows_at poses (rel_at sheet (rels + 264 * j))) (all_rows poses (drop (suc j) (rels_in sheet rels k))) in
    let d : length (rows_at poses (rel_at sheet (rels + 264 * j))) ≡ n = residual_length _ _ _ _ _ _ ∙ sym e in
    let f = ap (λ (w : ℕ). length (all_rows poses (drop w (rels_in sheet rels k)))) (add-one j) in
    omega arith

pub count_end : (sheet : List ℕ) (rels k j rows : ℕ) → j ≡ k
    → ((poses : List (Pose Float)) → length (all_rows poses (rels_in sheet rels k)) ≡ rows + length (all_rows poses (drop j (rels_in sheet rels k))))
    → (poses : List (Pose Float)) → length (all_rows poses (rels_in sheet rels k)) ≡ rows
unfolding all_rows
count_end sheet rels k j rows e g poses =
    let a = g poses in
    let b = ap (λ (l : List Rel). length (all_rows poses l)) (drop_whole (rels_in sheet rels k) j (length_list_of (λ j. rel_at sheet (rels + 264 * j)) k ∙ sym e)) in
    omega arith

-- six unknowns to a body at the most
layout_more : (t : Bool) (next k : ℕ) (a b : List (Option ℕ)) → unknowns_in a ≤ 6 * k → unknowns_in b ≤ 6 * k → unknowns_in (elim t [ true ↦ some next ∷ a | false ↦ none ∷ b ]) ≤ 6 * suc k
unfolding unknowns_in
layout_more true next k a b h l = omega arith
layout_more false next k a b h l = omega arith

layout_le : (rels : List Rel) (i next : ℕ) (bodies : List Body) → unknowns_in (layout_from rels i next bodies) ≤ 6 * length bodies
unfolding layout_from unknowns_in
layout_le rels i next [] = omega arith
layout_le rels i next (b ∷ bodies) =
    layout_more (moves rels i b) next (length bodies) _ _ (layout_le rels (suc i) (next + 6) bodies) (layout_le rels (suc i) next bodies)

pub unknowns_le : (sc : Scene) → unknowns sc ≤ 6 * length sc.bodies
unknowns_le sc = layout_le sc.rels 0 0 sc.bodies

-- seven rows to a relation at the most
rel_rows_le : (poses : List (Pose Float)) (rel : Rel) → length (rows_at poses rel) ≤ 7
rel_rows_le poses rel =
    rw (residual_length rel.law rel.a rel.b (end_pose poses rel.a.body) (end_pose poses rel.b.body) (end_pose poses (third_body rel.law))) (row_count_le rel.law rel.a.prim rel.b.prim)

rows_more : (a b : List Float) (k : ℕ) → length a ≤ 7 → length b ≤ 7 * k → length (a ++ b) ≤ 7 * suc k
rows_more a b k h l = simp length-append (omega arith)

pub rows_le : (poses : List (Pose Float)) (rels : List Rel) → length (all_rows poses rels) ≤ 7 * length rels
unfolding all_rows
rows_le poses [] = omega arith
rows_le poses (rel ∷ rels) = rows_more (rows_at poses rel) _ (length rels) (rel_rows_le poses rel) (rows_le poses rels)

-- a scene's counts are small
pub scene_small : (sheet : List ℕ) (c : SceneStruct) → Laid sheet c → (c.rows ≤ 896) × (c.n ≤ 384)
unfolding scene_in
scene_small sheet c laid =
    let sc = scene_of sheet c in
    let r = rows_le [] sc.rels in
    let e = laid.row_count [] in
    let u = unknowns_le sc in
    let b = length_list_of (λ i. body_at sheet (c.bodies + 136 * i)) c.m in
    let d = length_list_of (λ j. rel_at sheet (c.rels + 264 * j)) c.k in
    let n = laid.unknown_count in
    (omega arith, omega arith)

pub scene_made : (sheet : List ℕ) (bodies m rels k : ℕ) (l : UnknownsStruct) (rows : ℕ) → m ≤ 64 → k ≤ 128 → bodies + 136 * m ≤ length sheet → rels + 264 * k ≤ length sheet
    → LaidOut sheet bodies m rels k l → ((poses : List (Pose Float)) → length (all_rows poses (rels_in sheet rels k)) ≡ rows)
    → SceneMade sheet bodies m rels k (record { m = m; k = k; n = l.n; rows = rows; bodies = bodies; rels = rels; index = l.index })
unfolding scene_in
scene_made sheet bodies m rels k l rows a b c d e f =
    record {
      laid = record { body_count = a; rel_count = b; bodies_fit = c; rels_fit = d; unknown_count = e.unknown_count; row_count = f; index = e.index };
      scene = refl;
      bodies_at = refl;
      body_count = refl;
      rels_at = refl;
      rel_count = refl;
      unused = e.unused;
    }

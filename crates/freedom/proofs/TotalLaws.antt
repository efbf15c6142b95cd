-- The whole assembly, step by step: the scaled unknowns, the square of the slopes row by row, the rank by the values, the free bodies that no relation names. Assumes nothing.
use mathlib.Core.Path.{◌≡◌, refl, sym, ap, subst, ◌∙◌}
use mathlib.Core.Bool.{Bool, true, false, not, ◌&&◌, ◌||◌, cond}
use mathlib.Core.Logic.{inl, inr}
use mathlib.Core.List.{List, [], ◌∷◌, map}
use mathlib.Core.Option.{Option, none, some}
use Prim.Native.Nat.{ℕ, zero, suc, ◌+◌, ◌-◌, ◌*◌, ◌≤◌, ◌<◌, min}
use native.Mathlib.Omega.{arith}
use native.Mathlib.Numerals.{add-one}
use native.Mathlib.Nat.{not-suc-le-zero, le_of_suc-le-suc, eq-or-lt_of_le, zero-add, add-zero}
use lib.Dec.{eqb}
use lib.ListN.{length, get_or, set, take, drop, length-drop}
use lib.Seq.{take-length, drop-cons}
use lib.Ieee.{Float, nan, binary64, div, lt, le}
use Rattle.numbers.specs.Double.{zero64, fmax}
use Rattle.arcs.specs.Root.{root}
use Rattle.eigen.specs.Eigen.{Eigen, sym_eigen}
use Rattle.least_squares.specs.Lm.{jacobian}
use Rattle.least_squares.specs.Memory.{part, Kept}
use Rattle.relations.specs.Model.{Body, Rel}
use Rattle.records.specs.Record.{body_at}
use Rattle.scene.specs.Scene.{scene_in}
use Rattle.std.specs.Prelude.{Option as Entry, None, Some}
use Rattle.scene.specs.Scene.{first_unknown, scene_of, Laid, Put}
use Rattle.scene.specs.Solve.{moves, layout_from, layout, unknowns, half_size}
use Rattle.body_freedom.specs.Dof.{columns_times, square_of, largest_value, scale_three, scaled_from, scaled_rows, stiff_count, rank_rel, unnamed_from, total_freedom, zeros, top}
use Rattle.scene.specs.declared.scene.Scene.{Scene as SceneStruct}
use Rattle.least_squares.proofs.MemoryLaws.{part_length, part_at, part_set, kept_refl, kept_set, kept_trans, kept_wider, kept_at_below, kept_part_below, put_tail, tail_part}
use Rattle.least_squares.proofs.TableLaws.{table_ext, get_d_list_of}
use Rattle.scene.proofs.SceneLaws.{next_layout, length_bodies, bodies_next, layout_next, drop_whole}
use Rattle.least_squares.proofs.LmLaws.{row_step, row_fits, entry_at}
use Rattle.least_squares.specs.Filled.{FiniteAt}
use Rattle.body_freedom.proofs.SquareLaws.{times_part, slopes_finite}
use borrow.Rule.Slice.PartMut.{put_mid}
use Rattle.freedom.specs.Values.{Values}
use Rattle.freedom.specs.Freed.{need}
use Rattle.freedom.specs.Total.{total_parts, TotalApart, scaled_by, SlopesBy, SquareRow, largest_of, stiff_one, stiff_of, rank_of, unnamed_one}
use Rattle.slopes.specs.declared.anew_slopes.SlopeParts.{SlopeParts as PartsStruct}

-- ---- where the parts stand

-- each part from where the last ended: no part reaches into the next
pub total_apart : (c : SceneStruct) (p : PartsStruct) (size : ℕ) → p ≡ total_parts c → need c ≤ size → TotalApart c p size
total_apart c p size e h = rw e (record { x = omega arith; slopes = omega arith; poses = omega arith })

-- the same in a scratch of the same size
pub still_apart : (c : SceneStruct) (p : PartsStruct) (size size' : ℕ) → size' ≡ size → TotalApart c p size → TotalApart c p size'
still_apart c p size size' e h = record { x = h.x; slopes = h.slopes; poses = omega arith }

-- what is lent from a on is the rest
pub rest_lent : (a : ℕ) (s : List Float) → take (length s - a) (drop a s) ≡ drop a s
rest_lent a s = rw (← length-drop a s, take-length)

-- ---- the scaled unknowns

set_three : (s : List Float) (z n i : ℕ) (a b c : Float) → i + 3 ≤ n
    → part (set (set (set s (z + i) a) (z + i + 1) b) (z + i + 2) c) z n ≡ set (set (set (part s z n) i a) (i + 1) b) (i + 2) c
set_three s z n i a b c h =
    let e : z + i + 1 ≡ z + (i + 1) = omega arith in
    let f : z + i + 2 ≡ z + (i + 2) = omega arith in
    ap (λ (w : ℕ). part (set (set (set s (z + i) a) (z + i + 1) b) w c) z n) f
    ∙ part_set (set (set s (z + i) a) (z + i + 1) b) z n (i + 2) c (omega arith)
    ∙ ap (λ (l : List Float). set l (i + 2) c)
    (ap (λ (w : ℕ). part (set (set s (z + i) a) w b) z n) e ∙ part_set (set s (z + i) a) z n (i + 1) b (omega arith)
    ∙ ap (λ (l : List Float). set l (i + 1) b) (part_set s z n i a (omega arith)))

scale_part : (s : List Float) (z n i : ℕ) (l : Float) → i + 3 ≤ n → part (scale_three s (z + i) l) z n ≡ scale_three (part s z n) i l
scale_part s z n i l h =
    let e : z + i + 1 ≡ z + (i + 1) = omega arith in
    let f : z + i + 2 ≡ z + (i + 2) = omega arith in
    let p0 : get_or s (z + i) nan ≡ get_or (part s z n) i nan = sym (part_at s z n i nan (omega arith)) in
    let p1 : get_or s (z + i + 1) nan ≡ get_or (part s z n) (i + 1) nan = ap (λ (w : ℕ). get_or s w nan) e ∙ sym (part_at s z n (i + 1) nan (omega arith)) in
    let p2 : get_or s (z + i + 2) nan ≡ get_or (part s z n) (i + 2) nan = ap (λ (w : ℕ). get_or s w nan) f ∙ sym (part_at s z n (i + 2) nan (omega arith)) in
    set_three s z n i _ _ _ h
    ∙ (λ j. set (set (set (part s z n) i (div binary64 (p0 j) l)) (i + 1) (div binary64 (p1 j) l)) (i + 2) (div binary64 (p2 j) l))

scale_kept : (s : List Float) (z n o : ℕ) (l : Float) → z ≤ o → o + 3 ≤ z + n → Kept s (scale_three s o l) z (z + n)
scale_kept s z n o l h m =
    kept_set s _ z (z + n) (o + 2) _ (omega arith) (omega arith)
    (kept_set s _ z (z + n) (o + 1) _ (omega arith) (omega arith) (kept_set s s z (z + n) o _ h (omega arith) (kept_refl s z (z + n))))

-- a body that has no unknowns, and one that has
pub scale_none : (s : List Float) (z n : ℕ) (first : Entry ℕ) (l : Float) → first ≡ None → Put s s z n (scaled_by (part s z n) l (first_unknown first))
unfolding scaled_by
scale_none s z n first l e = rw e (record { holds = refl; kept = kept_refl s z (z + n) })

pub scale_some : (s t : List Float) (z n k : ℕ) (first : Entry ℕ) (l : Float) → first ≡ Some k → k + 6 ≤ n → t ≡ scale_three s (z + k + 3) l
    → Put s t z n (scaled_by (part s z n) l (first_unknown first))
unfolding scaled_by
scale_some s t z n k first l e h f =
    let w : z + k + 3 ≡ z + (k + 3) = omega arith in
    rw (f, e, w)
    (record { holds = scale_part s z n (k + 3) l (omega arith); kept = scale_kept s z n (z + (k + 3)) l (omega arith) (omega arith) })

scaled_cons : (x : List Float) (b : Body) (bodies : List Body) (k : Option ℕ) (l : List (Option ℕ)) → scaled_from x (b ∷ bodies) (k ∷ l) ≡ scaled_from (scaled_by x (half_size b.size) k) bodies l
unfolding scaled_from scaled_by
scaled_cons x b bodies none l = refl
scaled_cons x b bodies (some k) l = refl

-- the unknowns scaled from body i on
abbrev pub rest_scaled : List ℕ → SceneStruct → List Float → ℕ → List Float
rest_scaled sheet c x i = scaled_from x (drop i (scene_of sheet c).bodies) (drop i (layout (scene_of sheet c)))

scaled_next : (sheet : List ℕ) (c : SceneStruct) (x : List Float) (i : ℕ) → Laid sheet c → i < c.m
    → rest_scaled sheet c x i ≡ rest_scaled sheet c (scaled_by x (half_size (body_at sheet (c.bodies + 136 * i)).size) (first_unknown (get_or c.index i None))) (suc i)
scaled_next sheet c x i laid h =
    (λ z. scaled_from x (bodies_next sheet c i h z) (layout_next sheet c i laid h z))
    ∙ scaled_cons x (body_at sheet (c.bodies + 136 * i)) (drop (suc i) (scene_of sheet c).bodies) (first_unknown (get_or c.index i None)) (drop (suc i) (layout (scene_of sheet c)))

pub scaled_step : (sheet : List ℕ) (c : SceneStruct) (s t u : List Float) (z i : ℕ) (whole : List Float) → Laid sheet c → i < c.m → Kept s t z (z + c.n)
    → rest_scaled sheet c (part t z c.n) i ≡ whole
    → Put t u z c.n (scaled_by (part t z c.n) (half_size (body_at sheet (c.bodies + 136 * i)).size) (first_unknown (get_or c.index i None)))
    → Kept s u z (z + c.n) × (rest_scaled sheet c (part u z c.n) (i + 1) ≡ whole)
scaled_step sheet c s t u z i whole laid h k e y = (
  kept_trans s t u z (z + c.n) k y.kept,
  rw add-one (ap (λ (x : List Float). rest_scaled sheet c x (suc i)) y.holds ∙ sym (scaled_next sheet c (part t z c.n) i laid h) ∙ e),
)

pub scaled_done : (sheet : List ℕ) (c : SceneStruct) (x : List Float) (i : ℕ) → i ≡ c.m → rest_scaled sheet c x i ≡ x
unfolding scaled_from
scaled_done sheet c x i e =
    ap (λ (l : List Body). scaled_from x l (drop i (layout (scene_of sheet c)))) (drop_whole (scene_of sheet c).bodies i (length_bodies sheet c ∙ sym e))

-- ---- the square

-- the slopes are kept while their square is formed
same_products : (s t : List Float) (rows n lo hi i k : ℕ) → rows * n ≤ lo → Kept s t lo hi → columns_times (part t 0 (rows * n)) rows n i k ≡ columns_times (part s 0 (rows * n)) rows n i k
same_products s t rows n lo hi i k h r = ap (λ (w : List Float). columns_times w rows n i k) (kept_part_below s t lo hi 0 (rows * n) (omega arith) r)

-- one more entry of row i
pub square_step : (o s : List Float) (rows n at i k : ℕ) (v : Float) → i < n → k < n → rows * n ≤ at → at + n ≤ length o → Kept o s at (at + n)
    → ((j : ℕ) → j < k → get_or s (at + j) nan ≡ columns_times (part o 0 (rows * n)) rows n i j)
    → v ≡ columns_times s rows n i k
    → Kept o (set s (at + k) v) at (at + n) × ((j : ℕ) → j < k + 1 → get_or (set s (at + k) v) (at + j) nan ≡ columns_times (part o 0 (rows * n)) rows n i j)
square_step o s rows n at i k v w h l m r e q =
    let z = r.size in (
      kept_set o s at (at + n) (at + k) v (omega arith) (omega arith) r,
      row_step s at k v (columns_times (part o 0 (rows * n)) rows n i) (omega arith) (q ∙ times_part s rows n i k w h ∙ same_products o s rows n at (at + n) i k l r) e,
    )

-- the first i rows of the square are those of the slopes that o has
abbrev pub Squared : List Float → List Float → ℕ → ℕ → ℕ → Type 0
Squared o s rows n i = (p k : ℕ) → p < i → k < n → get_or s (rows * n + p * n + k) nan ≡ columns_times (part o 0 (rows * n)) rows n p k

pub squared_step : (o s t : List Float) (rows n i : ℕ) → i < n → Kept o s (rows * n) (rows * n + n * n) → Squared o s rows n i → SquareRow s t rows n i
    → Kept o t (rows * n) (rows * n + n * n) × Squared o t rows n (i + 1)
squared_step o s t rows n i h r e q =
    let f = row_fits i n n h in
    (kept_trans o s t (rows * n) (rows * n + n * n) r (kept_wider s t (rows * n + i * n) (rows * n + i * n + n) (rows * n) (rows * n + n * n) (omega arith) (omega arith) q.kept), more)
  where
    more : Squared o t rows n (i + 1)
    more p k b d =
        elim (eq-or-lt_of_le (le_of_suc-le-suc (rw add-one at b))) [
          | inl z ↦
              ap (λ (x : ℕ). get_or t (rows * n + x * n + k) nan) z ∙ q.entries k d ∙ same_products o s rows n (rows * n) (rows * n + n * n) i k (omega arith) r
              ∙ ap (λ (x : ℕ). columns_times (part o 0 (rows * n)) rows n x k) (sym z)
          | inr z ↦
              let g = row_fits p n i z in
              kept_at_below s t (rows * n + i * n) (rows * n + i * n + n) (rows * n + p * n + k) nan (omega arith) q.kept ∙ e p k z d
        ]

pub squared_all : (o s : List Float) (rows n i : ℕ) → i ≡ n → rows * n + n * n ≤ length o → Kept o s (rows * n) (rows * n + n * n) → Squared o s rows n i
    → Put o s (rows * n) (n * n) (square_of (part o 0 (rows * n)) rows n)
squared_all o s rows n i q h r e =
    let z = r.size in
    record {
      holds =
          table_ext (columns_times (part o 0 (rows * n)) rows n) n n (part s (rows * n) (n * n)) (part_length s (rows * n) (n * n) (omega arith))
          (λ p k l m. entry_at s (rows * n) n p k l m ∙ e p k (rw q l) m);
      kept = r;
    }

-- ---- the rank by the values

pub largest_step : (m : Float) (l : List Float) (i : ℕ) → i < length l → largest_of m (drop i l) ≡ largest_of (fmax m (get_or l i nan)) (drop (i + 1) l)
unfolding largest_of
largest_step m l i h = rw add-one (ap (largest_of m) (drop-cons l i nan h))

pub largest_done : (m : Float) (l : List Float) (i : ℕ) → i ≡ length l → largest_of m (drop i l) ≡ m
unfolding largest_of
largest_done m l i e = ap (largest_of m) (drop_whole l i (sym e))

pub stiff_step : (most : Float) (l : List Float) (i : ℕ) → i < length l → stiff_of most (drop i l) ≡ stiff_one most (get_or l i nan) + stiff_of most (drop (i + 1) l)
unfolding stiff_of
stiff_step most l i h = rw add-one (ap (stiff_of most) (drop-cons l i nan h))

pub stiff_done : (most : Float) (l : List Float) (i : ℕ) → i ≡ length l → stiff_of most (drop i l) ≡ 0
unfolding stiff_of
stiff_done most l i e = ap (stiff_of most) (drop_whole l i (sym e))

pub stiff_small : (most x : Float) → stiff_one most x ≤ 1
unfolding stiff_one
stiff_small most x = go (lt _ _)
  where
    go : (b : Bool) → cond b 1 0 ≤ 1
    go true = omega arith
    go false = omega arith

largest_values : (m : Float) (l : List Eigen) → largest_of m (map (λ (e : Eigen). e.value) l) ≡ largest_value m l
unfolding largest_of largest_value
largest_values m [] = refl
largest_values m (e ∷ l) = largest_values (fmax m e.value) l

stiff_values : (most : Float) (l : List Eigen) → stiff_of most (map (λ (e : Eigen). e.value) l) ≡ stiff_count most l
unfolding stiff_of stiff_one stiff_count
stiff_values most [] = refl
stiff_values most (e ∷ l) = ap (λ (k : ℕ). stiff_one most e.value + k) (stiff_values most l)

rank_values : (l : List Eigen) → rank_of (map (λ (e : Eigen). e.value) l) ≡ cond (le (top l) zero64) 0 (stiff_count (top l) l)
unfolding rank_of
rank_values l =
    let e = largest_values zero64 l in
    (λ j. cond (le (root (e j)) zero64) 0 (stiff_of (root (e j)) (map (λ (e : Eigen). e.value) l))) ∙ ap (cond (le (top l) zero64) 0) (stiff_values (top l) l)

rank_test : (jac : List Float) (rows n : ℕ) (b : Bool) → (eqb rows 0 || eqb n 0) ≡ b
    → rank_rel jac rows n ≡ elim b as (λ _. ℕ) [ true ↦ 0 | false ↦ cond (le (top (sym_eigen n (square_of jac rows n))) zero64) 0 (stiff_count (top (sym_eigen n (square_of jac rows n))) (sym_eigen n (square_of jac rows n))) ]
unfolding rank_rel
rank_test jac rows n b e =
    ap (λ (t : Bool). elim t as (λ _. ℕ) [ true ↦ 0 | false ↦ cond (le (top (sym_eigen n (square_of jac rows n))) zero64) 0 (stiff_count (top (sym_eigen n (square_of jac rows n))) (sym_eigen n (square_of jac rows n))) ]) e

pub rank_no_rows : (jac : List Float) (rows n : ℕ) → eqb rows 0 ≡ true → 0 ≡ rank_rel jac rows n
rank_no_rows jac rows n e = sym (rank_test jac rows n true (ap (λ (b : Bool). b || eqb n 0) e))

pub rank_no_columns : (jac : List Float) (rows n : ℕ) → eqb rows 0 ≡ false → eqb n 0 ≡ true → 0 ≡ rank_rel jac rows n
rank_no_columns jac rows n e f = sym (rank_test jac rows n true (λ j. e j || f j))

pub rank_some : (jac vals : List Float) (rows n r : ℕ) → eqb rows 0 ≡ false → eqb n 0 ≡ false → vals ≡ map (λ (e : Eigen). e.value) (sym_eigen n (square_of jac rows n)) → r ≡ rank_of vals
    → r ≡ rank_rel jac rows n
rank_some jac vals rows n r e f v q = q ∙ ap rank_of v ∙ rank_values (sym_eigen n (square_of jac rows n)) ∙ sym (rank_test jac rows n false (λ j. e j || f j))

-- the square's values, in the rest that was lent from the square on
pub rank_rel_is : (s s1 q : List Float) (rows n r : ℕ) → rows * n + n * n + n ≤ length s → eqb rows 0 ≡ false → eqb n 0 ≡ false
    → Put s s1 (rows * n) (n * n) (square_of (part s 0 (rows * n)) rows n)
    → Values n (take (length s1 - rows * n) (drop (rows * n) s1)) q
    → r ≡ rank_of (take (rows * n + n * n + n - (rows * n + n * n)) (drop (rows * n + n * n) (put_mid (rows * n) (length s1 - rows * n) s1 q)))
    → r ≡ rank_rel (part s 0 (rows * n)) rows n
rank_rel_is s s1 q rows n r room e f a v ranked =
    let z = a.kept.size in
    let h : rows * n ≤ length s1 = omega arith in
    let g : rows * n + n * n + n - (rows * n + n * n) ≡ n = omega arith in
    let t = put_mid (rows * n) (length s1 - rows * n) s1 q in
    let vals : part t (rows * n + n * n) n ≡ map (λ (e : Eigen). e.value) (sym_eigen n (square_of (part s 0 (rows * n)) rows n))
    = ap (λ (w : List Float). part w (rows * n + n * n) n) (put_tail (rows * n) s1 q h) ∙ tail_part (rows * n) s1 q (n * n) n h ∙ v.values
    ∙ ap (λ (w : List Float). map (λ (e : Eigen). e.value) (sym_eigen n (part w 0 (n * n)))) (rest_lent (rows * n) s1)
    ∙ ap (λ (w : List Float). map (λ (e : Eigen). e.value) (sym_eigen n w)) a.holds in
    rank_some (part s 0 (rows * n)) (part t (rows * n + n * n) n) rows n r e f vals (ranked ∙ ap (λ (k : ℕ). rank_of (take k (drop (rows * n + n * n) t))) g)

-- ---- free bodies that no relation names

is_some : Option ℕ → Bool
is_some none = false
is_some (some k) = true

-- a body has unknowns where it moves
layout_moves : (rels : List Rel) (i next : ℕ) (bodies : List Body) (j : ℕ) (d : Body) → j < length bodies → is_some (get_or (layout_from rels i next bodies) j none) ≡ moves rels (i + j) (get_or bodies j d)
unfolding layout_from is_some
layout_moves rels i next [] j d h = absurd (not-suc-le-zero h)
layout_moves rels i next (b ∷ bodies) zero d h = rw add-zero (go (moves rels i b))
  where
    go : (t : Bool) → is_some (get_or (next_layout rels i next bodies t) 0 none) ≡ t
    go true = refl
    go false = refl
layout_moves rels i next (b ∷ bodies) (suc j) d h =
    let e : i + suc j ≡ suc i + j = omega arith in
    rw e (go (moves rels i b) (λ n. layout_moves rels (suc i) n bodies j d (le_of_suc-le-suc h)))
  where
    go : (t : Bool) → ((n : ℕ) → is_some (get_or (layout_from rels (suc i) n bodies) j none) ≡ moves rels (suc i + j) (get_or bodies j d))
        → is_some (get_or (next_layout rels i next bodies t) (suc j) none) ≡ moves rels (suc i + j) (get_or bodies j d)
    go true f = f (next + 6)
    go false f = f next

unnamed_test : (fixed moving : Bool) (k : Option ℕ) → is_some k ≡ moving → cond (not fixed && not moving) 6 0 ≡ unnamed_one fixed k
unfolding unnamed_one is_some
unnamed_test true moving k e = go k
  where
    go : (k : Option ℕ) → 0 ≡ unnamed_one true k
    go none = refl
    go (some k) = refl
unnamed_test false moving none e = ap (λ (b : Bool). cond (not b) 6 0) (sym e)
unnamed_test false moving (some k) e = ap (λ (b : Bool). cond (not b) 6 0) (sym e)

-- six for each from body i on
abbrev pub rest_unnamed : List ℕ → SceneStruct → ℕ → ℕ
rest_unnamed sheet c i = unnamed_from (scene_of sheet c).rels i (drop i (scene_of sheet c).bodies)

body_is : (sheet : List ℕ) (c : SceneStruct) (i : ℕ) (d : Body) → i < c.m → get_or (scene_of sheet c).bodies i d ≡ body_at sheet (c.bodies + 136 * i)
unfolding scene_in
body_is sheet c i d h = get_d_list_of (λ i. body_at sheet (c.bodies + 136 * i)) c.m i d h

pub unnamed_step : (sheet : List ℕ) (c : SceneStruct) (i : ℕ) → Laid sheet c → i < c.m
    → rest_unnamed sheet c i ≡ unnamed_one (body_at sheet (c.bodies + 136 * i)).fixed (first_unknown (get_or c.index i None)) + rest_unnamed sheet c (i + 1)
unfolding unnamed_from
unnamed_step sheet c i laid h =
    let b = body_at sheet (c.bodies + 136 * i) in
    let rels = (scene_of sheet c).rels in
    let l : i < length (scene_of sheet c).bodies = rw (length_bodies sheet c) h in
    let q : is_some (get_or (layout (scene_of sheet c)) i none) ≡ moves rels i b = layout_moves rels 0 0 (scene_of sheet c).bodies i b l ∙ (λ j. moves rels (zero-add i j) (body_is sheet c i b h j)) in
    let t = unnamed_test b.fixed (moves rels i b) (first_unknown (get_or c.index i None)) (ap is_some (sym (laid.index i h)) ∙ q) in
    rw add-one (ap (unnamed_from rels i) (bodies_next sheet c i h) ∙ ap (λ (k : ℕ). k + unnamed_from rels (suc i) (drop (suc i) (scene_of sheet c).bodies)) t)

pub unnamed_done : (sheet : List ℕ) (c : SceneStruct) (i : ℕ) → i ≡ c.m → rest_unnamed sheet c i ≡ 0
unfolding unnamed_from
unnamed_done sheet c i e = ap (unnamed_from (scene_of sheet c).rels i) (drop_whole (scene_of sheet c).bodies i (length_bodies sheet c ∙ sym e))

pub unnamed_small : (fixed : Bool) (k : Option ℕ) → unnamed_one fixed k ≤ 6
unfolding unnamed_one
unnamed_small true none = omega arith
unnamed_small false none = omega arith
unnamed_small fixed (some k) = omega arith

-- ---- all

-- what slope filling asks, of the whole scratch lent to it
pub slopes_ready : (c : SceneStruct) (p : PartsStruct) (s s1 s2 : List Float) → TotalApart c p (length s) → Put s s1 0 c.n (zeros c.n)
    → Put s1 s2 p.slopes (c.rows * c.n) (zeros (c.rows * c.n))
    → let w = take (length s2 - 0) (drop 0 s2) in
    TotalApart c p (length w) × ((part w 0 c.n ≡ zeros c.n) × (part w p.slopes (c.rows * c.n) ≡ zeros (c.rows * c.n)))
slopes_ready c p s s1 s2 h a b =
    subst (λ (w : List Float). TotalApart c p (length w) × ((part w 0 c.n ≡ zeros c.n) × (part w p.slopes (c.rows * c.n) ≡ zeros (c.rows * c.n)))) (sym (rest_lent 0 s2)) (
      still_apart c p (length s) (length s2) (b.kept.size ∙ a.kept.size) h,
      (kept_part_below s1 s2 p.slopes (p.slopes + c.rows * c.n) 0 c.n (omega arith) b.kept ∙ a.holds, b.holds),
    )

-- the slopes are what the rank is lent first, and they are finite
slopes_lent : (f : List Float → List Float) (s q : List Float) (at n rows : ℕ) → SlopesBy f (take (length s - 0) (drop 0 s)) q at n rows 0
    → part (take (length (put_mid 0 (length s - 0) s q) - at) (drop at (put_mid 0 (length s - 0) s q))) 0 (rows * n) ≡ jacobian f (part (take (length s - 0) (drop 0 s)) 0 n) rows
slopes_lent f s q at n rows d =
    ap (λ (w : List Float). part w 0 (rows * n)) (rest_lent at (put_mid 0 (length s - 0) s q)) ∙ ap (λ (w : List Float). part w at (rows * n)) (put_tail 0 s q (omega arith)) ∙ d.holds

pub lent_finite : (f : List Float → List Float) (s q : List Float) (at n rows : ℕ) → rows * n ≤ length (take (length (put_mid 0 (length s - 0) s q) - at) (drop at (put_mid 0 (length s - 0) s q)))
    → SlopesBy f (take (length s - 0) (drop 0 s)) q at n rows 0 → FiniteAt (take (length (put_mid 0 (length s - 0) s q) - at) (drop at (put_mid 0 (length s - 0) s q))) 0 (rows * n)
lent_finite f s q at n rows h d = slopes_finite f (part (take (length s - 0) (drop 0 s)) 0 n) _ rows n h (slopes_lent f s q at n rows d)

module _ (sheet : List ℕ) (c : SceneStruct) (p : PartsStruct) (s s1 s2 q : List Float) (rank unused : ℕ) (laid : Laid sheet c) (fits : TotalApart c p (length s))
    (a : Put s s1 0 c.n (zeros c.n)) (b : Put s1 s2 p.slopes (c.rows * c.n) (zeros (c.rows * c.n)))
    (d : SlopesBy (scaled_rows (scene_of sheet c)) (take (length s2 - 0) (drop 0 s2)) q p.slopes c.n c.rows 0)
    (r : rank ≡ rank_rel (part (take (length (put_mid 0 (length s2 - 0) s2 q) - p.slopes) (drop p.slopes (put_mid 0 (length s2 - 0) s2 q))) 0 (c.rows * c.n)) c.rows c.n)
    (u : unused ≡ unnamed_from (scene_of sheet c).rels 0 (scene_of sheet c).bodies) where
  zeros_at : part (take (length s2 - 0) (drop 0 s2)) 0 c.n ≡ zeros c.n
  zeros_at =
      ap (λ (w : List Float). part w 0 c.n) (rest_lent 0 s2) ∙ kept_part_below s1 s2 p.slopes (p.slopes + c.rows * c.n) 0 c.n (omega arith) b.kept ∙ a.holds

  lent_zeros : part (take (length (put_mid 0 (length s2 - 0) s2 q) - p.slopes) (drop p.slopes (put_mid 0 (length s2 - 0) s2 q))) 0 (c.rows * c.n)
      ≡ jacobian (scaled_rows (scene_of sheet c)) (zeros c.n) c.rows
  lent_zeros = slopes_lent _ s2 q p.slopes c.n c.rows d ∙ ap (λ (w : List Float). jacobian (scaled_rows (scene_of sheet c)) w c.rows) zeros_at

  pub total_is : c.n - min rank c.n + unused ≡ total_freedom (scene_of sheet c)
  unfolding total_freedom
  total_is =
      let sc = scene_of sheet c in
      let n_is : c.n ≡ unknowns sc = laid.unknown_count in
      let rows_is : c.rows ≡ length (scaled_rows sc (zeros (unknowns sc))) = sym (laid.row_count _) in
      (λ j. c.n - min ((r ∙ ap (λ (w : List Float). rank_rel w c.rows c.n) lent_zeros) j) c.n + u j)
      ∙ (λ j. n_is j - min (rank_rel (jacobian (scaled_rows sc) (zeros (n_is j)) (rows_is j)) (rows_is j) (n_is j)) (n_is j) + unnamed_from sc.rels 0 sc.bodies)

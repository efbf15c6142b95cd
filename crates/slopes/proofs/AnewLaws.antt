-- What moves with a body's unknowns: a relation that does not name a body has the same rows wherever the body stands, a body's pose depends on its own six unknowns only, and the
-- bodies' unknowns follow one another. Assumes nothing.
use mathlib.Core.Path.{◌≡◌, refl, sym, ap, ◌∙◌}
use mathlib.Core.Bool.{Bool, true, false, ◌||◌}
use mathlib.Core.List.{List, [], ◌∷◌}
use mathlib.Core.Option.{Option, none, some}
use Prim.Native.Nat.{ℕ, zero, suc, ◌+◌, ◌*◌, ◌≤◌, ◌<◌}
use native.Mathlib.Omega.{arith}
use native.Mathlib.Numerals.{add-one}
use borrow.Author.Tests.{eq-eqb}
use lib.ListN.{length, get_or, set, take, drop}
use lib.Seq.{get_or-set_other}
use lib.Ieee.{Float, nan}
use Rattle.relations.specs.Geometry.{Pose}
use Rattle.relations.specs.Model.{Body, Rel}
use Rattle.relations.specs.Rows.{residual, ground_pose}
use Rattle.records.specs.Record.{body_at}
use Rattle.scene.specs.Solve.{Scene, is_body, third_body, names, moves, layout_from, layout, unknowns_in, three, moved_pose, pose_at, poses_from, poses_at, end_pose, rows_at}
use Rattle.std.specs.Prelude.{None, Some}
use Rattle.scene.specs.Scene.{first_unknown, scene_of, Laid}
use Rattle.scene.specs.declared.scene.Scene.{Scene as SceneStruct}
use Rattle.scene.proofs.SceneLaws.{next_layout, laid_length, bodies_next, layout_next}
use Rattle.slopes.specs.AnewSlopes.{Among, given}

-- ---- a relation that does not name the body

or_left : (a b : Bool) → (a || b) ≡ false → a ≡ false
or_left true b e = e
or_left false b e = refl

or_right : (a b : Bool) → (a || b) ≡ false → b ≡ false
or_right true b e = absurd (let z : ◌≡◌ {A = ℕ} 0 1 = cc in omega arith)
or_right false b e = e

end_other : (poses : List (Pose Float)) (i : ℕ) (q : Pose Float) (b : Option ℕ) → is_body b i ≡ false → end_pose (set poses i q) b ≡ end_pose poses b
end_other poses i q none e = refl
end_other poses i q (some k) e = get_or-set_other poses i k q ground_pose (λ f. let t = eq-eqb k i f in absurd (let z : ◌≡◌ {A = ℕ} 0 1 = cc in omega arith))

pub rows_other : (poses : List (Pose Float)) (i : ℕ) (q : Pose Float) (rel : Rel) → names rel i ≡ false → rows_at (set poses i q) rel ≡ rows_at poses rel
unfolding names
rows_other poses i q rel e =
    let k = is_body rel.a.body i in
    let l = is_body rel.b.body i in
    let m = is_body (third_body rel.law) i in
    let r = or_right k (l || m) e in
    let a = end_other poses i q rel.a.body (or_left k (l || m) e) in
    let b = end_other poses i q rel.b.body (or_left l m r) in
    let d = end_other poses i q (third_body rel.law) (or_right l m r) in
    λ z. residual rel.law rel.a rel.b (a z) (b z) (d z)

-- ---- a body's pose depends on its own unknowns only

three_far : (x : List Float) (c k : ℕ) (v : Float) → (k ≡ c → ⊥) → (k + 1 ≡ c → ⊥) → (k + 2 ≡ c → ⊥) → three (set x c v) k ≡ three x k
three_far x c k v f g h =
    let a = get_or-set_other x c k v nan f in
    let b = get_or-set_other x c (k + 1) v nan g in
    let d = get_or-set_other x c (k + 2) v nan h in
    λ z. record { x = a z; y = b z; z = d z }

pose_after : (x : List Float) (b : Body) (c k : ℕ) (v : Float) → c < k → pose_at (set x c v) b (some k) ≡ pose_at x b (some k)
unfolding pose_at
pose_after x b c k v h =
    let d = three_far x c k v (λ e. absurd (omega arith)) (λ e. absurd (omega arith)) (λ e. absurd (omega arith)) in
    let f = three_far x c (k + 3) v (λ e. absurd (omega arith)) (λ e. absurd (omega arith)) (λ e. absurd (omega arith)) in
    λ z. moved_pose b (d z) (f z)

pose_before : (x : List Float) (b : Body) (c k : ℕ) (v : Float) → k + 6 ≤ c → pose_at (set x c v) b (some k) ≡ pose_at x b (some k)
unfolding pose_at
pose_before x b c k v h =
    let d = three_far x c k v (λ e. absurd (omega arith)) (λ e. absurd (omega arith)) (λ e. absurd (omega arith)) in
    let f = three_far x c (k + 3) v (λ e. absurd (omega arith)) (λ e. absurd (omega arith)) (λ e. absurd (omega arith)) in
    λ z. moved_pose b (d z) (f z)

pose_none : (x : List Float) (b : Body) (c : ℕ) (v : Float) → pose_at (set x c v) b none ≡ pose_at x b none
unfolding pose_at
pose_none x b c v = refl

-- bodies whose unknowns all follow c
poses_after : (rels : List Rel) (i next : ℕ) (bodies : List Body) (x : List Float) (c : ℕ) (v : Float) → c < next
    → poses_from (set x c v) bodies (layout_from rels i next bodies) ≡ poses_from x bodies (layout_from rels i next bodies)
unfolding layout_from poses_from
poses_after rels i next [] x c v h = refl
poses_after rels i next (b ∷ bodies) x c v h = go (moves rels i b) (λ n l. poses_after rels (suc i) n bodies x c v l)
  where
    go : (t : Bool)
        → ((n : ℕ) → c < n → poses_from (set x c v) bodies (layout_from rels (suc i) n bodies) ≡ poses_from x bodies (layout_from rels (suc i) n bodies))
        → poses_from (set x c v) (b ∷ bodies) (next_layout rels i next bodies t) ≡ poses_from x (b ∷ bodies) (next_layout rels i next bodies t)
    go true k = let a = pose_after x b c next v h in let d = k (next + 6) (omega arith) in λ z. a z ∷ d z
    go false k = let a = pose_none x b c v in let d = k next h in λ z. a z ∷ d z

-- a body's unknowns do not come before the first that was free
layout_above : (rels : List Rel) (i next : ℕ) (bodies : List Body) (j k : ℕ) → get_or (layout_from rels i next bodies) j none ≡ some k → next ≤ k
unfolding layout_from
layout_above rels i next [] zero k e = let z : ◌≡◌ {A = ℕ} 0 1 = cc in omega arith
layout_above rels i next [] (suc j) k e = let z : ◌≡◌ {A = ℕ} 0 1 = cc in omega arith
layout_above rels i next (b ∷ bodies) zero k e = go (moves rels i b) e
  where
    go : (t : Bool) → get_or (next_layout rels i next bodies t) 0 none ≡ some k → next ≤ k
    go true f = let w : next ≡ k = cc in omega arith
    go false f = let z : ◌≡◌ {A = ℕ} 0 1 = cc in omega arith
layout_above rels i next (b ∷ bodies) (suc j) k e = go (moves rels i b) e (λ n f. layout_above rels (suc i) n bodies j k f)
  where
    go : (t : Bool) → get_or (next_layout rels i next bodies t) (suc j) none ≡ some k → ((n : ℕ) → get_or (layout_from rels (suc i) n bodies) j none ≡ some k → n ≤ k) → next ≤ k
    go true f h = let w = h (next + 6) f in omega arith
    go false f h = h next f

poses_far : (rels : List Rel) (i next : ℕ) (bodies : List Body) (j k : ℕ) (x : List Float) (c : ℕ) (v : Float) (w : Pose Float) → get_or (layout_from rels i next bodies) j none ≡ some k → k ≤ c
    → c < k + 6
    → set (poses_from (set x c v) bodies (layout_from rels i next bodies)) j w ≡ set (poses_from x bodies (layout_from rels i next bodies)) j w
unfolding layout_from poses_from
poses_far rels i next [] j k x c v w e l h = refl
poses_far rels i next (b ∷ bodies) zero k x c v w e l h = go (moves rels i b) e
  where
    go : (t : Bool) → get_or (next_layout rels i next bodies t) 0 none ≡ some k
        → set (poses_from (set x c v) (b ∷ bodies) (next_layout rels i next bodies t)) 0 w ≡ set (poses_from x (b ∷ bodies) (next_layout rels i next bodies t)) 0 w
    go true f = let d : next ≡ k = cc in let a = poses_after rels (suc i) (next + 6) bodies x c v (omega arith) in λ z. w ∷ a z
    go false f = absurd (let z : ◌≡◌ {A = ℕ} 0 1 = cc in omega arith)
poses_far rels i next (b ∷ bodies) (suc j) k x c v w e l h = go (moves rels i b) e (λ n f. poses_far rels (suc i) n bodies j k x c v w f l h) (λ n f. layout_above rels (suc i) n bodies j k f)
  where
    go : (t : Bool) → get_or (next_layout rels i next bodies t) (suc j) none ≡ some k
        → ((n : ℕ) → get_or (layout_from rels (suc i) n bodies) j none ≡ some k
        → set (poses_from (set x c v) bodies (layout_from rels (suc i) n bodies)) j w ≡ set (poses_from x bodies (layout_from rels (suc i) n bodies)) j w)
        → ((n : ℕ) → get_or (layout_from rels (suc i) n bodies) j none ≡ some k → n ≤ k)
        → set (poses_from (set x c v) (b ∷ bodies) (next_layout rels i next bodies t)) (suc j) w ≡ set (poses_from x (b ∷ bodies) (next_layout rels i next bodies t)) (suc j) w
    go true f r g = let u = g (next + 6) f in let a = pose_before x b c next v (omega arith) in let d = r (next + 6) f in λ z. a z ∷ d z
    go false f r g = let a = pose_none x b c v in let d = r next f in λ z. a z ∷ d z

pub unknown_far : (sc : Scene) (i c : ℕ) (xs : List Float) (v : Float) (w : Pose Float) → Among sc i c → set (poses_at sc (set xs c v)) i w ≡ set (poses_at sc xs) i w
unknown_far sc i c xs v w g = poses_far sc.rels 0 0 sc.bodies i g.first xs c v w g.given g.low g.high

-- ---- the unknowns follow one another

given_is : (rels : List Rel) (i next : ℕ) (bodies : List Body) (j k : ℕ) → get_or (layout_from rels i next bodies) j none ≡ some k → k ≡ next + unknowns_in (take j (layout_from rels i next bodies))
unfolding layout_from unknowns_in
given_is rels i next [] zero k e = absurd (let z : ◌≡◌ {A = ℕ} 0 1 = cc in omega arith)
given_is rels i next [] (suc j) k e = absurd (let z : ◌≡◌ {A = ℕ} 0 1 = cc in omega arith)
given_is rels i next (b ∷ bodies) zero k e = go (moves rels i b) e
  where
    go : (t : Bool) → get_or (next_layout rels i next bodies t) 0 none ≡ some k → k ≡ next + unknowns_in (take 0 (next_layout rels i next bodies t))
    go true f = let w : next ≡ k = cc in omega arith
    go false f = absurd (let z : ◌≡◌ {A = ℕ} 0 1 = cc in omega arith)
given_is rels i next (b ∷ bodies) (suc j) k e = go (moves rels i b) e (λ n f. given_is rels (suc i) n bodies j k f)
  where
    go : (t : Bool) → get_or (next_layout rels i next bodies t) (suc j) none ≡ some k
        → ((n : ℕ) → get_or (layout_from rels (suc i) n bodies) j none ≡ some k → k ≡ n + unknowns_in (take j (layout_from rels (suc i) n bodies)))
        → k ≡ next + unknowns_in (take (suc j) (next_layout rels i next bodies t))
    go true f h = let w = h (next + 6) f in omega arith
    go false f h = h next f

more_given : (l : List (Option ℕ)) (j k : ℕ) → get_or l j none ≡ some k → unknowns_in (take (suc j) l) ≡ unknowns_in (take j l) + 6
unfolding unknowns_in
more_given [] j k e = absurd (let z : ◌≡◌ {A = ℕ} 0 1 = cc in omega arith)
more_given (none ∷ l) zero k e = absurd (let z : ◌≡◌ {A = ℕ} 0 1 = cc in omega arith)
more_given (some q ∷ l) zero k e = omega arith
more_given (none ∷ l) (suc j) k e = more_given l j k e
more_given (some q ∷ l) (suc j) k e = let w = more_given l j k e in omega arith

none_given : (l : List (Option ℕ)) (j : ℕ) → get_or l j none ≡ none → unknowns_in (take (suc j) l) ≡ unknowns_in (take j l)
unfolding unknowns_in
none_given [] zero e = refl
none_given [] (suc j) e = refl
none_given (none ∷ l) zero e = refl
none_given (some q ∷ l) zero e = absurd (let z : ◌≡◌ {A = ℕ} 0 1 = cc in omega arith)
none_given (none ∷ l) (suc j) e = none_given l j e
none_given (some q ∷ l) (suc j) e = let w = none_given l j e in omega arith

less_given : (l : List (Option ℕ)) (j : ℕ) → unknowns_in (take j l) ≤ unknowns_in l
unfolding unknowns_in
less_given [] zero = omega arith
less_given [] (suc j) = omega arith
less_given (k ∷ l) zero = omega arith
less_given (none ∷ l) (suc j) = less_given l j
less_given (some k ∷ l) (suc j) = let w = less_given l j in omega arith

one_given : (l : List (Option ℕ)) (j : ℕ) → unknowns_in (take j l) ≤ unknowns_in (take (suc j) l)
unfolding unknowns_in
one_given [] zero = omega arith
one_given [] (suc j) = omega arith
one_given (k ∷ l) zero = omega arith
one_given (none ∷ l) (suc j) = one_given l j
one_given (some k ∷ l) (suc j) = let w = one_given l j in omega arith

take_whole : (l : List (Option ℕ)) (n : ℕ) → length l ≡ n → take n l ≡ l
take_whole [] zero e = refl
take_whole [] (suc n) e = refl
take_whole (k ∷ l) zero e = absurd (omega arith)
take_whole (k ∷ l) (suc n) e = ap (λ r. k ∷ r) (take_whole l n (omega arith))

pub given_first : (sc : Scene) (i k : ℕ) → get_or (layout sc) i none ≡ some k → k ≡ given sc i
given_first sc i k e = let w = given_is sc.rels 0 0 sc.bodies i k e in omega arith

pub given_next : (sc : Scene) (i k : ℕ) → get_or (layout sc) i none ≡ some k → k + 6 ≡ given sc (i + 1)
given_next sc i k e = let w = given_first sc i k e in let v = more_given (layout sc) i k e in ap (λ (q : ℕ). q + 6) w ∙ sym v ∙ ap (given sc) (sym (add-one i))

pub given_still : (sc : Scene) (i : ℕ) → get_or (layout sc) i none ≡ none → given sc (i + 1) ≡ given sc i
given_still sc i e = ap (given sc) (add-one i) ∙ none_given (layout sc) i e

pub given_more : (sc : Scene) (i : ℕ) → given sc i ≤ given sc (i + 1)
given_more sc i = rw (add-one i) (one_given (layout sc) i)

pub given_among : (sheet : List ℕ) (c : SceneStruct) (i : ℕ) → Laid sheet c → given (scene_of sheet c) i ≤ c.n
given_among sheet c i laid = let w = less_given (layout (scene_of sheet c)) i in let u = laid.unknown_count in omega arith

pub given_all : (sheet : List ℕ) (c : SceneStruct) (i : ℕ) → Laid sheet c → i ≡ c.m → given (scene_of sheet c) i ≡ c.n
given_all sheet c i laid e = ap unknowns_in (take_whole (layout (scene_of sheet c)) i (laid_length sheet c ∙ sym e)) ∙ sym laid.unknown_count

-- ---- a body put anew

-- a body put where it stands
pub poses_back : (xs : List Float) (bodies : List Body) (l : List (Option ℕ)) (i : ℕ) (b : Body) (k : Option ℕ) (bs : List Body) (ks : List (Option ℕ)) → drop i bodies ≡ b ∷ bs → drop i l ≡ k ∷ ks
    → set (poses_from xs bodies l) i (pose_at xs b k) ≡ poses_from xs bodies l
unfolding poses_from
poses_back xs [] l i b k bs ks e f = refl
poses_back xs (d ∷ bodies) [] i b k bs ks e f = refl
poses_back xs (d ∷ bodies) (q ∷ l) zero b k bs ks e f =
    let w : b ≡ d = cc in
    let v : k ≡ q = cc in
    λ z. pose_at xs (w z) (v z) ∷ poses_from xs bodies l
poses_back xs (d ∷ bodies) (q ∷ l) (suc i) b k bs ks e f = ap (λ (r : List (Pose Float)). pose_at xs d q ∷ r) (poses_back xs bodies l i b k bs ks e f)

-- a body with an unknown moved, the others where they stand
pub moved_back : (sheet : List ℕ) (c : SceneStruct) (i k e : ℕ) (xs : List Float) (v : Float) → Laid sheet c → i < c.m → get_or (layout (scene_of sheet c)) i none ≡ some k → e < 6
    → set (poses_at (scene_of sheet c) xs) i (pose_at (set xs (k + e) v) (body_at sheet (c.bodies + 136 * i)) (some k)) ≡ poses_at (scene_of sheet c) (set xs (k + e) v)
moved_back sheet c i k e xs v laid h g l =
    let sc = scene_of sheet c in
    let b = body_at sheet (c.bodies + 136 * i) in
    sym (unknown_far sc i (k + e) xs v (pose_at (set xs (k + e) v) b (some k)) (record { first = k; given = g; low = omega arith; high = omega arith }))
    ∙ poses_back (set xs (k + e) v) sc.bodies (layout sc) i b (some k) _ _ (bodies_next sheet c i h)
    (layout_next sheet c i laid h ∙ ap (λ (w : Option ℕ). w ∷ drop (suc i) (layout sc)) (sym (laid.index i h) ∙ g))

-- ---- a body with unknowns has its first, and one without has none

pub first_some : (sheet : List ℕ) (c : SceneStruct) (i k : ℕ) → Laid sheet c → i < c.m → get_or c.index i None ≡ Some k → get_or (layout (scene_of sheet c)) i none ≡ some k
first_some sheet c i k laid h e = laid.index i h ∙ ap first_unknown e

pub first_none : (sheet : List ℕ) (c : SceneStruct) (i : ℕ) → Laid sheet c → i < c.m → get_or c.index i None ≡ None → get_or (layout (scene_of sheet c)) i none ≡ none
first_none sheet c i laid h e = laid.index i h ∙ ap first_unknown e

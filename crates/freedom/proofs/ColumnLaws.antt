-- The slopes of the scaled rows at unknowns that are all 0, body by body: of the scaled unknowns only the one that moves changes, so only its own body's pose does, and that is the body's
-- pose at its six unknowns, the turning ones over half its size. So the slopes by the poses a step ahead and behind are the definition's. Assumes nothing.
use mathlib.Core.Path.{◌≡◌, refl, sym, ap, subst, ◌∙◌}
use mathlib.Core.Bool.{Bool, true, false}
use mathlib.Core.List.{List, [], ◌∷◌}
use mathlib.Core.Option.{Option, none, some}
use Prim.Native.Nat.{ℕ, zero, suc, ◌+◌, ◌-◌, ◌*◌, ◌≤◌, ◌<◌}
use native.Mathlib.Omega.{arith}
use native.Mathlib.Decide.{dec_lt, ℕ_discrete}
use lib.ListN.{length, get_or, set, drop, length-set, get_or-eq_default}
use lib.Seq.{get_or-set_same, get_or-set_other, set-get_or, ext_get_or}
use lib.Ieee.{Float, nan, binary64, div}
use Rattle.numbers.specs.Double.{zero64}
use Rattle.vectors.specs.Vec.{Vec}
use Rattle.relations.specs.Geometry.{Pose}
use Rattle.relations.specs.Model.{Body, Rel}
use Rattle.relations.specs.Rows.{ground_pose}
use Rattle.records.specs.Record.{body_at}
use Rattle.least_squares.specs.Lm.{list_of, table_of, slope_of, slope, jacobian}
use Rattle.least_squares.specs.Memory.{part}
use Rattle.scene.specs.Solve.{Scene, moves, layout_from, layout, unknowns_in, three, moved_pose, pose_at, poses_from, poses_at, all_rows, half_size}
use Rattle.std.specs.Prelude.{None}
use Rattle.scene.specs.Scene.{first_unknown, scene_of, Laid, poses_doubles, poses_in, Put}
use Rattle.scene.specs.declared.scene.Scene.{Scene as SceneStruct}
use Rattle.slopes.specs.AnewSlopes.{given}
use Rattle.slopes.specs.Moved.{moved_slope, Block, Clear, Steps}
use Rattle.body_freedom.specs.Dof.{zeros, scale_three, scaled_from, scaled_rows}
use Rattle.body_freedom.specs.BodySlopes.{shifted, MovedPoses, six_steps}
use Rattle.least_squares.proofs.MemoryLaws.{part_length, part_at, kept_at_below, kept_at_above}
use Rattle.least_squares.proofs.TableLaws.{in_rows, table_ext, length_list_of, get_d_list_of}
use Rattle.scene.proofs.SceneLaws.{next_layout, length_layout, length_bodies, length_poses, bodies_next, layout_next, poses_there, pose_same}
use Rattle.slopes.proofs.SlopeLaws.{column_of}
use Rattle.slopes.proofs.StillLaws.{slope_still}
use Rattle.slopes.proofs.AnewLaws.{unknown_far, given_first, given_next, given_still}
use Rattle.body_freedom.proofs.BodySlopeLaws.{zero_step, zero_ahead, zero_behind, step_at}
use Rattle.freedom.specs.Total.{TotalApart, Waiting, ColumnsFrom, SlopesBy}
use Rattle.slopes.specs.declared.anew_slopes.SlopeParts.{SlopeParts as PartsStruct}

-- ---- an entry of the scaled unknowns depends on the same entry alone

set_alike : (x y : List Float) (k q : ℕ) (u v : Float) → length x ≡ length y → (q ≡ k → u ≡ v) → get_or x q nan ≡ get_or y q nan → get_or (set x k u) q nan ≡ get_or (set y k v) q nan
set_alike x y k q u v n f e = go (ℕ_discrete q k) (dec_lt k (length x))
  where
    go : Dec (q ≡ k) → Dec (k < length x) → get_or (set x k u) q nan ≡ get_or (set y k v) q nan
    go (no d) l = get_or-set_other x k q u nan d ∙ e ∙ sym (get_or-set_other y k q v nan d)
    go (yes d) (yes l) =
        ap (λ (w : ℕ). get_or (set x k u) w nan) d ∙ get_or-set_same x k u nan l ∙ f d ∙ sym (get_or-set_same y k v nan (omega arith)) ∙ ap (λ (w : ℕ). get_or (set y k v) w nan) (sym d)
    go (yes d) (no l) =
        let a = length-set x k u in
        let b = length-set y k v in
        get_or-eq_default (set x k u) nan (omega arith) ∙ sym (get_or-eq_default (set y k v) nan (omega arith))

-- the first of the three over l, and the first two
abbrev scale_one : List Float → ℕ → Float → List Float
scale_one x k l = set x k (div binary64 (get_or x k nan) l)

abbrev scale_two : List Float → ℕ → Float → List Float
scale_two x k l = set (scale_one x k l) (k + 1) (div binary64 (get_or x (k + 1) nan) l)

two_length : (x : List Float) (k : ℕ) (l : Float) → length (scale_two x k l) ≡ length x
two_length x k l = length-set (scale_one x k l) (k + 1) _ ∙ length-set x k _

scale_length : (x : List Float) (k : ℕ) (l : Float) → length (scale_three x k l) ≡ length x
scale_length x k l = length-set (scale_two x k l) (k + 2) _ ∙ two_length x k l

scale_alike : (x y : List Float) (k q : ℕ) (l : Float) → length x ≡ length y → get_or x q nan ≡ get_or y q nan → get_or (scale_three x k l) q nan ≡ get_or (scale_three y k l) q nan
scale_alike x y k q l n e =
    set_alike (scale_two x k l) (scale_two y k l) (k + 2) q _ _ (two_length x k l ∙ n ∙ sym (two_length y k l)) (over (k + 2))
    (set_alike (scale_one x k l) (scale_one y k l) (k + 1) q _ _ (length-set x k _ ∙ n ∙ sym (length-set y k _)) (over (k + 1)) (set_alike x y k q _ _ n (over k) e))
  where
    over : (w : ℕ) → q ≡ w → div binary64 (get_or x w nan) l ≡ div binary64 (get_or y w nan) l
    over w d = ap (λ (v : Float). div binary64 v l) (ap (λ (v : ℕ). get_or x v nan) (sym d) ∙ e ∙ ap (λ (v : ℕ). get_or y v nan) d)

scaled_length : (x : List Float) (bodies : List Body) (l : List (Option ℕ)) → length (scaled_from x bodies l) ≡ length x
unfolding scaled_from
scaled_length x [] l = refl
scaled_length x (b ∷ bodies) [] = refl
scaled_length x (b ∷ bodies) (none ∷ l) = scaled_length x bodies l
scaled_length x (b ∷ bodies) (some k ∷ l) = scaled_length (scale_three x (k + 3) (half_size b.size)) bodies l ∙ scale_length x (k + 3) (half_size b.size)

scaled_alike : (x y : List Float) (bodies : List Body) (l : List (Option ℕ)) (q : ℕ) → length x ≡ length y → get_or x q nan ≡ get_or y q nan
    → get_or (scaled_from x bodies l) q nan ≡ get_or (scaled_from y bodies l) q nan
unfolding scaled_from
scaled_alike x y [] l q n e = e
scaled_alike x y (b ∷ bodies) [] q n e = e
scaled_alike x y (b ∷ bodies) (none ∷ l) q n e = scaled_alike x y bodies l q n e
scaled_alike x y (b ∷ bodies) (some k ∷ l) q n e =
    let h = half_size b.size in
    scaled_alike (scale_three x (k + 3) h) (scale_three y (k + 3) h) bodies l q (scale_length x (k + 3) h ∙ n ∙ sym (scale_length y (k + 3) h)) (scale_alike x y (k + 3) q h n e)

-- one unknown put anew is one scaled unknown put anew
scaled_set : (x : List Float) (bodies : List Body) (l : List (Option ℕ)) (c : ℕ) (v : Float) → c < length x
    → scaled_from (set x c v) bodies l ≡ set (scaled_from x bodies l) c (get_or (scaled_from (set x c v) bodies l) c nan)
scaled_set x bodies l c v h = ext_get_or nan (scaled_from (set x c v) bodies l) (set (scaled_from x bodies l) c w) lengths (λ q m. at q (ℕ_discrete q c))
  where
    w : Float
    w = get_or (scaled_from (set x c v) bodies l) c nan

    lengths : length (scaled_from (set x c v) bodies l) ≡ length (set (scaled_from x bodies l) c w)
    lengths = scaled_length (set x c v) bodies l ∙ length-set x c v ∙ sym (length-set (scaled_from x bodies l) c w ∙ scaled_length x bodies l)

    at : (q : ℕ) → Dec (q ≡ c) → get_or (scaled_from (set x c v) bodies l) q nan ≡ get_or (set (scaled_from x bodies l) c w) q nan
    at q (yes e) =
        ap (λ (k : ℕ). get_or (scaled_from (set x c v) bodies l) k nan) e ∙ sym (get_or-set_same (scaled_from x bodies l) c w nan (rw (scaled_length x bodies l) h))
        ∙ ap (λ (k : ℕ). get_or (set (scaled_from x bodies l) c w) k nan) (sym e)
    at q (no e) =
        scaled_alike (set x c v) x bodies l q (length-set x c v) (get_or-set_other x c q v nan e) ∙ sym (get_or-set_other (scaled_from x bodies l) c q w nan e)

-- ---- a body's own six

scale_other : (x : List Float) (k q : ℕ) (l : Float) → (q ≡ k → ⊥) → (q ≡ k + 1 → ⊥) → (q ≡ k + 2 → ⊥) → get_or (scale_three x k l) q nan ≡ get_or x q nan
scale_other x k q l a b c = get_or-set_other (scale_two x k l) (k + 2) q _ nan c ∙ get_or-set_other (scale_one x k l) (k + 1) q _ nan b ∙ get_or-set_other x k q _ nan a

-- the three from k on, over l
abbrev over_three : List Float → ℕ → Float → Vec Float
over_three x k l = record { x = div binary64 (get_or x k nan) l; y = div binary64 (get_or x (k + 1) nan) l; z = div binary64 (get_or x (k + 2) nan) l }

scale_three_lem : (x : List Float) (k : ℕ) (l : Float) → k + 3 ≤ length x → three (scale_three x k l) k ≡ over_three x k l
scale_three_lem x k l h =
    let n = length-set x k (div binary64 (get_or x k nan) l) in
    let m = two_length x k l in
    let a : get_or (scale_three x k l) k nan ≡ div binary64 (get_or x k nan) l
    = get_or-set_other (scale_two x k l) (k + 2) k _ nan (λ e. absurd (omega arith)) ∙ get_or-set_other (scale_one x k l) (k + 1) k _ nan (λ e. absurd (omega arith)) ∙ get_or-set_same x k _ nan (omega arith) in
    let b : get_or (scale_three x k l) (k + 1) nan ≡ div binary64 (get_or x (k + 1) nan) l
    = get_or-set_other (scale_two x k l) (k + 2) (k + 1) _ nan (λ e. absurd (omega arith)) ∙ get_or-set_same (scale_one x k l) (k + 1) _ nan (omega arith) in
    let c = get_or-set_same (scale_two x k l) (k + 2) _ nan (omega arith) in
    λ z. record { x = a z; y = b z; z = c z }

three_same : (x y : List Float) (k : ℕ) → ((q : ℕ) → k ≤ q → q < k + 3 → get_or y q nan ≡ get_or x q nan) → three y k ≡ three x k
three_same x y k h =
    let a = h k (omega arith) (omega arith) in
    let b = h (k + 1) (omega arith) (omega arith) in
    let c = h (k + 2) (omega arith) (omega arith) in
    λ z. record { x = a z; y = b z; z = c z }

over_same : (x y : List Float) (k : ℕ) (l : Float) → ((q : ℕ) → k ≤ q → q < k + 3 → get_or y q nan ≡ get_or x q nan) → over_three y k l ≡ over_three x k l
over_same x y k l h = ap (λ (v : Vec Float). record { x = div binary64 v.x l; y = div binary64 v.y l; z = div binary64 v.z l }) (three_same x y k h)

-- what precedes the first unknown of the bodies is not scaled
scaled_below : (rels : List Rel) (i next : ℕ) (bodies : List Body) (x : List Float) (q : ℕ) → q < next
    → get_or (scaled_from x bodies (layout_from rels i next bodies)) q nan ≡ get_or x q nan
unfolding layout_from scaled_from
scaled_below rels i next [] x q h = refl
scaled_below rels i next (b ∷ bodies) x q h = go (moves rels i b) (λ n y l. scaled_below rels (suc i) n bodies y q l)
  where
    go : (t : Bool) → ((n : ℕ) (y : List Float) → q < n → get_or (scaled_from y bodies (layout_from rels (suc i) n bodies)) q nan ≡ get_or y q nan)
        → get_or (scaled_from x (b ∷ bodies) (next_layout rels i next bodies t)) q nan ≡ get_or x q nan
    go true k =
        k (next + 6) (scale_three x (next + 3) (half_size b.size)) (omega arith)
        ∙ scale_other x (next + 3) q (half_size b.size) (λ e. absurd (omega arith)) (λ e. absurd (omega arith)) (λ e. absurd (omega arith))
    go false k = k next x h

-- y has the six from k on of x, the last three over l
record Own (x y : List Float) (k : ℕ) (l : Float) : Type 0 where
  slide : three y k ≡ three x k
  turn : three y (k + 3) ≡ over_three x (k + 3) l

own_as : (x x' y : List Float) (k : ℕ) (l : Float) → ((q : ℕ) → k ≤ q → get_or x' q nan ≡ get_or x q nan) → Own x' y k l → Own x y k l
own_as x x' y k l h g = record { slide = g.slide ∙ three_same x x' k (λ q a b. h q a); turn = g.turn ∙ over_same x x' (k + 3) l (λ q a b. h q (omega arith)) }

own_first : (rels : List Rel) (i next : ℕ) (bodies : List Body) (x : List Float) (l : Float) → next + 6 ≤ length x
    → Own x (scaled_from (scale_three x (next + 3) l) bodies (layout_from rels i (next + 6) bodies)) next l
own_first rels i next bodies x l h =
    let y = scale_three x (next + 3) l in
    let w = scaled_from y bodies (layout_from rels i (next + 6) bodies) in
    record {
      slide =
          three_same x w next
          (λ q a b. scaled_below rels i (next + 6) bodies y q (omega arith) ∙ scale_other x (next + 3) q l (λ e. absurd (omega arith)) (λ e. absurd (omega arith)) (λ e. absurd (omega arith)));
      turn = three_same y w (next + 3) (λ q a b. scaled_below rels i (next + 6) bodies y q (omega arith)) ∙ scale_three_lem x (next + 3) l (omega arith);
    }

-- the six of the body whose first unknown is k; the unknowns that were given before are fewer
own : (rels : List Rel) (i next : ℕ) (bodies : List Body) (j k : ℕ) (x : List Float) (b : Body) (rest : List Body) → get_or (layout_from rels i next bodies) j none ≡ some k
    → drop j bodies ≡ b ∷ rest → k + 6 ≤ length x
    → (next ≤ k) × Own x (scaled_from x bodies (layout_from rels i next bodies)) k (half_size b.size)
unfolding layout_from scaled_from
own rels i next [] zero k x b rest e f h = absurd (let z : ◌≡◌ {A = ℕ} 0 1 = cc in omega arith)
own rels i next [] (suc j) k x b rest e f h = absurd (let z : ◌≡◌ {A = ℕ} 0 1 = cc in omega arith)
own rels i next (d ∷ bodies) zero k x b rest e f h = go (moves rels i d) e
  where
    go : (t : Bool) → get_or (next_layout rels i next bodies t) 0 none ≡ some k
        → (next ≤ k) × Own x (scaled_from x (d ∷ bodies) (next_layout rels i next bodies t)) k (half_size b.size)
    go true g =
        let w : next ≡ k = cc in
        let v : d ≡ b = cc in (
          omega arith,
          subst (λ (q : ℕ). Own x (scaled_from (scale_three x (next + 3) (half_size d.size)) bodies (layout_from rels (suc i) (next + 6) bodies)) q (half_size b.size)) w
              (subst (λ (q : Body). Own x (scaled_from (scale_three x (next + 3) (half_size d.size)) bodies (layout_from rels (suc i) (next + 6) bodies)) next (half_size q.size)) v
              (own_first rels (suc i) next bodies x (half_size d.size) (omega arith))),
        )
    go false g = absurd (let z : ◌≡◌ {A = ℕ} 0 1 = cc in omega arith)
own rels i next (d ∷ bodies) (suc j) k x b rest e f h = go (moves rels i d) e (λ n y g l. own rels (suc i) n bodies j k y b rest g f l)
  where
    go : (t : Bool) → get_or (next_layout rels i next bodies t) (suc j) none ≡ some k
        → ((n : ℕ) (y : List Float) → get_or (layout_from rels (suc i) n bodies) j none ≡ some k → k + 6 ≤ length y
        → (n ≤ k) × Own y (scaled_from y bodies (layout_from rels (suc i) n bodies)) k (half_size b.size))
        → (next ≤ k) × Own x (scaled_from x (d ∷ bodies) (next_layout rels i next bodies t)) k (half_size b.size)
    go true g r =
        let l = half_size d.size in
        let n = scale_length x (next + 3) l in
        let y = r (next + 6) (scale_three x (next + 3) l) g (omega arith) in
        let a = y.0 in (
          omega arith,
          own_as x (scale_three x (next + 3) l) _ k (half_size b.size)
              (λ q m. scale_other x (next + 3) q l (λ c. absurd (omega arith)) (λ c. absurd (omega arith)) (λ c. absurd (omega arith))) y.1,
        )
    go false g r = r next x g h

-- ---- the poses where one of a body's unknowns is v and all others are 0

pose_there : (x : List Float) (bodies : List Body) (l : List (Option ℕ)) (i : ℕ) (b : Body) (k : Option ℕ) (bs : List Body) (ks : List (Option ℕ)) → drop i bodies ≡ b ∷ bs → drop i l ≡ k ∷ ks
    → get_or (poses_from x bodies l) i ground_pose ≡ pose_at x b k
unfolding poses_from
pose_there x [] l zero b k bs ks e f = absurd (let z : ◌≡◌ {A = ℕ} 0 1 = cc in omega arith)
pose_there x [] l (suc i) b k bs ks e f = absurd (let z : ◌≡◌ {A = ℕ} 0 1 = cc in omega arith)
pose_there x (d ∷ bodies) [] zero b k bs ks e f = absurd (let z : ◌≡◌ {A = ℕ} 0 1 = cc in omega arith)
pose_there x (d ∷ bodies) [] (suc i) b k bs ks e f = absurd (let z : ◌≡◌ {A = ℕ} 0 1 = cc in omega arith)
pose_there x (d ∷ bodies) (q ∷ l) zero b k bs ks e f =
    let w : d ≡ b = cc in
    let v : q ≡ k = cc in
    λ z. pose_at x (w z) (v z)
pose_there x (d ∷ bodies) (q ∷ l) (suc i) b k bs ks e f = pose_there x bodies l i b k bs ks e f

module _ (n k e : ℕ) (v : Float) (fit : k + 6 ≤ n) (h : e < 6) where
  -- the body's six among all
  six_at : (j w : ℕ) → j < 6 → w ≡ k + j → get_or (set (zeros n) (k + e) v) w nan ≡ get_or (set (zeros 6) e v) j nan
  six_at j w l m = ap (λ (q : ℕ). get_or (set (zeros n) (k + e) v) q nan) m ∙ go (ℕ_discrete j e)
    where
      go : Dec (j ≡ e) → get_or (set (zeros n) (k + e) v) (k + j) nan ≡ get_or (set (zeros 6) e v) j nan
      go (yes d) =
          let a = length_list_of (λ (i : ℕ). zero64) n in
          let b = length_list_of (λ (i : ℕ). zero64) 6 in
          ap (λ (q : ℕ). get_or (set (zeros n) (k + e) v) (k + q) nan) d ∙ get_or-set_same (zeros n) (k + e) v nan (omega arith) ∙ sym (get_or-set_same (zeros 6) e v nan (omega arith))
          ∙ ap (λ (q : ℕ). get_or (set (zeros 6) e v) q nan) (sym d)
      go (no d) =
          get_or-set_other (zeros n) (k + e) (k + j) v nan (λ c. d (omega arith)) ∙ get_d_list_of (λ i. zero64) n (k + j) nan (omega arith)
          ∙ sym (get_or-set_other (zeros 6) e j v nan d ∙ get_d_list_of (λ i. zero64) 6 j nan l)

  own_pose : (y : List Float) (b : Body) → Own (set (zeros n) (k + e) v) y k (half_size b.size) → pose_at y b (some k) ≡ shifted b (set (zeros 6) e v)
  unfolding pose_at
  own_pose y b g =
      let l = half_size b.size in
      let a0 = six_at 0 k (omega arith) (omega arith) in
      let a1 = six_at 1 (k + 1) (omega arith) (omega arith) in
      let a2 = six_at 2 (k + 2) (omega arith) (omega arith) in
      let b0 = six_at 3 (k + 3) (omega arith) (omega arith) in
      let b1 = six_at 4 (k + 3 + 1) (omega arith) (omega arith) in
      let b2 = six_at 5 (k + 3 + 2) (omega arith) (omega arith) in
      (λ z. moved_pose b (g.slide z) (g.turn z))
      ∙ (λ z. moved_pose b (record { x = a0 z; y = a1 z; z = a2 z }) (record { x = div binary64 (b0 z) l; y = div binary64 (b1 z) l; z = div binary64 (b2 z) l }))

module _ (sheet : List ℕ) (c : SceneStruct) (i k : ℕ) (laid : Laid sheet c) (i-in : i < c.m) (first : get_or (layout (scene_of sheet c)) i none ≡ some k) (fit : k + 6 ≤ c.n) where
  abbrev sc : Scene
  sc = scene_of sheet c

  abbrev b : Body
  b = body_at sheet (c.bodies + 136 * i)

  abbrev scaled : List Float → List Float
  scaled x = scaled_from x sc.bodies (layout sc)

  moved_there : (e : ℕ) (v : Float) → e < 6 → set (poses_at sc (scaled (zeros c.n))) i (shifted b (set (zeros 6) e v)) ≡ poses_at sc (scaled (set (zeros c.n) (k + e) v))
  moved_there e v h =
      let x = set (zeros c.n) (k + e) v in
      let w = shifted b (set (zeros 6) e v) in
      let n = length_list_of (λ (i : ℕ). zero64) c.n in
      let m = length-set (zeros c.n) (k + e) v in
      let g = own sc.rels 0 0 sc.bodies i k x b _ first (bodies_next sheet c i i-in) (omega arith) in
      let l = layout_next sheet c i laid i-in ∙ ap (λ (q : Option ℕ). q ∷ drop (suc i) (layout sc)) (sym (laid.index i i-in) ∙ first) in
      let p = pose_there (scaled x) sc.bodies (layout sc) i b (some k) _ _ (bodies_next sheet c i i-in) l ∙ own_pose c.n k e v fit h (scaled x) b g.1 in
      let far = unknown_far sc i (k + e) (scaled (zeros c.n)) (get_or (scaled x) (k + e) nan) w (record { first = k; given = first; low = omega arith; high = omega arith }) in
      sym far ∙ ap (λ (y : List Float). set (poses_at sc y) i w) (sym (scaled_set (zeros c.n) sc.bodies (layout sc) (k + e) v (omega arith)))
      ∙ ap (λ (q : Pose Float). set (poses_at sc (scaled x)) i q) (sym p)
      ∙ set-get_or (poses_at sc (scaled x)) i ground_pose

  -- the slope by the poses a step ahead and behind
  column_is : (poses : List (Pose Float)) (moved₀ moved steps : List Float) (r e : ℕ) → e < 6 → poses ≡ poses_at sc (scaled (zeros c.n)) → MovedPoses b moved₀ moved → steps ≡ six_steps
      → moved_slope (λ poses. all_rows poses sc.rels) poses i moved steps r e ≡ slope (scaled_rows sc) (zeros c.n) r (k + e)
  unfolding slope
  column_is poses moved₀ moved steps r e h p y q =
      let in_all : k + e < c.n = omega arith in
      let plus = (λ z. set (p z) i (y.ahead e h z)) ∙ moved_there e _ h ∙ ap (λ (x : List Float). poses_at sc (scaled x)) (zero_ahead c.n (k + e) in_all) in
      let minus = (λ z. set (p z) i (y.behind e h z)) ∙ moved_there e _ h ∙ ap (λ (x : List Float). poses_at sc (scaled x)) (zero_behind c.n (k + e) in_all) in
      let step = ap (λ (l : List Float). get_or l e nan) q ∙ step_at e h ∙ zero_step c.n (k + e) in_all in
      λ z. slope_of (get_or (all_rows (plus z) sc.rels) r nan) (get_or (all_rows (minus z) sc.rels) r nan) (step z)

  module _ (p : PartsStruct) (s t moved₀ moved steps : List Float) (b' : Body) (same : b' ≡ b) (wait : Waiting sc c p s k) (y : MovedPoses b' moved₀ moved) (q : steps ≡ six_steps) where
    moved_by : MovedPoses b moved₀ moved
    moved_by = subst (λ (w : Body). MovedPoses w moved₀ moved) same y

    pub six_columns_is : Block s t (p.slopes + k) c.n c.rows 6 (moved_slope (λ poses. all_rows poses sc.rels) (poses_in s p.poses c.m) i moved steps) → ColumnsFrom sc c p s t k (k + 6)
    six_columns_is g =
        record {
          size = g.size;
          entries =
              λ r d h l m.
              let e : k + (d - k) ≡ d = omega arith in
              let w : p.slopes + (r * c.n + d) ≡ p.slopes + k + (r * c.n + (d - k)) = omega arith in
              ap (λ (x : ℕ). get_or t x nan) w ∙ g.entries r (d - k) h (omega arith) ∙ column_is _ moved₀ moved steps r (d - k) (omega arith) wait.poses moved_by q
              ∙ ap (slope (scaled_rows sc) (zeros c.n) r) e;
          others = λ w f. g.others w (λ r e h l m. f r (k + e) h (omega arith) (omega arith) (omega arith));
          order = omega arith;
          within = fit;
        }

-- what `named_columns` asks
pub six_clear : (sc : Scene) (c : SceneStruct) (p : PartsStruct) (s : List Float) (k : ℕ) → k + 6 ≤ c.n → Waiting sc c p s k → Clear s (p.slopes + k) c.n c.rows
six_clear sc c p s k fit wait r e h l =
    let w : p.slopes + k + (r * c.n + e) ≡ p.slopes + (r * c.n + (k + e)) = omega arith in
    ap (λ (x : ℕ). get_or s x nan) w ∙ wait.clear r (k + e) h (omega arith) (omega arith)

pub six_still : (steps : List Float) → steps ≡ six_steps → Steps steps
six_still steps q e h v = ap (slope_of v v) (ap (λ (l : List Float). get_or l e nan) q ∙ step_at e h) ∙ slope_still v zero64

-- ---- a body's columns, by its entry of the index

pub columns_some : (sheet : List ℕ) (c : SceneStruct) (p : PartsStruct) (s t : List Float) (i k : ℕ) → get_or (layout (scene_of sheet c)) i none ≡ some k
    → ColumnsFrom (scene_of sheet c) c p s t k (k + 6)
    → ColumnsFrom (scene_of sheet c) c p s t (given (scene_of sheet c) i) (given (scene_of sheet c) (i + 1))
columns_some sheet c p s t i k e g =
    let sc = scene_of sheet c in
    subst (λ (lo : ℕ). ColumnsFrom sc c p s t lo (given sc (i + 1))) (given_first sc i k e) (subst (λ (hi : ℕ). ColumnsFrom sc c p s t k hi) (given_next sc i k e) g)

pub waiting_some : (sc : Scene) (c : SceneStruct) (p : PartsStruct) (s : List Float) (i k : ℕ) → get_or (layout sc) i none ≡ some k → Waiting sc c p s (given sc i) → Waiting sc c p s k
waiting_some sc c p s i k e g = subst (λ (lo : ℕ). Waiting sc c p s lo) (sym (given_first sc i k e)) g

pub columns_none : (sheet : List ℕ) (c : SceneStruct) (p : PartsStruct) (s : List Float) (i : ℕ) → Laid sheet c → i < c.m → get_or c.index i None ≡ None
    → Waiting (scene_of sheet c) c p s (given (scene_of sheet c) i)
    → ColumnsFrom (scene_of sheet c) c p s s (given (scene_of sheet c) i) (given (scene_of sheet c) (i + 1))
columns_none sheet c p s i laid h e g =
    let w = given_still (scene_of sheet c) i (laid.index i h ∙ ap first_unknown e) in
    record { size = refl; entries = λ r d l m v. absurd (omega arith); others = λ q f. refl; order = omega arith; within = omega (arith, g.within) }

-- ---- all columns

-- the columns below hi are written, and the others wait
pub record Sloped (sc : Scene) (c : SceneStruct) (p : PartsStruct) (s : List Float) (hi : ℕ) : Type 0 where
  pub entries : (r d : ℕ) → r < c.rows → d < hi → get_or s (p.slopes + (r * c.n + d)) nan ≡ slope (scaled_rows sc) (zeros c.n) r d
  pub waiting : Waiting sc c p s hi

module _ (sc : Scene) (c : SceneStruct) (p : PartsStruct) (size : ℕ) (apart : TotalApart c p size) (s t : List Float) (lo hi : ℕ) (y : ColumnsFrom sc c p s t lo hi) where
  -- a place of another column
  other_column : (r d : ℕ) → r < c.rows → d < c.n → (lo ≤ d → d < hi → ⊥) → get_or t (p.slopes + (r * c.n + d)) nan ≡ get_or s (p.slopes + (r * c.n + d)) nan
  other_column r d h l f =
      let w = y.within in
      y.others (p.slopes + (r * c.n + d))
      (λ k e a b m z. let same = column_of r k c.n d e l (omega arith) (omega arith) in f (omega arith) (omega arith))

  -- the poses stand behind
  columns_poses : poses_in t p.poses c.m ≡ poses_in s p.poses c.m
  columns_poses =
      let w = y.within in
      λ z.
      list_of
      (λ i.
      pose_same s t (p.poses + 12 * i) (λ q l k. y.others q (λ r d a b m x. let v = in_rows r d c.n c.rows a (omega arith) in absurd (omega arith))) z)
      c.m

  pub sloped_step : Sloped sc c p s lo → Sloped sc c p t hi
  sloped_step g =
      let o = y.order in
      record {
        entries = λ r d h l. go r d h l (dec_lt d lo);
        waiting =
            record {
              poses = columns_poses ∙ g.waiting.poses;
              clear = λ r d h l m. other_column r d h m (λ a b. absurd (omega arith)) ∙ g.waiting.clear r d h (omega arith) m;
              within = y.within;
            };
      }
    where
      go : (r d : ℕ) → r < c.rows → d < hi → Dec (d < lo) → get_or t (p.slopes + (r * c.n + d)) nan ≡ slope (scaled_rows sc) (zeros c.n) r d
      go r d h l (yes m) = let w = y.within in other_column r d h (omega arith) (λ a b. absurd (omega arith)) ∙ g.entries r d h m
      go r d h l (no m) = y.entries r d h (omega arith) l

-- the zeros scaled where they stand, and the poses there
pub sloped_start : (sheet : List ℕ) (c : SceneStruct) (p : PartsStruct) (s s1 s2 : List Float) → Laid sheet c → TotalApart c p (length s) → part s 0 c.n ≡ zeros c.n
    → part s p.slopes (c.rows * c.n) ≡ zeros (c.rows * c.n)
    → Put s s1 0 c.n (scaled_from (part s 0 c.n) (scene_of sheet c).bodies (layout (scene_of sheet c)))
    → Put s1 s2 p.poses (12 * c.m) (poses_doubles (poses_at (scene_of sheet c) (part s1 0 c.n)))
    → Sloped (scene_of sheet c) c p s2 (given (scene_of sheet c) 0)
unfolding unknowns_in
sloped_start sheet c p s s1 s2 laid apart x j a b =
    let sc = scene_of sheet c in
    let l : length (poses_at sc (part s1 0 c.n)) ≡ c.m
    = length_poses (part s1 0 c.n) sc.bodies (layout sc) (length_layout sc.rels 0 0 sc.bodies) ∙ length_bodies sheet c in
    record {
      entries = λ r d h m. absurd (omega arith);
      waiting =
          record {
            poses =
                poses_there s2 p.poses (12 * c.m) (poses_at sc (part s1 0 c.n)) b.holds (ap (λ (w : ℕ). 12 * w) l) c.m l
                ∙ ap (poses_at sc) (a.holds ∙ ap (λ (w : List Float). scaled_from w sc.bodies (layout sc)) x);
            clear =
                λ r d h m k.
                let w = in_rows r d c.n c.rows h k in
                kept_at_below s1 s2 p.poses (p.poses + 12 * c.m) (p.slopes + (r * c.n + d)) nan (omega arith) b.kept
                ∙ kept_at_above s s1 0 (0 + c.n) (p.slopes + (r * c.n + d)) nan (omega arith) a.kept
                ∙ sym (part_at s p.slopes (c.rows * c.n) (r * c.n + d) nan w)
                ∙ ap (λ (q : List Float). get_or q (r * c.n + d) nan) j
                ∙ get_d_list_of (λ i. zero64) (c.rows * c.n) (r * c.n + d) nan w;
            within = omega arith;
          };
    }

pub sloped_end : (sc : Scene) (c : SceneStruct) (p : PartsStruct) (s t : List Float) (hi : ℕ) → TotalApart c p (length s) → part s 0 c.n ≡ zeros c.n → length t ≡ length s → hi ≡ c.n
    → Sloped sc c p t hi → SlopesBy (scaled_rows sc) s t p.slopes c.n c.rows 0
unfolding jacobian
sloped_end sc c p s t hi apart x k e g =
    let f = scaled_rows sc in
    record {
      size = k;
      holds =
          table_ext (slope f (zeros c.n)) c.n c.rows (part t p.slopes (c.rows * c.n)) (part_length t p.slopes (c.rows * c.n) (omega arith))
          (λ i d u v. part_at t p.slopes (c.rows * c.n) (i * c.n + d) nan (in_rows i d c.n c.rows u v) ∙ g.entries i d u (rw e v))
          ∙ ap (λ (q : ℕ). table_of (slope f (zeros c.n)) q c.rows) (sym (length_list_of (λ i. zero64) c.n))
          ∙ ap (λ (w : List Float). jacobian f w c.rows) (sym x);
    }

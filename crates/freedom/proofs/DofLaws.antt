-- The freedoms of the bodies one after another, to the front of a slice. By scene's laws of lists that grow piece by piece. Assumes nothing.
use Prim.Native.Nat.{ℕ, suc, ◌+◌, ◌-◌, ◌*◌, ◌≤◌, ◌<◌}
use mathlib.Core.Path.{◌≡◌, refl, sym, ap, subst, ◌∙◌}
use mathlib.Core.Bool.{Bool, true, false, cond, not, ◌&&◌}
use mathlib.Core.List.{List, [], ◌∷◌, ◌++◌}
use native.Mathlib.Omega.{arith}
use native.Mathlib.Numerals.{add-one}
use lib.ListN.{length, take, drop}
use lib.Ieee.{Float}
use borrow.Rule.Slice.PartMut.{put_mid, same_len_mid}
use Rattle.spans.specs.Flat.{flat}
use Rattle.relations.specs.Model.{Body, Rel}
use Rattle.least_squares.specs.Lm.{jacobian}
use Rattle.records.specs.Record.{body_at}
use Rattle.scene.specs.Scene.{Put, scene_of, poses_in, poses_doubles}
use Rattle.scene.specs.Solve.{Scene, moves, unknowns, half_size}
use Rattle.body_freedom.specs.Dof.{Freedom, body_dof, body_rows, zeros, freedom_of, freedoms_from, unnamed_from, total_freedom, dof}
use Rattle.scene.specs.declared.scene.Scene.{Scene as SceneStruct}
use Rattle.scene.proofs.SceneLaws.{Growing, growing_start, growing_step, growing_end, bodies_next, length_bodies, drop_whole, put_front}
use Rattle.body_freedom.specs.Layout.{freedom_doubles, freedoms_doubles}
use Rattle.body_freedom.specs.BodyFreedom.{from_square, freedom_struct, struct_doubles}
use Rattle.body_freedom.specs.BodySlopes.{starts, BodySquare}
use Rattle.freedom.specs.Freed.{BodyFreed, BodiesFreed, Freed}
use Rattle.freedom.specs.Total.{Counted}
use Rattle.body_freedom.specs.declared.body.Freedom.{Freedom as FreedomStruct}
use Rattle.body_freedom.proofs.BodyLaws.{body_dof_is, few_slides, few_turns, put_struct}
use Rattle.body_freedom.proofs.BodySlopeLaws.{starts_there}

-- ---- one body

abbrev none : Freedom
none = record { slides = []; turns = [] }

-- what a body may do that is not fixed
abbrev free : Scene → ℕ → Body → Freedom
free sc i b =
    body_dof (jacobian (body_rows sc i b) (zeros 6) (length (body_rows sc i b (zeros 6)))) (length (body_rows sc i b (zeros 6))) b.center (half_size b.size)

freedom_is : (sc : Scene) (i : ℕ) (b : Body) (t : Bool) → b.fixed ≡ t → freedom_of sc i b ≡ cond t none (free sc i b)
unfolding freedom_of
freedom_is sc i b t h = ap (λ (u : Bool). cond u none (free sc i b)) h

pub fixed_as : (a b : Body) (t : Bool) → a ≡ b → a.fixed ≡ t → b.fixed ≡ t
fixed_as a b t e h = sym (ap (λ (w : Body). w.fixed) e) ∙ h

pub freed_fixed : (sc : Scene) (s : List Float) (p m i : ℕ) (d e : List Float) (a b : Body) → a ≡ b → a.fixed ≡ true → poses_in s p m ≡ starts sc
    → Put d e (29 * i) 29 (freedom_doubles (record { slides = []; turns = [] })) → BodyFreed sc s s p m i d e (freedom_of sc i b)
freed_fixed sc s p m i d e a b q h k y =
    record {
      size = refl;
      poses = k;
      filled = subst (λ (f : Freedom). Put d e (29 * i) 29 (freedom_doubles f)) (sym (freedom_is sc i b true (fixed_as a b true q h))) y;
    }

pub freed_free : (sc : Scene) (s t : List Float) (p m i : ℕ) (d e : List Float) (a b : Body) (square : List (List Float)) (l : Float) (f : FreedomStruct) → a ≡ b → a.fixed ≡ false
    → BodySquare sc s t p m i b square → l ≡ half_size a.size → f ≡ freedom_struct (from_square (flat 6 square) a.center l)
    → Put d e (29 * i) 29 (struct_doubles f) → BodyFreed sc s t p m i d e (freedom_of sc i b)
freed_free sc s t p m i d e a b square l f q h x n g y =
    let w = from_square (flat 6 square) a.center l in
    let k : l ≡ half_size b.size = n ∙ ap (λ (v : Body). half_size v.size) q in
    let r : w ≡ free sc i b = (λ z. from_square (x.square z) (q z).center (k z)) ∙ sym (body_dof_is _ _ b.center (half_size b.size)) in
    record {
      size = x.size;
      poses = x.poses;
      filled =
          subst (λ (v : Freedom). Put d e (29 * i) 29 (freedom_doubles v)) (r ∙ sym (freedom_is sc i b false (fixed_as a b false q h)))
          (put_struct d e (29 * i) f w g (few_slides (flat 6 square) a.center l) (few_turns (flat 6 square) a.center l) y);
    }

-- ---- the bodies one after another

-- the doubles of the freedoms from body i on
abbrev pub rest : List ℕ → SceneStruct → ℕ → List Float
rest sheet c i = freedoms_doubles (freedoms_from (scene_of sheet c) i (drop i (scene_of sheet c).bodies))

rest_cons : (sc : Scene) (i : ℕ) (b : Body) (bodies : List Body)
    → freedoms_doubles (freedoms_from sc i (b ∷ bodies)) ≡ freedom_doubles (freedom_of sc i b) ++ freedoms_doubles (freedoms_from sc (suc i) bodies)
unfolding freedoms_from freedoms_doubles
rest_cons sc i b bodies = refl

rest_next : (sheet : List ℕ) (c : SceneStruct) (i : ℕ) → i < c.m
    → rest sheet c i ≡ freedom_doubles (freedom_of (scene_of sheet c) i (body_at sheet (c.bodies + 136 * i))) ++ rest sheet c (i + 1)
rest_next sheet c i h =
    rw add-one
    (ap (λ (l : List Body). freedoms_doubles (freedoms_from (scene_of sheet c) i l)) (bodies_next sheet c i h)
    ∙ rest_cons (scene_of sheet c) i (body_at sheet (c.bodies + 136 * i)) (drop (suc i) (scene_of sheet c).bodies))

rest_done : (sheet : List ℕ) (c : SceneStruct) (i : ℕ) → i ≡ c.m → rest sheet c i ≡ []
unfolding freedoms_from freedoms_doubles
rest_done sheet c i e =
    ap (λ (l : List Body). freedoms_doubles (freedoms_from (scene_of sheet c) i l)) (drop_whole (scene_of sheet c).bodies i (length_bodies sheet c ∙ sym e))

-- the freedoms of the bodies before i stand at the front of e, and the starting poses in t
pub record Passed (sheet : List ℕ) (c : SceneStruct) (s t d e : List Float) (p i : ℕ) : Type 0 where
  pub within : i ≤ c.m
  pub size : length t ≡ length s
  pub poses : poses_in t p c.m ≡ starts (scene_of sheet c)
  pub filled : Growing d e 0 (29 * i) (rest sheet c i) (rest sheet c 0)

pub none_passed : (sheet : List ℕ) (c : SceneStruct) (s t d : List Float) (p : ℕ) → Put s t p (12 * c.m) (poses_doubles (starts (scene_of sheet c))) → Passed sheet c t t d d p 0
none_passed sheet c s t d p y = record { within = omega arith; size = refl; poses = starts_there sheet c s t p y; filled = growing_start d 0 (rest sheet c 0) }

pub one_passed : (sheet : List ℕ) (c : SceneStruct) (s t u d e g : List Float) (p i : ℕ) → i < c.m → Passed sheet c s t d e p i
    → BodyFreed (scene_of sheet c) t u p c.m i e g (freedom_of (scene_of sheet c) i (body_at sheet (c.bodies + 136 * i))) → Passed sheet c s u d g p (i + 1)
one_passed sheet c s t u d e g p i h x y =
    record {
      within = omega arith;
      size = y.size ∙ x.size;
      poses = y.poses;
      filled = growing_step d e g 0 (29 * i) (29 * i) 29 (29 * (i + 1)) _ _ _ _ (omega arith) (omega arith) (rest_next sheet c i h) x.filled y.filled;
    }

pub all_passed : (sheet : List ℕ) (c : SceneStruct) (r s t d e : List Float) (p i : ℕ) → c.m ≤ i → length s ≡ length r → Passed sheet c s t d e p i
    → BodiesFreed (scene_of sheet c) c.m r t d e
unfolding dof
all_passed sheet c r s t d e p i h n x =
    let k : i ≡ c.m = omega (arith, x.within) in
    record {
      size = x.size ∙ n;
      freedoms_are =
          subst (λ (w : ℕ). e ≡ rest sheet c 0 ++ drop (29 * w) d) k
          (put_front d e (29 * i) (rest sheet c 0) (growing_end d e 0 (29 * i) _ _ (rest_done sheet c i k) x.filled));
    }

-- ---- the bodies and the whole

-- the part lent from a on is back, with the size that it had; the whole assembly's freedom comes last
pub freed_is : (sc : Scene) (m a : ℕ) (s q u d e : List Float) (total : ℕ) → BodiesFreed sc m (take (length s - a) (drop a s)) q d e
    → Counted sc (put_mid a (length s - a) s q) u total → Freed sc m s u d e total
unfolding dof
freed_is sc m a s q u d e total x y =
    record { size = y.size ∙ same_len_mid a (length s - a) s q x.size; freedoms_are = x.freedoms_are; total_is = y.total_is }

-- ---- how many there are

six_or_none : (t : Bool) (a n : ℕ) → a ≤ 6 * n → cond t 6 0 + a ≤ 6 * suc n
six_or_none true a n h = omega arith
six_or_none false a n h = omega arith

unnamed_few : (rels : List Rel) (i : ℕ) (bodies : List Body) → unnamed_from rels i bodies ≤ 6 * length bodies
unfolding unnamed_from
unnamed_few rels i [] = omega arith
unnamed_few rels i (b ∷ bodies) = six_or_none (not b.fixed && not (moves rels i b)) _ (length bodies) (unnamed_few rels (suc i) bodies)

pub total_few : (sc : Scene) → total_freedom sc ≤ unknowns sc + 6 * length sc.bodies
unfolding total_freedom
total_few sc = omega (arith, unnamed_few sc.rels 0 sc.bodies)

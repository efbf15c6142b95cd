-- A formula over `Ops` bounded by evaluation. Read on `bounded`, whose numbers carry a double, a fraction, a bound and the proof that they are near, it is its own proof: the
-- double is the formula on doubles, the fraction the formula on fractions, the bound the formula on `bounds`. Assumes nothing.
use Prim.Native.Nat.{ℕ, zero, suc, ◌+◌, ◌*◌, ◌/◌, ◌≤◌, ◌<◌, max}
use native.Mathlib.Nat.{not-suc-le-zero, le_of_suc-le-suc, le_trans, mul-le-mul_right, le_of_mul-le-mul_right, le-max_left, le-max_right, lt-div-mul-add}
use native.Mathlib.Omega.{arith}
use mathlib.Core.Bool.{Bool, true, false, ◌&&◌, cond}
use mathlib.Core.List.{List, [], ◌∷◌, map}
use lib.ListN.{length, get_or}
use lib.Dec.{T, leb, leb→le}
use lib.IntN.{ℤ}
use lib.Ieee.{Float, nan, inf, fin, up, down, binary64, add, sub, mul, neg, le}
use lib.Ieee.Fits.{and_l, and_r, down_pos}
use Rattle.numbers.specs.Frac.{Frac, frac_of, add_q, sub_q, mul_q, neg_q, lt_q, max_q}
use Rattle.numbers.specs.Double.{abs, fmax}
use Rattle.numbers.specs.Ops.{Ops}
use Rattle.numbers.specs.Close.{Mag}
use Rattle.numbers.proofs.CloseLaws.{AtMost, ring}
use Rattle.numbers.specs.Near.{Bound, Near, S, signed, parts_of, add_bound, mul_bound, exactly}
use Rattle.numbers.specs.Bound.{max_bound, const_bound, Small, AllSmall}
use Rattle.numbers.proofs.NearLaws.{near_add, near_sub, near_mul, near_neg, near_self}
use Rattle.numbers.proofs.Largest.{Within, AllWithin, within_max}
use Rattle.numbers.proofs.DiffersLaws.{near_within}
use Rattle.numbers.proofs.ValueOrder.{le_says}

-- ---- the larger of two
loosen : (x : Float) (X : Frac) (b : Bound) (e : ℕ) → b.off ≤ e → Near x X b → Within S e x X
loosen x X b e l h = near_within S e x X b (mul-le-mul_right S l) h

pub near_max : (x y : Float) (X Y : Frac) (b c : Bound) → (T b.ok → Near x X b) → (T c.ok → Near y Y c) → T (max_bound b c).ok → Near (fmax x y) (max_q X Y) (max_bound b c)
unfolding max_q
near_max x y X Y b c h' k' t =
    let h = h' (and_l b.ok c.ok t) in
    let k = k' (and_r b.ok c.ok t) in
    let w = within_max S (max b.off c.off) x y X Y (loosen x X b _ (le-max_left b.off c.off) h) (loosen y Y c _ (le-max_right b.off c.off) k) in
    record {
      finite_number = w.finite_number;
      den_pos = w.den_pos;
      most = larger (lt_q X Y) (le_trans h.most (mul-le-mul_right X.den (le-max_left b.most c.most))) (le_trans k.most (mul-le-mul_right Y.den (le-max_right b.most c.most)));
      close = w.close;
    }
  where
    larger : (t : Bool) → Mag S (parts_of X) (max b.most c.most) → Mag S (parts_of Y) (max b.most c.most) → Mag S (parts_of (cond t Y X)) (max b.most c.most)
    larger true h k = k
    larger false h k = h

-- ---- a constant
const_small : (s : Bool) (m : ℕ) (e : ℤ) → Small (m * up e * S / down e + 1) (fin s m e)
const_small true m e = let h = lt-div-mul-add {a = m * up e * S} {b = down e} (down_pos e) in (tt, omega arith)
const_small false m e = let h = lt-div-mul-add {a = m * up e * S} {b = down e} (down_pos e) in (tt, omega arith)

pub near_const : (x : Float) → T (const_bound x).ok → Near x (frac_of x) (const_bound x)
unfolding const_bound
near_const nan t = absurd t
near_const (inf s) t = absurd t
near_const (fin s m e) t = let h = const_small s m e in near_self (fin s m e) (m * up e * S / down e + 1) h.0 h.1

-- ---- the numbers that carry the proof
pub record Bounded : Type 0 where
  pub double : Float
  pub frac : Frac
  pub bound : Bound
  pub near : T bound.ok → Near double frac bound

abbrev pub bounded : Ops Bounded
bounded =
    record {
      add = λ u v. record { double = add binary64 u.double v.double; frac = add_q u.frac v.frac; bound = add_bound u.bound v.bound; near = near_add u.double v.double u.frac v.frac u.bound v.bound u.near v.near };
      sub = λ u v. record { double = sub binary64 u.double v.double; frac = sub_q u.frac v.frac; bound = add_bound u.bound v.bound; near = near_sub u.double v.double u.frac v.frac u.bound v.bound u.near v.near };
      mul = λ u v. record { double = mul binary64 u.double v.double; frac = mul_q u.frac v.frac; bound = mul_bound u.bound v.bound; near = near_mul u.double v.double u.frac v.frac u.bound v.bound u.near v.near };
      neg = λ u. record { double = neg u.double; frac = neg_q u.frac; bound = u.bound; near = λ t. near_neg u.double u.frac u.bound (u.near t) };
      max = λ u v. record { double = fmax u.double v.double; frac = max_q u.frac v.frac; bound = max_bound u.bound v.bound; near = near_max u.double v.double u.frac v.frac u.bound v.bound u.near v.near };
      of = λ x. record { double = x; frac = frac_of x; bound = const_bound x; near = near_const x };
    }

-- a double of magnitude at most m / S
abbrev pub input : (m : ℕ) (x : Float) → Small m x → Bounded
input m x h = record { double = x; frac = frac_of x; bound = exactly m; near = λ t. near_self x m h.0 h.1 }

-- ---- lists of them
pub small_at : (m : ℕ) (l : List Float) (k : ℕ) (d : Float) → AllSmall m l → k < length l → Small m (get_or l k d)
small_at m [] k d a h = absurd (not-suc-le-zero h)
small_at m (x ∷ l) zero d a h = a.0
small_at m (x ∷ l) (suc k) d a h = small_at m l k d a.1 (le_of_suc-le-suc h)

-- ---- rows of them, within 1 / R
abbrev pub good : ℕ → Bound → Bool
good R b = b.ok && leb (b.off * R) S

abbrev pub all_good : ℕ → List Bounded → Bool
all_good R [] = true
all_good R (a ∷ l) = good R a.bound && all_good R l

pub one_within : (R : ℕ) (a : Bounded) → T (good R a.bound) → Within R 1 a.double a.frac
one_within R a t =
    let l = leb→le (a.bound.off * R) S (and_r a.bound.ok _ t) in
    near_within R 1 a.double a.frac a.bound (omega arith) (a.near (and_l a.bound.ok _ t))

pub all_within_lem : (R : ℕ) (l : List Bounded) → T (all_good R l) → AllWithin R 1 (map (λ a. a.double) l) (map (λ a. a.frac) l)
all_within_lem R [] t = tt
all_within_lem R (a ∷ l) t = (one_within R a (and_l (good R a.bound) _ t), all_within_lem R l (and_r (good R a.bound) _ t))

-- ---- from a comparison of doubles
fill : (S a o n d m : ℕ) → 0 < d → AtMost (signed false a o) (signed false n d) → n * S ≤ m * d → a * S ≤ m * o
fill S a o n d m D h k = le_of_mul-le-mul_right (simp ring (omega (arith, simp ring at (mul-le-mul_right S h), simp ring at (mul-le-mul_right o k)))) D

-- |x| at most the double n * 2 ^ d, which is at most m / S
pub small_of_le : (x : Float) (n : ℕ) (d : ℤ) (m : ℕ) → T (le (abs x) (fin false n d)) → n * up d * S ≤ m * down d → Small m x
unfolding abs le
small_of_le nan n d m t h = absurd t
small_of_le (inf s) n d m t h = absurd t
small_of_le (fin s a e) n d m t h = (tt, go s (fill S (a * up e) (down e) (n * up d) (down d) m (down_pos d) both h))
  where
    both : AtMost (signed false (a * up e) (down e)) (signed false (n * up d) (down d))
    both = omega (arith, le_says (a * up e * down d) (n * up d * down e) _ t)

    go : (s : Bool) → a * up e * S ≤ m * down e → Mag S (signed s (a * up e) (down e)) m
    go false h = omega arith
    go true h = omega arith

-- The sorted pairs of `sym_eigen` and the sorted vectors of `span_basis` are a rearrangement of the unsorted, in order, and stable; the basis has at most three vectors. Document 01, "The train of files", item 3.
-- Assumes nothing.
use Prim.Native.Nat.{ℕ, ◌≤◌}
use mathlib.Core.Path.{◌≡◌, refl}
use mathlib.Core.Bool.{Bool, true, false, cond, ◌&&◌}
use mathlib.Core.List.{List, [], ◌∷◌, ◌++◌, Perm}
use native.Mathlib.Omega.{arith}
use borrow.Author.Tests.{ltb-true}
use lib.ListN.{length, length-append}
use lib.Dec.{ltb}
use lib.Ieee.{Float, binary64, mul, lt, le}
use Rattle.numbers.specs.Double.{zero64}
use Rattle.vectors.specs.Vec.{Vec, len, normalized}
use Rattle.eigen.specs.Sort.{sort, Order, Ordered, level, keep}
use Rattle.eigen.proofs.SortLaws.{order_up, order_down, sort_rearranges, sort_ordered, sort_stable}
use Rattle.eigen.proofs.BeforeLaws.{before_order}
use Rattle.eigen.specs.Eigen.{Eigen, lower, sym_eigen}
use Rattle.spans.specs.Sorted.{unsorted}
use Rattle.spans.specs.Span.{longest, without, longer, join, joined, span_basis}

-- eigenvalues upward by `total_cmp`
pub lower_order : Order lower
lower_order = order_up before_order (λ (e : Eigen). e.value)

-- lengths downward by `total_cmp`
pub longer_order : Order longer
longer_order = order_down before_order len

pub eigen_rearranges : (n : ℕ) (a : List Float) → Perm (sym_eigen n a) (unsorted n a)
unfolding sym_eigen
eigen_rearranges n a = sort_rearranges lower (unsorted n a)

pub eigen_ordered : (n : ℕ) (a : List Float) → Ordered lower (sym_eigen n a)
unfolding sym_eigen
eigen_ordered n a = sort_ordered lower lower_order (unsorted n a)

pub eigen_stable : (n : ℕ) (a : List Float) (e : Eigen) → keep (level lower e) (sym_eigen n a) ≡ keep (level lower e) (unsorted n a)
unfolding sym_eigen
eigen_stable n a e = sort_stable lower lower_order e (unsorted n a)

pub span_rearranges : (vs : List (Vec Float)) → Perm (sort longer vs) vs
span_rearranges vs = sort_rearranges longer vs

pub span_ordered : (vs : List (Vec Float)) → Ordered longer (sort longer vs)
span_ordered vs = sort_ordered longer longer_order vs

pub span_stable : (vs : List (Vec Float)) (v : Vec Float) → keep (level longer v) (sort longer vs) ≡ keep (level longer v) vs
span_stable vs v = sort_stable longer longer_order v vs

-- ---- the basis has at most three vectors

length_join : (least : Float) (out : List (Vec Float)) (v : Vec Float) → length out ≤ 3 → length (join least out v) ≤ 3
unfolding join
length_join least out v h = go (lt least (len (without v out))) (ltb (length out) 3) refl
  where
    go : (a b : Bool) → ltb (length out) 3 ≡ b → length (cond (a && b) (out ++ (normalized (without v out) ∷ [])) out) ≤ 3
    go true true e = rw (length-append out (normalized (without v out) ∷ [])) (omega (arith, ltb-true (length out) 3 e))
    go true false e = h
    go false b e = h

length_joined : (least : Float) (out vs : List (Vec Float)) → length out ≤ 3 → length (joined least out vs) ≤ 3
unfolding joined
length_joined least out [] h = h
length_joined least out (v ∷ vs) h = length_joined least (join least out v) vs (length_join least out v h)

pub span_few : (vs : List (Vec Float)) (rel : Float) → length (span_basis vs rel) ≤ 3
unfolding span_basis
span_few vs rel = go (le (longest vs zero64) zero64)
  where
    found : List (Vec Float)
    found = joined (mul binary64 rel (longest vs zero64)) [] (sort longer vs)

    go : (b : Bool) → length (cond b [] found) ≤ 3
    go true = omega arith
    go false = length_joined (mul binary64 rel (longest vs zero64)) [] (sort longer vs) (omega arith)

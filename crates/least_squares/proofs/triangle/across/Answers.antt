-- `least_squares::triangle::across`. The invariant: the entries right of the diagonal up to k are those below it, and all else is as at entry; k places on from `at` stands the
-- entry in row k of the triangle. The measure is the entries to come. Assumes nothing.
use mathlib.Core.Path.{◌≡◌, refl}
use Prim.Native.Nat.{◌+◌}
use native.Mathlib.Omega.{arith}
use Rattle.least_squares.proofs.MemoryLaws.{kept_refl}
use Rattle.least_squares.proofs.TriangleLaws.{triangle_next, in_triangle}
use Rattle.least_squares.proofs.SpreadLaws.{across_step}
use Rattle.least_squares.proofs.triangle.across.Goals as goal

pub places-requires : goal.places-requires
places-requires c =
    omega arith

-- the diagonal entry lies in the triangle
pub overflow_add-at : goal.overflow_add-at
overflow_add-at c = let g = c.args in omega (arith, c.places.ensures, in_triangle g.i g.i g.rows (omega arith) (omega arith))

pub overflow_add-at-2 : goal.overflow_add-at-2
overflow_add-at-2 c = let g = c.args in omega (arith, c.places.ensures, in_triangle g.i g.i g.rows (omega arith) (omega arith))

pub loop-k-init : goal.loop-k-init
loop-k-init c =
    let e = c.places.ensures in
    let n = triangle_next c.args.i in
    (omega arith, omega arith, omega arith, kept_refl _ _ _, λ j h l. absurd (omega arith))

-- the entry in row k of the triangle lies in it
pub overflow_add-at-in-loop-k : goal.overflow_add-at-in-loop-k
overflow_add-at-in-loop-k c = let g = c.args in omega (arith, c.loop-k.invariant.3.size, in_triangle c.loop-k.k g.i g.rows (omega arith) (omega arith))

pub offset_bounds-s-at : goal.offset_bounds-s-at
offset_bounds-s-at c = let g = c.args in omega (arith, c.loop-k.invariant.3.size, in_triangle c.loop-k.k g.i g.rows (omega arith) (omega arith))

pub bounds-s-at : goal.bounds-s-at
bounds-s-at c = let g = c.args in omega (arith, c.loop-k.invariant.3.size, in_triangle c.loop-k.k g.i g.rows (omega arith) (omega arith))

pub loop-k-preserved : goal.loop-k-preserved
loop-k-preserved c =
    let g = c.args in
    let k = c.loop-k.k in
    let n = triangle_next k in
    let r = across_step g.s.now c.loop-k.s _ g.a g.b g.i g.rows k (c.loop-k.at + k) (omega arith) (omega arith) (omega arith) (omega arith) c.loop-k.invariant.3 c.loop-k.invariant.4 c.loop-k.invariant.2 refl in
    (omega arith, omega arith, omega arith, r.0, r.1)

pub returns : goal.returns
returns c =
    let e : c.loop-k.k ≡ c.args.rows = omega arith in
    record { entries = λ k h l. c.loop-k.invariant.4 k h (rw e l); kept = c.loop-k.invariant.3 }

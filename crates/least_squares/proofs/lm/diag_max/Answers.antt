-- `least_squares::lm::diag_max` meets its contract. The invariant: m is the largest of 0 and the first i entries of the diagonal (`diag_to`), each read from the triangle's place
-- (`diagonal_at`). The measure is the rows to come; the last call of `max` is the definition's bound from below. Assumes nothing.
use mathlib.Core.Path.{◌≡◌, refl}
use Prim.Native.Nat.{ℕ, ◌+◌, ◌<◌}
use native.Mathlib.Omega.{arith}
use native.Mathlib.Numerals.{add-one}
use Rattle.least_squares.specs.Lm.{diag_to}
use Rattle.least_squares.specs.Triangle.{triangle}
use Rattle.least_squares.proofs.TriangleLaws.{in_triangle, diagonal_at}
use Rattle.least_squares.proofs.lm.diag_max.Goals as goal

-- the diagonal entry lies in the triangle
diagonal_in : (i rows : ℕ) → i < rows → triangle i + i < triangle rows
diagonal_in i rows h = in_triangle i i rows (omega arith) h

pub loop-i-init : goal.loop-i-init
unfolding diag_to
loop-i-init c = (omega arith, refl)

pub places-requires : goal.places-requires
places-requires c =
    omega arith

pub overflow_add-a : goal.overflow_add-a
overflow_add-a c = omega (arith, c.places.ensures, diagonal_in c.loop-i.i c.args.rows (omega arith))

pub overflow_add-a-in-loop-i : goal.overflow_add-a-in-loop-i
overflow_add-a-in-loop-i c = omega (arith, c.places.ensures, diagonal_in c.loop-i.i c.args.rows (omega arith))

pub offset_bounds-s-a : goal.offset_bounds-s-a
offset_bounds-s-a c = omega (arith, c.places.ensures, diagonal_in c.loop-i.i c.args.rows (omega arith))

pub bounds-s-a : goal.bounds-s-a
bounds-s-a c = omega (arith, c.places.ensures, diagonal_in c.loop-i.i c.args.rows (omega arith))

pub loop-i-preserved : goal.loop-i-preserved
unfolding diag_to
loop-i-preserved c =
    let g = c.args in
    let i = c.loop-i.i in
    let h : i < g.rows = omega arith in
    (omega arith, rw (add-one, diagonal_at g.s.now g.a g.rows i h, ← c.loop-i.invariant.1, ← c.places.ensures) c.max-m.ensures)

pub returns : goal.returns
returns c =
    let e : c.loop-i.i ≡ c.args.rows = omega arith in
    rw (c.max.ensures, c.loop-i.invariant.1, e)

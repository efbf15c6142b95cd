-- `least_squares::triangle::spread`. The invariant: the first i rows of the square are those of the whole matrix, and nothing outside the square is changed, so that the triangle is as at
-- entry. One more row is what is copied of it and what `across` adds (`square_step`); all rows are the matrix (`square_all`). The measure is the rows to come. Assumes
-- nothing.
use mathlib.Core.Path.{◌≡◌}
use native.Mathlib.Nat.{not-suc-le-zero}
use native.Mathlib.Omega.{arith}
use Rattle.least_squares.specs.Memory.{part}
use Rattle.least_squares.specs.Triangle.{triangle}
use Rattle.least_squares.proofs.MemoryLaws.{kept_refl}
use Rattle.least_squares.proofs.TriangleLaws.{row_in_triangle}
use Rattle.least_squares.proofs.LmLaws.{row_fits}
use Rattle.least_squares.proofs.SpreadLaws.{square_step, square_all}
use Rattle.least_squares.proofs.triangle.spread.Goals as goal

pub loop-i-init : goal.loop-i-init
loop-i-init c =
    (omega arith, kept_refl _ _ _, λ p h k l. absurd (not-suc-le-zero h))

-- row i of the triangle ends where the triangle does, at the latest, row i of the square where the square does, and the scratch is as long as at entry
pub overflow_add-a : goal.overflow_add-a
overflow_add-a c = omega (arith, c.places.ensures, row_in_triangle c.loop-i.i c.args.rows (omega arith), c.loop-i.invariant.1.size)

pub copy-requires : goal.copy-requires
copy-requires c =
    let i = c.loop-i.i in
    let rows = c.args.rows in
    omega (arith, c.places.ensures, row_in_triangle i rows (omega arith), row_fits i rows rows (omega arith), c.loop-i.invariant.1.size)

pub across-requires : goal.across-requires
across-requires c =
    let i = c.loop-i.i in
    let rows = c.args.rows in
    omega (arith, c.copy.ensures.kept.size, row_in_triangle i rows (omega arith), row_fits i rows rows (omega arith), c.loop-i.invariant.1.size)

pub loop-i-preserved : goal.loop-i-preserved
loop-i-preserved c =
    let g = c.args in
    let copied = rw c.places.ensures at c.copy.ensures in
    let r = square_step g.s.now c.loop-i.s c.copy.new.s c.across.new.s g.a g.b c.loop-i.i g.rows (omega arith) (omega arith) c.loop-i.invariant.1 copied c.across.ensures c.loop-i.invariant.2 in
    (omega arith, r.0, r.1)

pub returns : goal.returns
returns c =
    let g = c.args in
    let e : c.loop-i.i ≡ g.rows = omega arith in
    let z = c.loop-i.invariant.1.size in
    record { square = square_all (part g.s.now g.a (triangle g.rows)) c.loop-i.s g.b g.rows (omega arith) (rw e at c.loop-i.invariant.2); kept = c.loop-i.invariant.1 }

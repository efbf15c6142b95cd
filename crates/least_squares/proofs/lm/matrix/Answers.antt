-- `least_squares::lm::matrix` meets its contract. The invariant: the first i rows up to the diagonal are the definition's for the slopes and weights at entry, and nothing outside
-- the triangle is changed, so that the next row has the same slopes and weights (`lower_step`). From all rows the whole matrix is read (`lower_all`). The measure is the
-- rows to come. Assumes nothing.
use mathlib.Core.Path.{◌≡◌, refl, sym, subst, ◌∙◌}
use Prim.Native.Nat.{ℕ, ◌+◌, ◌*◌}
use native.Mathlib.Nat.{not-suc-le-zero}
use native.Mathlib.Omega.{arith}
use Rattle.least_squares.specs.Filled.{FiniteAt}
use Rattle.least_squares.specs.Triangle.{triangle}
use Rattle.least_squares.proofs.MemoryLaws.{kept_refl}
use Rattle.least_squares.proofs.TriangleLaws.{row_in_triangle}
use Rattle.least_squares.proofs.LmLaws.{row_fits, lower_step, lower_all}
use Rattle.least_squares.proofs.ColumnLaws.{finite_front, finite_above}
use Rattle.least_squares.proofs.lm.matrix.Goals as goal

pub loop-i-init : goal.loop-i-init
loop-i-init c = let e = c.places.ensures in (omega arith, omega arith, kept_refl _ _ _, (λ p h k l. absurd (not-suc-le-zero h)), refl)

pub places-requires-in-loop-i : goal.places-requires-in-loop-i
places-requires-in-loop-i c =
    omega arith

-- row i of the triangle ends where the triangle does, at the latest
pub overflow_add-a : goal.overflow_add-a
overflow_add-a c = omega (arith, c.places-in-loop-i.ensures, row_in_triangle c.loop-i.i c.args.rows (omega arith))

pub matrix_row-requires : goal.matrix_row-requires
matrix_row-requires c =
    let g = c.args in
    let o = g.s.now in
    let s = c.loop-i.s in
    let a = g.rows * g.n in
    let kept = c.loop-i.invariant.2 in
    let e = c.places-in-loop-i.ensures in
    let z = kept.size in
    let row = row_in_triangle c.loop-i.i g.rows (omega arith) in
    let slopes = row_fits c.loop-i.i g.n g.rows (omega arith) in record {
      i_bound = (omega arith, omega arith, let z = c.loop-i.invariant.4 in omega arith);
      n_bound = omega (arith, row, slopes);
      i_bound_2 = omega (arith, row, slopes);
      n_in_bounds = omega (arith, row, slopes);
      finite_at = (
        finite_front o s (c.loop-i.i * g.n + g.n) a a (a + triangle g.rows) slopes (omega arith) kept c.requires.finite_at.0,
        subst (λ (w : ℕ). FiniteAt s w g.n) (sym c.loop-i.invariant.1) (finite_above o s (a + triangle g.rows) g.n a (a + triangle g.rows) (omega arith) kept c.requires.finite_at.1),
      );
    }

pub loop-i-preserved : goal.loop-i-preserved
loop-i-preserved c =
    let g = c.args in
    let row = rw (c.places-in-loop-i.ensures, c.loop-i.invariant.1) at c.matrix_row.ensures in
    let r = lower_step g.s.now c.loop-i.s c.matrix_row.new.s c.loop-i.i g.n g.rows (g.rows * g.n) (g.rows * g.n + triangle g.rows) (omega arith) (omega arith) (omega arith) c.loop-i.invariant.2 c.loop-i.invariant.3 row in
    (omega arith, c.loop-i.invariant.1, r.0, r.1, c.matrix_row.auto.list ∙ c.loop-i.invariant.4)

pub returns : goal.returns
returns c =
    let g = c.args in
    let e : c.loop-i.i ≡ g.rows = omega arith in
    record { matrix = lower_all g.s.now c.loop-i.s g.n g.rows (g.rows * g.n) (g.rows * g.n + triangle g.rows) (rw e at c.loop-i.invariant.3); kept = c.loop-i.invariant.2 }

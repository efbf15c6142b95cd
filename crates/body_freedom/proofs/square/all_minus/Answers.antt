-- `body_freedom::square::all_minus` meets its contract. The loop's invariant: the products of the rows below r are -0. The measure is the rows to come. Assumes nothing.
use mathlib.Core.Path.{◌≡◌, refl, sym, ◌∙◌}
use mathlib.Core.Bool.{true, false}
use Prim.Native.Nat.{◌+◌, ◌*◌, ◌<◌}
use native.Mathlib.Omega.{arith}
use Rattle.least_squares.proofs.TableLaws.{in_rows}
use Rattle.numbers.specs.Zeros.{is_minus, all_minus}
use Rattle.body_freedom.specs.Square.{products_in}
use Rattle.body_freedom.proofs.SquareLaws.{all_minus_more, all_minus_not}
use Rattle.body_freedom.proofs.square.all_minus.Goals as goal

pub loop-r-init : goal.loop-r-init
unfolding all_minus
loop-r-init c = (omega arith, refl)

pub overflow_mul-o : goal.overflow_mul-o
overflow_mul-o c =
    let in-i : let g = c.args in c.loop-r.r * g.n + g.i < g.rows * g.n =
    in_rows _ _ _ _ c.loop-r-test.true c.requires.i_lt_n.0 in
    omega (arith, in-i)

pub overflow_add-o : goal.overflow_add-o
overflow_add-o c =
    let in-i : let g = c.args in c.loop-r.r * g.n + g.i < g.rows * g.n =
    in_rows _ _ _ _ c.loop-r-test.true c.requires.i_lt_n.0 in
    omega (arith, in-i)

pub offset_bounds-s-o : goal.offset_bounds-s-o
offset_bounds-s-o c =
    let in-i : let g = c.args in c.loop-r.r * g.n + g.i < g.rows * g.n =
    in_rows _ _ _ _ c.loop-r-test.true c.requires.i_lt_n.0 in
    omega (arith, in-i)

pub bounds-s-o : goal.bounds-s-o
bounds-s-o c =
    let in-i : let g = c.args in c.loop-r.r * g.n + g.i < g.rows * g.n =
    in_rows _ _ _ _ c.loop-r-test.true c.requires.i_lt_n.0 in
    omega (arith, in-i)

pub overflow_add-o-in-loop-r : goal.overflow_add-o-in-loop-r
overflow_add-o-in-loop-r c =
    let in-k : let g = c.args in c.loop-r.r * g.n + g.k < g.rows * g.n =
    in_rows _ _ _ _ c.loop-r-test.true c.requires.i_lt_n.1 in
    omega (arith, in-k)

pub offset_bounds-s-o-in-loop-r : goal.offset_bounds-s-o-in-loop-r
offset_bounds-s-o-in-loop-r c =
    let in-k : let g = c.args in c.loop-r.r * g.n + g.k < g.rows * g.n =
    in_rows _ _ _ _ c.loop-r-test.true c.requires.i_lt_n.1 in
    omega (arith, in-k)

pub bounds-s-o-in-loop-r : goal.bounds-s-o-in-loop-r
bounds-s-o-in-loop-r c =
    let in-k : let g = c.args in c.loop-r.r * g.n + g.k < g.rows * g.n =
    in_rows _ _ _ _ c.loop-r-test.true c.requires.i_lt_n.1 in
    omega (arith, in-k)

pub returns-then-not-is_minus : goal.returns-then-not-is_minus
returns-then-not-is_minus c =
    let g = c.args in
    let m : is_minus (products_in g.s.now g.n g.i g.k c.loop-r.r) ≡ false = sym c.is_minus.ensures ∙ c.if-not-is_minus.true in
    sym (all_minus_not (products_in g.s.now g.n g.i g.k) g.rows c.loop-r.r (omega arith) m)

pub loop-r-preserved : goal.loop-r-preserved
loop-r-preserved c =
    let g = c.args in
    let m : is_minus (products_in g.s.now g.n g.i g.k c.loop-r.r) ≡ true = sym c.is_minus.ensures ∙ c.if-not-is_minus.false in
    (omega arith, all_minus_more (products_in g.s.now g.n g.i g.k) c.loop-r.r c.loop-r.invariant.1 m)

pub returns : goal.returns
returns c =
    let g = c.args in
    let e : c.loop-r.r ≡ g.rows = omega arith in
    rw (← e) (sym c.loop-r.invariant.1)

-- `slopes::moved::put_slopes` meets its contract. The invariant: the first r slopes are written and no other place has changed. The measure is the slopes to come. Assumes nothing.
use mathlib.Core.Path.{◌≡◌, sym}
use native.Mathlib.Omega.{arith}
use lib.Ieee.{nan}
use lib.Seq.{get_or-take}
use Rattle.relations.specs.Rows.{rows_of}
use Rattle.least_squares.specs.Lm.{slope_of}
use Rattle.slopes.proofs.MovedLaws.{strided_start, strided_step, strided_as}
use Rattle.slopes.proofs.moved.put_slopes.Goals as goal

pub loop-r-init : goal.loop-r-init
loop-r-init c = (omega arith, strided_start _ _ _ _)

pub overflow_mul-s : goal.overflow_mul-s
overflow_mul-s c =
    let l = c.loop-r in
    let w = c.requires.by_index l.r (omega arith) in
    let z = l.invariant.1.size in
    omega arith

pub overflow_add-s : goal.overflow_add-s
overflow_add-s c =
    let l = c.loop-r in
    let w = c.requires.by_index l.r (omega arith) in
    let z = l.invariant.1.size in
    omega arith

pub offset_bounds-s-o : goal.offset_bounds-s-o
offset_bounds-s-o c =
    let l = c.loop-r in
    let w = c.requires.by_index l.r (omega arith) in
    let z = l.invariant.1.size in
    omega arith

pub bounds-s-o : goal.bounds-s-o
bounds-s-o c =
    let l = c.loop-r in
    let w = c.requires.by_index l.r (omega arith) in
    let z = l.invariant.1.size in
    omega arith

pub loop-r-preserved : goal.loop-r-preserved
loop-r-preserved c =
    let l = c.loop-r in
    (omega arith, strided_step _ l.s _ _ l.r _ _ c.requires.n_bound.2 (c.requires.by_index l.r (omega arith)) c.slope_of.ensures l.invariant.1)

pub shape_of-s : goal.shape_of-s
shape_of-s c = c.loop-r.invariant.1.size

pub returns : goal.returns
unfolding rows_of
returns c =
    let l = c.loop-r in
    let g = c.args in
    let e : l.r ≡ g.plus.n = omega arith in
    strided_as _ _ _ _ l.r g.plus.n _ _ e
    (λ q h.
    let a = get_or-take g.plus.n _ q nan (omega arith) in
    let b = get_or-take g.minus.n _ q nan (omega arith) in
    λ z. slope_of (sym a z) (sym b z) g.h) l.invariant.1

-- `placement::solve::put_turn` meets its contract. The invariant: the unknowns passed stand from x on. The measure is the unknowns to come. Assumes nothing.
use mathlib.Core.Path.{◌≡◌, refl}
use native.Mathlib.Omega.{arith}
use Rattle.scene.specs.Solve.{slight_turn}
use Rattle.placement.proofs.SolveLaws.{put_none, put_entry, list_none, list_more}
use Rattle.placement.proofs.solve.put_turn.Goals as goal

pub loop-i-init : goal.loop-i-init
loop-i-init c = (omega arith, rw (list_none slight_turn) (put_none _ _))

pub overflow_add-s : goal.overflow_add-s
overflow_add-s c = let z = c.loop-i.invariant.1.kept.size in omega arith

pub offset_bounds-s-x : goal.offset_bounds-s-x
offset_bounds-s-x c = let z = c.loop-i.invariant.1.kept.size in omega arith

pub bounds-s-x : goal.bounds-s-x
bounds-s-x c = let z = c.loop-i.invariant.1.kept.size in omega arith

pub loop-i-preserved : goal.loop-i-preserved
loop-i-preserved c =
    let at = c.loop-i in
    let y = at.invariant.1 in
    let z = y.kept.size in
    (omega arith, put_entry _ at.s _ at.i _ _ _ _ refl (omega arith) (list_more slight_turn at.i _ c.slight_turn.ensures) y)

pub shape_of-s : goal.shape_of-s
shape_of-s c = c.loop-i.invariant.1.kept.size

pub returns : goal.returns
returns c = let e : c.loop-i.i ≡ c.args.n = omega arith in rw e at c.loop-i.invariant.1

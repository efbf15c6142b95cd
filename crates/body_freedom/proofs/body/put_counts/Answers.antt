-- `body_freedom::body::put_counts` meets its contract. Two stores, one after the other. Assumes nothing.
use native.Mathlib.Omega.{arith}
use Prim.Native.Nat.{◌+◌}
use lib.ListN.{length-set}
use Rattle.scene.proofs.SceneLaws.{put_one, put_then}
use Rattle.body_freedom.proofs.body.put_counts.Goals as goal

pub bounds-s-o-2 : goal.bounds-s-o-2
bounds-s-o-2 c = simp length-set (omega arith)

pub returns : goal.returns
returns c =
    let s = c.args.s.now in
    let o = c.args.o in
    rw (← c.count_double.ensures, ← c.count_double-2.ensures)
    (put_then s _ _ o 1 (o + 1) 1 _ _ (omega arith) (put_one s o c.count_double.result (omega arith)) (put_one _ (o + 1) c.count_double-2.result (simp length-set (omega arith))))

-- `scene::scene::put_vec` meets its contract. Three stores are three lists of one double, one after the other. Assumes nothing.
use Prim.Native.Nat.{◌+◌}
use native.Mathlib.Omega.{arith}
use lib.ListN.{length-set}
use Rattle.scene.proofs.SceneLaws.{put_one, put_then}
use Rattle.scene.proofs.scene.put_vec.Goals as goal

pub bounds-s-o-2 : goal.bounds-s-o-2
bounds-s-o-2 c = simp length-set (omega arith)

pub bounds-s-o-3 : goal.bounds-s-o-3
bounds-s-o-3 c = simp length-set (omega arith)

pub returns : goal.returns
returns c =
    let s = c.args.s.now in
    let o = c.args.o in
    let v = c.args.v in
    put_then s _ _ o 2 (o + 2) 1 _ _ (omega arith)
    (put_then s _ _ o 1 (o + 1) 1 _ _ (omega arith) (put_one s o v.x (omega arith)) (put_one _ (o + 1) v.y (simp length-set (omega arith))))
    (put_one _ (o + 2) v.z (simp length-set (omega arith)))

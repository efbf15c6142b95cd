-- `Free::points_of` meets its contract. The loop's invariant: the points of the first turns stand, the others are zero. Assumes nothing.
use native.Mathlib.Omega.{arith}
use lib.ListN.{take, length, length-take}
use Prim.Native.Nat.{◌≤◌}
use Rattle.vectors.specs.Vec.{vec}
use Rattle.body_freedom.specs.Motions.{motions}
use Rattle.body_freedom.proofs.BodyLaws.{length_points_to, points_step, points_end}
use Rattle.body_freedom.proofs.body.Free.points_of.Goals as goal

pub bounds-points-i : goal.bounds-points-i
bounds-points-i c =
    let l = c.loop-i in
    let vs = take c.args.axes.count c.args.axes.vectors in
    let few : length vs ≤ 3 = omega (arith, length-take c.args.axes.count c.args.axes.vectors) in
    let n = length_points_to (vec c.args.center) c.args.l (motions c.args.self) vs few l.points l.i (omega arith) l.invariant in
    omega arith

pub loop-i-preserved : goal.loop-i-preserved
loop-i-preserved c =
    let l = c.loop-i in
    let vs = take c.args.axes.count c.args.axes.vectors in
    let few : length vs ≤ 3 = omega (arith, length-take c.args.axes.count c.args.axes.vectors) in
    points_step (vec c.args.center) c.args.l (motions c.args.self) vs few l.points l.i c.point_about.result (omega arith) c.point_about.ensures l.invariant

pub returns : goal.returns
returns c =
    let l = c.loop-i in
    let vs = take c.args.axes.count c.args.axes.vectors in
    let few : length vs ≤ 3 = omega (arith, length-take c.args.axes.count c.args.axes.vectors) in
    points_end (vec c.args.center) c.args.l (motions c.args.self) vs few l.points l.i (omega arith) l.invariant

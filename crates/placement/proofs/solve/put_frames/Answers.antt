-- `placement::solve::put_frames` meets its contract. The invariant: the frames of the bodies passed stand at the front. The measure is the bodies to come. Assumes
-- nothing.
use mathlib.Core.Path.{◌≡◌}
use native.Mathlib.Omega.{arith}
use Rattle.placement.proofs.SolveLaws.{put_none, frame_in, frames_none, frame_or_is, frame_at_is, frames_step, frames_are}
use Rattle.scene.proofs.SceneLaws.{put_front}
use Rattle.placement.proofs.solve.put_frames.Goals as goal

pub loop-i-init : goal.loop-i-init
loop-i-init c = (omega arith, rw (frames_none (frame_in _ _ _ _)) (put_none _ _))

pub put_frame-requires : goal.put_frame-requires
put_frame-requires c = let z = c.loop-i.invariant.1.kept.size in omega (arith, c.requires)

pub loop-i-preserved : goal.loop-i-preserved
loop-i-preserved c =
    let at = c.loop-i in
    let g = c.args in
    let e = frame_at_is _ _ _ _ _ _ c.pose_at-q.ensures c.body-b.ensures c.frame_of.ensures (frame_or_is c.frame_of.result c.body-b.result.frame _ c.unwrap_or.ensures) in
    (omega arith, frames_step g.sheet.bytes.now g.sheet.scene g.s.now _ at.frames _ g.p at.i _ e at.invariant.1 c.put_frame.ensures)

pub shape_of-frames : goal.shape_of-frames
shape_of-frames c = c.loop-i.invariant.1.kept.size

pub returns : goal.returns
returns c =
    let g = c.args in
    let e : c.loop-i.i ≡ g.sheet.scene.m = omega arith in
    put_front _ _ _ _ (rw (frames_are g.sheet.bytes.now g.sheet.scene g.s.now g.p) at (rw e at c.loop-i.invariant.1))

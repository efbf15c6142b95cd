-- `placement::solve::put_frames` meets its contract. The invariant: the frames of the bodies passed stand at the front. The measure is the bodies to come. Assumes
-- nothing.
use Prim.Native.Nat.{◌*◌, ◌-◌, ◌≤◌}
use Rattle.least_squares.specs.Lm.{list_of}
use Rattle.scene.specs.Scene.{Put}
use Rattle.placement.specs.Answer.{frames_doubles}
use Rattle.placement.proofs.SolveLaws.{frame_in}
use Rattle.placement.proofs.solve.put_frames.Given as goal

abbrev pub invariant-loop-i : goal.invariant-loop-i
invariant-loop-i l = (l.i ≤ l.sheet.scene.m) × Put l.initial.frames l.frames 0 (12 * l.i) (frames_doubles (list_of (frame_in l.sheet.bytes.now l.sheet.scene l.s l.p) l.i))

abbrev pub decreases-loop-i : goal.decreases-loop-i
decreases-loop-i l = l.sheet.scene.m - l.i

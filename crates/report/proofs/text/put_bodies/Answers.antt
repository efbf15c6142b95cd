-- `report::text::put_bodies` meets its contract. The invariant: the lines of the bodies passed stand from `at` on. Assumes nothing.
use mathlib.Core.Path.{◌≡◌}
use Prim.Native.Nat.{◌+◌, ◌*◌}
use native.Mathlib.Omega.{arith}
use lib.ListN.{get_or}
use lib.Ieee.{nan}
use Rattle.report.specs.Report.{body_line}
use Rattle.writing.proofs.PutLaws.{put_size, joined_start, joined_step}
use Rattle.report.proofs.TextLaws.{bodies_length}
use Rattle.report.proofs.text.put_bodies.Goals as goal

pub loop-i-init : goal.loop-i-init
loop-i-init c = (omega arith, joined_start _ _ _ (omega arith))

pub put_body-next-requires : goal.put_body-next-requires
put_body-next-requires c =
    let l = c.loop-i in
    let written = l.invariant.1.next in
    let few = bodies_length c.args.freedoms.now l.i (omega arith) in
    record { i_bound = omega arith; at_in_bounds = omega arith }

pub loop-i-preserved : goal.loop-i-preserved
loop-i-preserved c =
    let l = c.loop-i in
    let freedoms = c.args.freedoms.now in
    let p
    = joined_step (λ i. body_line i (get_or freedoms (29 * i) nan) (get_or freedoms (29 * i + 1) nan)) _ l.out _ _ _ _ l.i l.invariant.1 c.put_body-next.ensures in
    (put_size _ _ _ _ _ p, p)

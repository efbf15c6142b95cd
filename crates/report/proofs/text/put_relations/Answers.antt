-- `report::text::put_relations` meets its contract. The invariant: the lines of the relations passed stand from `at` on. Assumes nothing.
use mathlib.Core.Path.{◌≡◌}
use native.Mathlib.Omega.{arith}
use lib.ListN.{get_or}
use lib.Ieee.{nan}
use Rattle.report.specs.Report.{relation_line}
use Rattle.writing.proofs.PutLaws.{put_size, joined_start, joined_step}
use Rattle.report.proofs.TextLaws.{relations_length}
use Rattle.report.proofs.text.put_relations.Goals as goal

pub loop-j-init : goal.loop-j-init
loop-j-init c = (omega arith, joined_start _ _ _ (omega arith))

pub put_relation-next-requires : goal.put_relation-next-requires
put_relation-next-requires c =
    let l = c.loop-j in
    let written = l.invariant.1.next in
    let few = relations_length c.args.errors.now l.j (omega arith) in
    record { j_bound = omega arith; at_in_bounds = omega arith }

pub loop-j-preserved : goal.loop-j-preserved
loop-j-preserved c =
    let l = c.loop-j in
    let errors = c.args.errors.now in
    let p = joined_step (λ j. relation_line j (get_or errors j nan)) _ l.out _ _ _ _ l.j l.invariant.1 c.put_relation-next.ensures in
    (put_size _ _ _ _ _ p, p)

-- `report::text::places` meets its contract. The invariant: k and the digits of `rest` are one more than those of n. The measure is `rest`. Assumes nothing.
use Prim.Native.Nat.{◌/◌, ◌<◌}
use native.Mathlib.Omega.{arith}
use native.Mathlib.Nat.{add_comm, div-lt_self}
use Rattle.report.specs.Report.{places_in}
use Rattle.report.proofs.TextLaws.{places_step, places_end}
use Rattle.report.proofs.text.places.Goals as goal

pub loop-rest-init : goal.loop-rest-init
loop-rest-init c = (omega arith, add_comm 1 (places_in c.args.n c.args.n))

pub loop-rest-smaller : goal.loop-rest-smaller
loop-rest-smaller c = div-lt_self (omega arith) (omega arith)

pub loop-rest-preserved : goal.loop-rest-preserved
loop-rest-preserved c =
    let l = c.loop-rest in
    let less : l.rest / 10 < l.rest = div-lt_self (omega arith) (omega arith) in
    (omega arith, places_step _ l.k l.rest c.loop-rest-test.true l.invariant.1)

pub returns : goal.returns
returns c = places_end _ c.loop-rest.k c.loop-rest.rest c.loop-rest-test.false c.loop-rest.invariant.1

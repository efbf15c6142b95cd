-- `arcs::arc::reduced` meets its contract: from 0 up to T a double is its own remainder, and the two tests of the range are the definition's. Assumes nothing.
use mathlib.Core.Path.{sym}
use Rattle.arcs.specs.Arcs.{reduced, far}
use Rattle.arcs.proofs.Remainder.{rem_tau}
use Rattle.arcs.proofs.FarLaws.{near_not_far}
use Rattle.arcs.proofs.arc.reduced.Goals as goal
use Rattle.arcs.proofs.arc.reduced.Goals.{else-t-3-via-then-t-3+else-t-4, else-t-3-via-else-t-3}

pub returns-then-t-2 : goal.returns-then-t-2
unfolding reduced
returns-then-t-2 c = rw (near_not_far c.args.t c.if-t-2.true) (sym (rem_tau c.args.t (rw c.well_formed.0.1 tt) c.if-t.true c.if-t-2.true))

pub less_turns-requires : goal.less_turns-requires
unfolding far
less_turns-requires c = rw (c.if-t-3.true, c.if-t-4.true) tt

pub returns-then-t-4 : goal.returns-then-t-4
unfolding reduced far
returns-then-t-4 c = rw (c.if-t-3.true, c.if-t-4.true) c.less_turns.ensures

pub returns-else-t-3 : goal.returns-else-t-3
unfolding reduced far
returns-else-t-3 c =
    elim c.else-t-3.branch [
      | else-t-3-via-then-t-3+else-t-4 w ↦ rw (w.if-t-3.true, w.if-t-4.false) c.remainder.ensures
      | else-t-3-via-else-t-3 w ↦ rw w.if-t-3.false c.remainder.ensures
    ]

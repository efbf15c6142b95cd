-- `roots::cases::compare` meets its contract: what is correctly rounded is the root. Assumes nothing.
use Rattle.arcs.proofs.RootLaws.{correct_is_root}
use Rattle.roots.specs.Cases.{compare}
use Rattle.roots.proofs.cases.compare.Goals as goal

pub returns : goal.returns
unfolding compare
returns c =
    let e = correct_is_root (rw c.well_formed.1.0.1 tt) c.root.ensures in
    rw (c.count.ensures, c.same.ensures, c.second_root.ensures, e)

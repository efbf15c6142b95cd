-- `vectors::root::sqrt` meets its contract: what is correctly rounded is the root. Assumes nothing.
use Rattle.arcs.proofs.RootLaws.{correct_is_root}
use Rattle.vectors.proofs.root.sqrt.Goals as goal

pub returns : goal.returns
returns c = correct_is_root (rw c.well_formed.0.1 tt) c.root.ensures

-- `by_rounds::held::take_held`: three parts of the caller's slice are copied to where the running state stands (`taken_is`). Assumes nothing.
use mathlib.Core.Path.{refl}
use Rattle.by_rounds.proofs.HeldLaws.{taken_is}
use Rattle.by_rounds.proofs.held.take_held.Goals as goal

pub returns : goal.returns
returns c =
    let g = c.args in
    taken_is g.scene g.p g.s.now _ _ _ g.done g.run g.state.now _ c.requires.arranged c.copy_over.ensures c.copy_over-2.ensures c.copy_over-3.ensures refl refl c.run_of.ensures

-- `by_rounds::held::put_reached`: the state is put before the answer is worked, which leaves the scratch open; the flag is that of the errors just filled in (`left_is`).
-- Assumes nothing.
use Rattle.scene.specs.Scene.{parameters_of}
use Rattle.by_rounds.proofs.HeldLaws.{left_is}
use Rattle.by_rounds.proofs.held.put_reached.Goals as goal

pub put_answer-requires : goal.put_answer-requires
put_answer-requires c = record { scratch = c.requires.scratch; m_in_bounds = c.requires.room.poses_long; m_in_bounds_2 = c.requires.room.frames_long; k_in_bounds = c.requires.room.errors_long }

pub returns : goal.returns
returns c =
    let g = c.args in
    left_is g.solver.now.sheet.bytes.now g.solver.now.sheet.scene g.solver.now.parts (parameters_of g.q) g.s.now g.h _ _ _ _ _ _ _ _ _ c.put_held.ensures c.put_answer.ensures c.all_within-converged.ensures

-- `by_rounds::held::put_held`: the damping is written, and the three parts behind it, one after the other (`held_put`). Assumes nothing.
use mathlib.Core.Path.{◌∙◌}
use native.Mathlib.Omega.{arith}
use lib.ListN.{length-set}
use Rattle.rounds.proofs.RoundLaws.{arranged_within}
use Rattle.by_rounds.proofs.HeldLaws.{held_put}
use Rattle.by_rounds.proofs.held.put_held.Goals as goal

pub copy_over-requires : goal.copy_over-requires
copy_over-requires c =
    let a = (arranged_within c.args.solver.now.arranged c.requires.scratch) in
    record { k_in_bounds = omega (arith, a.x, a.slopes, a.matrix, a.weights, a.damped, a.right, a.rows, a.next, a.ahead, a.poses); k_in_bounds_2 = simp length-set (omega arith) }

pub copy_over-requires-2 : goal.copy_over-requires-2
copy_over-requires-2 c =
    let a = (arranged_within c.args.solver.now.arranged c.requires.scratch) in
    let e = c.copy_over.ensures.kept.size in
    let z = length-set c.args.state.now 0 c.args.mu in
    record { k_in_bounds = omega (arith, a.first, a.x, a.slopes, a.matrix, a.weights, a.damped, a.right, a.rows, a.next, a.ahead, a.poses); k_in_bounds_2 = omega arith }

pub copy_over-requires-3 : goal.copy_over-requires-3
copy_over-requires-3 c =
    let a = (arranged_within c.args.solver.now.arranged c.requires.scratch) in
    let e = c.copy_over-2.ensures.kept.size ∙ c.copy_over.ensures.kept.size in
    let z = length-set c.args.state.now 0 c.args.mu in
    record { k_in_bounds = omega (arith, a.rows, a.next, a.ahead, a.poses); k_in_bounds_2 = omega arith }

pub shape_of-state : goal.shape_of-state
shape_of-state c = c.copy_over-3.ensures.kept.size ∙ c.copy_over-2.ensures.kept.size ∙ c.copy_over.ensures.kept.size ∙ simp length-set

pub returns : goal.returns
returns c =
    let g = c.args in
    held_put g.solver.now.sheet.scene g.solver.now.parts g.s.now g.mu g.state.now _ _ _ c.requires.rows_in_bounds c.copy_over.ensures c.copy_over-2.ensures c.copy_over-3.ensures

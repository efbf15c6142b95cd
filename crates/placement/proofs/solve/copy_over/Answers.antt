-- `placement::solve::copy_over` meets its contract. The invariant: the doubles passed stand in d from `at` on; the next is that of s (`part_at`). Assumes nothing.
use mathlib.Core.Path.{◌∙◌, ap, refl}
use mathlib.Core.List.{[], ◌∷◌, ◌++◌}
use Prim.Native.Nat.{◌+◌, ◌-◌}
use native.Mathlib.Omega.{arith}
use lib.Ieee.{Float, nan}
use Rattle.least_squares.specs.Memory.{part}
use Rattle.least_squares.proofs.MemoryLaws.{part_at}
use Rattle.placement.proofs.SolveLaws.{put_entry, part_more}
use Rattle.placement.proofs.solve.copy_over.Goals as goal

pub loop-i-preserved : goal.loop-i-preserved
loop-i-preserved c =
    let at = c.loop-i in
    let g = c.args in
    let y = at.invariant.1 in
    let z = y.kept.size in
    let next = part_at g.s.now g.o (g.o + g.k - g.o) at.i nan (omega arith) in
    let more = ap (λ (w : Float). part g.s.now g.o at.i ++ (w ∷ [])) next ∙ part_more g.s.now g.o at.i nan (omega arith) in
    (omega arith, put_entry _ at.d g.at at.i (g.at + at.i) _ _ _ refl (omega arith) more y)

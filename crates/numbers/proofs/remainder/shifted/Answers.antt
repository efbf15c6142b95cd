-- `shifted`: a digit more doubles the remainder (`shifted_step`). Assumes nothing.
use mathlib.Core.Path.{ap, ◌∙◌}
use Prim.Native.Nat.{ℕ, ◌*◌, ◌%◌}
use native.Mathlib.Nat.{mod-lt}
use Rattle.numbers.proofs.RemainderLaws.{shifted_step}
use Rattle.numbers.proofs.remainder.shifted.Goals as goal

pub loop-i-preserved : goal.loop-i-preserved
loop-i-preserved c =
    let g = c.args in
    record {
      below = mod-lt _ c.requires.n_pos;
      rest = ap (λ (r : ℕ). r * 2 % g.n) c.loop-i.invariant.rest ∙ shifted_step g.m c.loop-i.i g.n c.requires.n_pos;
    }

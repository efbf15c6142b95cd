-- No test has the number 0. Assumes nothing.
use Rattle.std.proofs.Common.{ℕ, ◌≡◌, ◌∙◌, sym, suc-ne-zero}
use Rattle.faults.specs.declared.fault.Fault.{Fault}
use Rattle.faults.specs.declared.fault.Fault.TheVariants.{Short, Header, Counts, Offsets, Shape, Names, Limits, Drag, Scratch, Room, Unsuited, Tangent, Relation, Teeth, Parameters, Portion}
use Rattle.faults.specs.Fault.{number}

pub number_nonzero : (f : Fault) → number f ≡ 0 → ⊥
number_nonzero Short = suc-ne-zero 0
number_nonzero Header = suc-ne-zero 1
number_nonzero Counts = suc-ne-zero 2
number_nonzero Offsets = suc-ne-zero 3
number_nonzero Shape = suc-ne-zero 4
number_nonzero Names = suc-ne-zero 5
number_nonzero Limits = suc-ne-zero 6
number_nonzero Drag = suc-ne-zero 7
number_nonzero Scratch = suc-ne-zero 8
number_nonzero Room = suc-ne-zero 9
number_nonzero Unsuited = suc-ne-zero 10
number_nonzero Tangent = suc-ne-zero 11
number_nonzero Relation = suc-ne-zero 12
number_nonzero Teeth = suc-ne-zero 13
number_nonzero Parameters = suc-ne-zero 14
number_nonzero Portion = suc-ne-zero 15

-- nor has a refusal
pub refusal_nonzero : (f : Fault) (n : ℕ) → n ≡ number f → n ≡ 0 → ⊥
refusal_nonzero f n e z = number_nonzero f (sym e ∙ z)

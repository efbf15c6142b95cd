-- `arcs::root::unit_or_root` meets its contract: a double with the bits of 1 is 1, whose root is 1. Assumes nothing.
use mathlib.Core.Path.{◌≡◌, refl, sym, ap, subst, ◌∙◌}
use lib.Dec.{T}
use lib.Ieee.{Float, binary64, fits, of_bits, to_bits}
use lib.Ieee.Bits.{of_bits-to_bits}
use Rattle.arcs.specs.Root.{CorrectRoot, root}
use Rattle.arcs.proofs.RootLaws.{root_correct}
use Rattle.arcs.proofs.root.Bits.{positive_no_nan}
use Rattle.arcs.proofs.root.unit_or_root.Goals as goal

abbrev one : Float
one = of_bits binary64 0x3FF0_0000_0000_0000

root_one : root one ≡ one
unfolding root of_bits
root_one = refl

unit_root : (x : Float) → T (fits binary64 x) → to_bits binary64 x ≡ 0x3FF0_0000_0000_0000 → CorrectRoot x one
unit_root x h e =
    let same : x ≡ one = sym (of_bits-to_bits binary64 x h) ∙ ap (of_bits binary64) e in
    subst (λ (r : Float). CorrectRoot x r) (ap root same ∙ root_one) (root_correct x h)

pub float_to_bits-x : goal.float_to_bits-x
float_to_bits-x c = positive_no_nan c.args.x c.requires

-- `held` is what owning an `f64` tells: the format holds it
pub returns-then-x-eq-ONE : goal.returns-then-x-eq-ONE
returns-then-x-eq-ONE c =
    let held : T (fits binary64 c.args.x) =
    subst T (sym c.well_formed.0.1) tt in
    unit_root _ held c.if-x-eq-ONE.true

pub positive_root-requires : goal.positive_root-requires
positive_root-requires c = c.requires

pub returns : goal.returns
returns c = c.positive_root.ensures

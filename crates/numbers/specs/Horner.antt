-- Horner's rule from the top, for any list of coefficients, the lowest first. Document 01, "The train of files", item 1. Definitions only.
use Rattle.std.specs.Prelude.{List, [], ◌∷◌}
use Rattle.numbers.specs.Ops.{Ops}
use Rattle.numbers.specs.Double.{zero64}

module _ {C : Type 0} (o : Ops C) where
  -- c0 + z * (c1 + z * (.. + z * cn)); 0 for no coefficients
  unfoldable pub horner : List C → C → C
  horner [] z = o.of zero64
  horner (c ∷ []) z = c
  horner (c ∷ d ∷ cs) z = o.add c (o.mul z (horner (d ∷ cs) z))

-- `all_finite` is `all_finite` of the definitions: both ask each double in turn. Assumes nothing.
use mathlib.Core.Path.{◌≡◌, refl, ap, ◌∙◌}
use mathlib.Core.Bool.{◌&&◌}
use mathlib.Core.List.{List, [], ◌∷◌}
use lib.Ieee.{Float}
use Rattle.std.proofs.Common.{rules, tests}
use Rattle.std.specs.List.{list_all}
use Rattle.std.proofs.lemmas.Iterator.{YieldsList-from_slice}
use Rattle.std.proofs.lemmas.Iterator.Search.{all_from_yields_List}
use Rattle.numbers.specs.Double.{is_finite}
use Rattle.least_squares.specs.Lm.{all_finite}
use Rattle.least_squares.proofs.dense.all_finite.Goals as goal

asks_all : (l : List Float) → list_all is_finite l ≡ all_finite l
unfolding all_finite
asks_all [] = refl
asks_all (x ∷ l) = ap (λ b. is_finite x && b) (asks_all l)

pub returns : goal.returns
returns c =
    all_from_yields_List is_finite _ _ _ c.all.ensures.ran (YieldsList-from_slice c.args.s.now cc) (λ x b q k. search (rules, tests)) ∙ asks_all c.args.s.now

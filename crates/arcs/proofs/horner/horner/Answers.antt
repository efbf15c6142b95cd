-- `arcs::horner::horner` meets its contract: the fold from the top coefficient down is Horner's rule (`horner_fold`). Assumes nothing.
use mathlib.Core.Path.{◌≡◌, refl, sym, ap, ◌∙◌}
use mathlib.Core.List.{List, [], ◌∷◌, ◌++◌}
use Prim.Native.Nat.{suc, ◌-◌, ◌<◌}
use native.Mathlib.Omega.{arith}
use lib.ListN.{length, get_or, take}
use lib.Seq.{take-suc, take_all}
use lib.Ieee.{Float, nan, binary64, add, mul}
use Rattle.std.proofs.Common.{rules, tests}
use Rattle.std.proofs.lemmas.Iterator.Adapters.{YieldsList-from_rev_slice}
use Rattle.std.proofs.lemmas.Iterator.Consumers.{fold_from_yields_List}
use Rattle.numbers.specs.Double.{zero64}
use Rattle.numbers.specs.Ops.{doubles}
use Rattle.numbers.specs.Horner as spec
use Rattle.numbers.proofs.Loops.{horner_fold}
use Rattle.arcs.proofs.horner.horner.Goals as goal

none : (cs : List Float) (z : Float) → length cs < 1 → zero64 ≡ spec.horner doubles cs z
unfolding spec.horner
none [] z e = refl
none (c ∷ cs) z e = absurd (omega arith)

-- the coefficients below the top one, and the top one
parts : (cs : List Float) → 0 < length cs → take (length cs - 1) cs ++ get_or cs (length cs - 1) nan ∷ [] ≡ cs
parts cs h =
    let k : suc (length cs - 1) ≡ length cs = omega arith in
    let least : length cs - 1 < length cs = omega arith in
    sym (take-suc cs (length cs - 1) nan least) ∙ rw k (take_all (length cs) cs (omega arith))

pub returns-in-empty : goal.returns-in-empty
returns-in-empty c = none c.args.cs.now c.args.z c.in-empty.len_below

pub returns-in-len1-up : goal.returns-in-len1-up
returns-in-len1-up c =
    let cs = c.args.cs.now in
    let z = c.args.z in
    let top = get_or cs (length cs - 1) nan in
    let rest = take (length cs - 1) cs in
    let folded = fold_from_yields_List _ (λ r c. add binary64 c (mul binary64 z r)) top _ c.fold.ensures.ran (YieldsList-from_rev_slice rest cc) (λ a x b q k. search (rules, tests)) in
    folded ∙ horner_fold doubles top z rest ∙ ap (λ (l : List Float). spec.horner doubles l z) (parts cs (omega (arith, c.in-len1-up.len_at_least)))

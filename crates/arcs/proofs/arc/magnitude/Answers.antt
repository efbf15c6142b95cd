-- `arcs::arc::magnitude` meets its contract: what `pick` and `negative` promise is the negation where the sign is set, else the double itself. Case by case, for a NaN,
-- an infinity and a finite double of each sign, that is `abs`. Assumes nothing.
use mathlib.Core.Path.{◌≡◌, refl}
use mathlib.Core.Bool.{true, false, cond}
use lib.Ieee.{Float, nan, inf, fin, neg}
use Rattle.numbers.specs.Double.{negative, abs}
use Rattle.arcs.proofs.arc.magnitude.Goals as goal

abs_is : (x : Float) → cond (negative x) (neg x) x ≡ abs x
unfolding negative abs neg
abs_is nan = refl
abs_is (inf true) = refl
abs_is (inf false) = refl
abs_is (fin true m e) = refl
abs_is (fin false m e) = refl

pub returns : goal.returns
returns c = rw (c.pick.ensures, c.negative.ensures) (abs_is c.args.x)

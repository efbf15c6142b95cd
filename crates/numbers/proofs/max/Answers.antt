-- `numbers::max` meets its contract: of two doubles in order the definition takes the larger (`fmax_less`, `fmax_more`). On the other paths the outcomes of the tests
-- choose the definition's value. Assumes nothing.
use mathlib.Core.Path.{sym, ◌∙◌}
use Rattle.numbers.proofs.DoubleLaws.{fmax_less, fmax_more}
use Rattle.numbers.specs.Double.{fmax}
use Rattle.numbers.proofs.max.Goals as goal
use Rattle.numbers.proofs.max.Goals.{else-x-via-then-x+else-y, else-x-via-else-x}

pub returns-then-x-y : goal.returns-then-x-y
returns-then-x-y c = rw (fmax_less c.args.x c.args.y c.if-x-y.true)

pub returns-then-y-x : goal.returns-then-y-x
returns-then-y-x c = rw (fmax_more c.args.x c.args.y c.if-y-x.true)

pub returns-then-is_nan : goal.returns-then-is_nan
unfolding fmax
returns-then-is_nan c = rw (sym c.is_nan.ensures.value ∙ c.if-is_nan.true)

pub returns-then-is_nan-2 : goal.returns-then-is_nan-2
unfolding fmax
returns-then-is_nan-2 c = rw (sym c.is_nan.ensures.value ∙ c.if-is_nan.false, sym c.is_nan-else-is_nan.ensures.value ∙ c.if-is_nan-2.true)

pub returns-then-y : goal.returns-then-y
unfolding fmax
returns-then-y c = rw (sym c.is_nan.ensures.value ∙ c.if-is_nan.false, sym c.is_nan-else-is_nan.ensures.value ∙ c.if-is_nan-2.false, c.if-x.true, c.if-y.true)

pub returns-else-x : goal.returns-else-x
unfolding fmax
returns-else-x c =
    let x = sym c.is_nan.ensures.value ∙ c.if-is_nan.false in
    let y = sym c.is_nan-else-is_nan.ensures.value ∙ c.if-is_nan-2.false in
    elim c.else-x.branch [
      | else-x-via-then-x+else-y w ↦ rw (x, y, w.if-x.true, w.if-y.false, c.if-x-y.false)
      | else-x-via-else-x w ↦ rw (x, y, w.if-x.false, c.if-x-y.false)
    ]

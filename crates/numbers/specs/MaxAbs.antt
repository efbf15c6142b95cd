-- `max_abs` of lm.rs, and the largest magnitude of a list of fractions that it is held against. Document 01, "The words of demand 3". Definitions only.
use Rattle.std.specs.Prelude.{false, cond, pos, Float}
use mathlib.Core.List.{List, foldl}
use Rattle.std.specs.Float.{inf}
use Rattle.numbers.specs.Double.{zero64, is_finite, abs, fmax}
use Rattle.numbers.specs.Frac.{Frac, max_q, abs_q}

-- from m on: an entry that is not finite gives infinity, any other the larger of m and its magnitude
unfoldable pub max_abs_step : Float → Float → Float
unfolding is_finite abs fmax
max_abs_step m a = cond (is_finite a) (fmax m (abs a)) (inf false)

unfoldable pub max_abs : List Float → Float
unfolding max_abs_step
max_abs v = foldl max_abs_step zero64 v

abbrev pub zero_q : Frac
zero_q = record { num = pos 0; den = 1 }

-- the largest magnitude, 0 for none
unfoldable pub largest_q : List Frac → Frac
unfolding max_q abs_q
largest_q v = foldl (λ m a. max_q m (abs_q a)) zero_q v

-- The operations that the rows of a relation are made of, as a record: a formula over it is read on doubles, each operation rounded once, and on fractions,
-- each operation exact. So "the same rows" is one text. Document 01, "The words of demand 3". Definitions only.
use Rattle.std.specs.Prelude.{Float}
use Rattle.std.specs.Float.{binary64}
use Rattle.std.specs.Float.Ieee.{add, sub, mul, neg}
use Rattle.numbers.specs.Frac.{Frac, add_q, sub_q, mul_q, neg_q, max_q, frac_of}
use Rattle.numbers.specs.Double.{fmax}

-- `of` gives the number that a double stands for
pub record Ops (C : Type 0) : Type 0 where
  pub add : C → C → C
  pub sub : C → C → C
  pub mul : C → C → C
  pub neg : C → C
  pub max : C → C → C
  pub of : Float → C

abbrev pub doubles : Ops Float
doubles = record { add = add binary64; sub = sub binary64; mul = mul binary64; neg = neg; max = fmax; of = λ x. x }

abbrev pub fractions : Ops Frac
fractions = record { add = add_q; sub = sub_q; mul = mul_q; neg = neg_q; max = max_q; of = frac_of }

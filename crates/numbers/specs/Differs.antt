-- What it says that a double differs from a fraction by at most 1 / R. Document 01, "The words of demand 3". Definitions only.
use Rattle.std.specs.Prelude.{◌≡◌, true, ℕ, ◌*◌, ◌≤◌, ◌<◌, nat_abs, Float}
use Rattle.numbers.specs.Frac.{Frac, sub_q, frac_of}
use Rattle.numbers.specs.Double.{is_finite}

-- `number`: x is neither a NaN nor an infinity. `fraction`: x - X, worked exactly, is a fraction, with a denominator that is not 0.
-- `small`: the magnitude of its numerator over its denominator is at most 1 / R.
pub record DiffersByAtMost (R : ℕ) (x : Float) (X : Frac) : Type 0 where
  pub number : is_finite x ≡ true
  pub fraction : 0 < (sub_q (frac_of x) X).den
  pub small : nat_abs (sub_q (frac_of x) X).num * R ≤ (sub_q (frac_of x) X).den

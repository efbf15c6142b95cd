-- A sum as a loop forms it: from a first value, term by term, for any number of terms. Rust's `sum()` is this sum from -0. Document 01, "The train of files", last paragraph.
-- Definitions only.
use Rattle.std.specs.Prelude.{ℕ, zero, suc}
use Rattle.numbers.specs.Ops.{Ops}

module _ {C : Type 0} (o : Ops C) where
  -- s + f 0 + f 1 + .., n terms
  unfoldable pub sum_from : C → (ℕ → C) → ℕ → C
  sum_from s f zero = s
  sum_from s f (suc n) = o.add (sum_from s f n) (f n)

-- Signed fractions (p - n) / d of natural numbers, and how close two of them are, in units of 1 / S. Document 01, "The words of demand 3". Definitions only.
use Rattle.std.specs.Prelude.{ℕ, ◌+◌, ◌*◌, ◌≤◌}

-- (p - n) / d
pub record Signed : Type 0 where
  pub p : ℕ
  pub n : ℕ
  pub d : ℕ

-- a is at most b + e / S
abbrev pub Under : ℕ → Signed → Signed → ℕ → Type 0
Under S a b e = (a.p * b.d + b.n * a.d) * S ≤ (a.n * b.d + b.p * a.d) * S + e * (a.d * b.d)

-- a and b differ by at most e / S
abbrev pub Close : ℕ → Signed → Signed → ℕ → Type 0
Close S a b e = Under S a b e × Under S b a e

-- a's size is at most m / S
abbrev pub Mag : ℕ → Signed → ℕ → Type 0
Mag S a m = (a.p + a.n) * S ≤ m * a.d

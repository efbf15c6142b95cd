-- What the parts of lm.rs promise of the scratch: which part holds what at exit, s at entry and t at exit. Definitions only.
use Rattle.std.specs.Prelude.{ℕ, ◌+◌, ◌*◌, ◌≤◌, ◌<◌, ◌≡◌, List, get_or, Float}
use Rattle.std.specs.Float.{nan}
use Rattle.least_squares.specs.Memory.{part, Kept}
use Rattle.least_squares.specs.Lm.{gram_at, normal, damp_to, stepped}
use Rattle.least_squares.specs.Triangle.{triangle, spread}

-- row i of the matrix up to the diagonal, at `at`; slopes at 0, weights at w
pub record MatrixRow (s t : List Float) (i at n w : ℕ) : Type 0 where
  pub entries : (k : ℕ) → k ≤ i → get_or t (at + k) nan ≡ gram_at s (k * n) (i * n) w n
  pub kept : Kept s t at (at + (i + 1))

-- the matrix, its lower triangle at a
pub record Matrix (s t : List Float) (n rows a w : ℕ) : Type 0 where
  pub matrix : spread (part t a (triangle rows)) rows ≡ normal (part s 0 (rows * n)) (part s w n) n rows
  pub kept : Kept s t a (a + triangle rows)

-- k doubles from a on, copied to b on
pub record Copied (s t : List Float) (a b k : ℕ) : Type 0 where
  pub copy : part t b k ≡ part s a k
  pub kept : Kept s t b (b + k)

-- row i of the matrix right of the diagonal, in the row at b: column i of the triangle at a
pub record Across (s t : List Float) (a b i rows : ℕ) : Type 0 where
  pub entries : (k : ℕ) → i < k → k < rows → get_or t (b + k) nan ≡ get_or s (a + triangle k + i) nan
  pub kept : Kept s t (b + (i + 1)) (b + rows)

-- the whole matrix at b, its lower triangle at a
pub record Spread (s t : List Float) (a b rows : ℕ) : Type 0 where
  pub square : part t b (rows * rows) ≡ spread (part s a (triangle rows)) rows
  pub kept : Kept s t b (b + rows * rows)

-- d added to the diagonal of the matrix at a
pub record Damped (s t : List Float) (a rows : ℕ) (d : Float) : Type 0 where
  pub matrix : part t a (rows * rows) ≡ damp_to (part s a (rows * rows)) rows d rows
  pub kept : Kept s t a (a + rows * rows)

-- the unknowns at x after the step by y, at z; slopes at j, inverse weights at w
pub record Stepped (s t : List Float) (n rows x j w y z : ℕ) : Type 0 where
  pub unknowns : part t z n ≡ stepped (part s x n) (part s j (rows * n)) (part s w n) (part s y rows) rows
  pub kept : Kept s t z (z + n)

-- What `solve_dense` of lm.rs and its parts leave in lent memory: an n by n matrix a in the first n·n places, row after row, and the right side b in the n places behind
-- it. The unknowns take the place of b. Document 01, "The train of files", item 5, and "Recut for Rattle". `specs/Lm.antt` has what is computed. Definitions only.
use Rattle.std.specs.Prelude.{ℕ, ◌+◌, ◌-◌, ◌*◌, ◌≡◌, Bool, true, false, List, Float}
use Rattle.std.proofs.Math.Option.{Option, none, some}
use Rattle.least_squares.specs.Memory.{part, Kept}
use Rattle.least_squares.specs.Lm.{System, pivot_to, solve_dense}

-- the system that memory holds
abbrev pub system_at : List Float → ℕ → System
system_at s n = record { a = part s 0 (n * n); b = part s (n * n) n }

-- the pivot of column col: its magnitude, and its row
pub record PivotOf (s : List Float) (n col : ℕ) (best : Float) (row : ℕ) : Type 0 where
  pub best_is : best ≡ (pivot_to s n col (n - col)).best
  pub row_is : row ≡ (pivot_to s n col (n - col)).row

-- from s to t the system has become w, and nothing behind it has changed
pub record Became (s t : List Float) (n : ℕ) (w : System) : Type 0 where
  pub system : system_at t n ≡ w
  pub kept : Kept s t 0 (n * n + n)

abbrev pub given : {A : Type 0} → Option A → Bool
given none = false
given (some a) = true

-- the same where there may be no such system: ok says whether there is, and then memory holds it; else what stands in the system's place is open
pub record Reached (s t : List Float) (n : ℕ) (o : Option System) (ok : Bool) : Type 0 where
  pub told : ok ≡ given o
  pub system : (w : System) → o ≡ some w → system_at t n ≡ w
  pub kept : Kept s t 0 (n * n + n)

-- `solve_dense`: ok says whether there is an answer, and then it stands in b's place. The matrix's place is scratch: what it holds at exit is open, and so is b's place where there is no answer
pub record Dense (s t : List Float) (n : ℕ) (ok : Bool) : Type 0 where
  pub told : ok ≡ given (solve_dense (part s 0 (n * n)) (part s (n * n) n) n)
  pub answer : (y : List Float) → solve_dense (part s 0 (n * n)) (part s (n * n) n) n ≡ some y → part t (n * n) n ≡ y
  pub kept : Kept s t 0 (n * n + n)

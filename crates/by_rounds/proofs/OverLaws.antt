-- The row count of a run that a call goes on with, as `by_rounds::ends::is_over` tests it. Assumes nothing.
use mathlib.Core.Path.{◌≡◌, sym}
use mathlib.Core.Bool.{Bool, true, ◌||◌, or-true}
use Prim.Native.Nat.{ℕ, ◌<◌}
use lib.Dec.{ltb}
use borrow.Author.Tests.{lt-ltb}

pub too_many : (b : Bool) (n : ℕ) → 800 < n → true ≡ (b || ltb 800 n)
too_many b n h = rw (lt-ltb 800 n h) (sym (or-true b))

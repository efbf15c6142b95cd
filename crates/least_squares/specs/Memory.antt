-- Parts of the lent scratch: what a part holds, and what a call leaves alone. Document 01, "Recut for Rattle". Definitions only.
use Rattle.std.specs.Prelude.{ℕ, ◌≡◌, List, length, take, drop, Float}

-- the k doubles from place o on
abbrev pub part : List Float → ℕ → ℕ → List Float
part s o k = take k (drop o s)

-- from s to t nothing outside the places lo up to hi has changed
pub record Kept (s t : List Float) (lo hi : ℕ) : Type 0 where
  pub size : length t ≡ length s
  pub below : take lo t ≡ take lo s
  pub above : drop hi t ≡ drop hi s

-- One more of the cases that are taken in turn, at the k + 1 that a loop counts to. Assumes nothing.
use Rattle.std.proofs.Common.{◌≡◌, ℕ, ◌+◌, refl, add-one}
use Rattle.roots.specs.Cases.{in_turn}
use Rattle.roots.specs.declared.cases.Tally.{Tally}

pub turn_next : (f : ℕ → Tally → Tally) (t : Tally) (k : ℕ) → in_turn (k + 1) f t ≡ f k (in_turn k f t)
unfolding in_turn
turn_next f t k = rw add-one

pub turn_none : (f : ℕ → Tally → Tally) (t : Tally) → in_turn 0 f t ≡ t
unfolding in_turn
turn_none f t = refl

-- One step of the sort by insertion, in place. Definitions only.
use Rattle.std.specs.Prelude.{ℕ, zero, suc, Bool, true, false, List, get_or, set}

module _ {A : Type 0} (before : A → A → Bool) (d : A) where
  -- the element at j moved forward past those that it stands before
  unfoldable pub sink : List A → ℕ → List A
  sink l zero = l
  sink l (suc j) =
      let x = get_or l (suc j) d in
      let y = get_or l j d in
      elim (before x y) [ true ↦ sink (set (set l (suc j) y) j x) j | false ↦ l ]

-- The stable sort of math.rs, by insertion, and what it says that a list is in order and that a sort is stable. proofs/SortLaws.antt has the proofs. Document 01, "The train of files", item 3.
-- Definitions only.
use Rattle.std.specs.Prelude.{◌≡◌, Bool, true, false, not, ◌&&◌, cond}
use mathlib.Core.List.{List, [], ◌∷◌, reverse, Pairwise}

module _ {A : Type 0} (before : A → A → Bool) where
  -- x behind a sorted list, moved forward past the elements that it stands before; the list has its last element first
  unfoldable pub insert_last : A → List A → List A
  insert_last x [] = x ∷ []
  insert_last x (y ∷ l) = elim (before x y) [ true ↦ y ∷ insert_last x l | false ↦ x ∷ y ∷ l ]

  -- the elements put in one after another
  unfoldable pub sort_last : List A → List A → List A
  unfolding insert_last
  sort_last s [] = s
  sort_last s (x ∷ l) = sort_last (insert_last x s) l

  unfoldable pub sort : List A → List A
  unfolding sort_last
  sort l = reverse (sort_last [] l)

  -- no element stands before an earlier one
  abbrev pub Ordered : List A → Type 0
  Ordered = Pairwise (λ x y. before y x ≡ false)

-- a strict order by levels: of two elements at most one stands before the other, and "does not stand before" carries over
pub record Order {A : Type 0} (before : A → A → Bool) : Type 0 where
  pub asymmetric : (x y : A) → before x y ≡ true → before y x ≡ false
  pub carries : (x y z : A) → before x y ≡ false → before y z ≡ false → before x z ≡ false

-- neither stands before the other
abbrev pub level : {A : Type 0} → (A → A → Bool) → A → A → Bool
level before x y = not (before x y) && not (before y x)

-- the elements that pass a test, in their order
unfoldable pub keep : {A : Type 0} → (A → Bool) → List A → List A
keep p [] = []
keep p (x ∷ l) = cond (p x) (x ∷ keep p l) (keep p l)

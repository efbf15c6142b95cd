-- Insertion in place is the sort: moving the element at i forward among the sorted ones before it is `insert_last` on their reverse, and i of such steps leave the first i elements
-- sorted and the others where they were. A list filled from the front, and a sort of images. Assumes nothing.
use Prim.Native.Nat.{ℕ, zero, suc, ◌+◌, ◌-◌, ◌<◌}
use mathlib.Core.Path.{◌≡◌, refl, sym, ap, ◌∙◌}
use mathlib.Core.Bool.{Bool, true, false}
use mathlib.Core.List.{List, [], ◌∷◌, ◌++◌, map, reverse, reverse_aux, reverse_aux-eq, append_assoc}
use native.Mathlib.Omega.{arith}
use native.Mathlib.Nat.{not-suc-le-zero, zero-add, add-zero}
use native.Mathlib.Numerals.{add-one, sub-one}
use lib.ListN.{length, get_or, set, take, drop, replicate, length-reverse}
use lib.Seq.{take-suc, drop-cons, set_at, get_or-append_seam, length-take-le}
use Rattle.eigen.specs.Sort.{insert_last, sort_last, sort}
use Rattle.eigen.specs.Insertion.{sink}

-- k elements stand, the others still have their first value
pub fill_step : {A : Type 0} (w k : ℕ) (xs : List A) (z x : A) → length xs ≡ k → k < w → set (xs ++ replicate (w - k) z) k x ≡ (xs ++ (x ∷ [])) ++ replicate (w - suc k) z
fill_step w k xs z x e h =
    let n : w - k ≡ suc (w - suc k) = omega arith in
    rw (n, set_at xs z (replicate (w - suc k) z) x k e) (sym (append_assoc xs (x ∷ []) (replicate (w - suc k) z)))

-- two neighbours behind a list: the places, and their exchange
module _ {A : Type 0} (s : List A) (y x d : A) where
  later_at : (p : List A) → get_or (p ++ y ∷ x ∷ s) (suc (length p)) d ≡ x
  later_at [] = refl
  later_at (z ∷ p) = later_at p

  exchanged : (p : List A) → set (set (p ++ y ∷ x ∷ s) (suc (length p)) y) (length p) x ≡ p ++ x ∷ y ∷ s
  exchanged [] = refl
  exchanged (z ∷ p) = ap (λ (l : List A). z ∷ l) (exchanged p)

module _ {A : Type 0} (before : A → A → Bool) (d : A) where
  step : (l : List A) (j : ℕ) (b : Bool) → before (get_or l (suc j) d) (get_or l j d) ≡ b
      → sink before d l (suc j) ≡ elim b [ true ↦ sink before d (set (set l (suc j) (get_or l j d)) j (get_or l (suc j) d)) j | false ↦ l ]
  unfolding sink
  step l j b e = ap (λ (t : Bool). elim t as (λ _. List A) [ true ↦ sink before d (set (set l (suc j) (get_or l j d)) j (get_or l (suc j) d)) j | false ↦ l ]) e

  pub sink_on : (l : List A) (j : ℕ) → 0 < j → before (get_or l j d) (get_or l (j - 1) d) ≡ true
      → sink before d l j ≡ sink before d (set (set l j (get_or l (j - 1) d)) (j - 1) (get_or l j d)) (j - 1)
  sink_on l zero h e = absurd (not-suc-le-zero h)
  sink_on l (suc j) h e = rw sub-one (step l j true (rw sub-one at e))

  pub sink_stop : (l : List A) (j : ℕ) → 0 < j → before (get_or l j d) (get_or l (j - 1) d) ≡ false → sink before d l j ≡ l
  sink_stop l zero h e = absurd (not-suc-le-zero h)
  sink_stop l (suc j) h e = step l j false (rw sub-one at e)

  -- behind a reversed list
  sink_inserts : (r s : List A) (x : A) → sink before d (reverse_aux r (x ∷ s)) (length r) ≡ reverse_aux (insert_last before x r) s
  unfolding sink insert_last
  sink_inserts [] s x = refl
  sink_inserts (y ∷ r) s x = go (before x y) refl (sink_inserts r (y ∷ s) x)
    where
      l : List A
      l = reverse_aux r (y ∷ x ∷ s)

      x_at : get_or l (suc (length r)) d ≡ x
      x_at = rw (reverse_aux-eq r (y ∷ x ∷ s), ← length-reverse r) (later_at s y x d (reverse r))

      y_at : get_or l (length r) d ≡ y
      y_at = rw (reverse_aux-eq r (y ∷ x ∷ s), ← length-reverse r) (get_or-append_seam (reverse r) y (x ∷ s) d)

      moved : set (set l (suc (length r)) (get_or l (length r) d)) (length r) (get_or l (suc (length r)) d) ≡ reverse_aux r (x ∷ y ∷ s)
      moved =
          rw (x_at, y_at, reverse_aux-eq r (y ∷ x ∷ s), reverse_aux-eq r (x ∷ y ∷ s), ← length-reverse r) (exchanged s y x d (reverse r))

      go : (b : Bool) → before x y ≡ b → sink before d (reverse_aux r (x ∷ y ∷ s)) (length r) ≡ reverse_aux (insert_last before x r) (y ∷ s)
          → sink before d l (suc (length r)) ≡ reverse_aux (elim b [ true ↦ y ∷ insert_last before x r | false ↦ x ∷ y ∷ r ]) s
      go true e h = step l (length r) true (rw (x_at, y_at) e) ∙ rw moved h
      go false e h = step l (length r) false (rw (x_at, y_at) e)

  sort_last_snoc : (s l : List A) (x : A) → sort_last before s (l ++ (x ∷ [])) ≡ insert_last before x (sort_last before s l)
  unfolding sort_last
  sort_last_snoc s [] x = refl
  sort_last_snoc s (y ∷ l) x = sort_last_snoc (insert_last before y s) l x

  length_insert : (x : A) (l : List A) → length (insert_last before x l) ≡ suc (length l)
  unfolding insert_last
  length_insert x [] = refl
  length_insert x (y ∷ l) = go (before x y) (length_insert x l)
    where
      go : (b : Bool) → length (insert_last before x l) ≡ suc (length l) → length {A = A} (elim b [ true ↦ y ∷ insert_last before x l | false ↦ x ∷ y ∷ l ]) ≡ suc (suc (length l))
      go true h = ap suc h
      go false h = refl

  length_sort_last : (s l : List A) → length (sort_last before s l) ≡ length l + length s
  unfolding sort_last
  length_sort_last s [] = sym (zero-add (length s))
  length_sort_last s (x ∷ l) = length_sort_last (insert_last before x s) l ∙ rw (length_insert x s) (omega arith)

  -- the first i elements sorted in place
  abbrev pub sorted_to : List A → ℕ → List A
  sorted_to l i = reverse_aux (sort_last before [] (take i l)) (drop i l)

  pub sorted_start : (l : List A) → l ≡ sorted_to l 0
  unfolding sort_last
  sorted_start l = refl

  pub sorted_step : (l : List A) (i : ℕ) → i < length l → sink before d (sorted_to l i) i ≡ sorted_to l (i + 1)
  sorted_step l i h =
      let n : length (sort_last before [] (take i l)) ≡ i = length_sort_last [] (take i l) ∙ rw (length-take-le i l (omega arith)) (add-zero i) in
      rw (add-one, take-suc l i d h, sort_last_snoc [] (take i l) (get_or l i d), drop-cons l i d h)
      (rw n at (sink_inserts (sort_last before [] (take i l)) (drop (suc i) l) (get_or l i d)))

  pub sorted_end : (l : List A) (n : ℕ) → sorted_to l n ≡ sort before (take n l) ++ drop n l
  unfolding sort
  sorted_end l n = reverse_aux-eq (sort_last before [] (take n l)) (drop n l)

  pub length_sort : (l : List A) → length (sort before l) ≡ length l
  unfolding sort
  length_sort l = length-reverse (sort_last before [] l) ∙ length_sort_last [] l ∙ add-zero (length l)

-- the sort of images is the image of the sort, where the test sees the image alone
module _ {A B : Type 0} (before : A → A → Bool) (before' : B → B → Bool) (f : A → B) (same : (x y : A) → before x y ≡ before' (f x) (f y)) where
  insert_map : (x : A) (l : List A) → map f (insert_last before x l) ≡ insert_last before' (f x) (map f l)
  unfolding insert_last
  insert_map x [] = refl
  insert_map x (y ∷ l) = go (before x y) (same x y) (insert_map x l)
    where
      go : (b : Bool) → b ≡ before' (f x) (f y) → map f (insert_last before x l) ≡ insert_last before' (f x) (map f l)
          → map f (elim b [ true ↦ y ∷ insert_last before x l | false ↦ x ∷ y ∷ l ]) ≡ elim (before' (f x) (f y)) [ true ↦ f y ∷ insert_last before' (f x) (map f l) | false ↦ f x ∷ f y ∷ map f l ]
      go true e h = rw (← e) (ap (λ (t : List B). f y ∷ t) h)
      go false e h = rw (← e)

  sort_last_map : (s l : List A) → map f (sort_last before s l) ≡ sort_last before' (map f s) (map f l)
  unfolding sort_last
  sort_last_map s [] = refl
  sort_last_map s (x ∷ l) = sort_last_map (insert_last before x s) l ∙ rw (insert_map x s)

  reverse_aux_map : (l s : List A) → map f (reverse_aux l s) ≡ reverse_aux (map f l) (map f s)
  reverse_aux_map [] s = refl
  reverse_aux_map (x ∷ l) s = reverse_aux_map l (x ∷ s)

  pub sort_map : (l : List A) → map f (sort before l) ≡ sort before' (map f l)
  unfolding sort
  sort_map l = reverse_aux_map (sort_last before [] l) [] ∙ rw (sort_last_map [] l)

-- What the stable sort of `Sort` does: it rearranges its list, leaves no element behind one that it stands before, and keeps the order of those that stand level.
-- The first holds for any test, the others where the test is an order. Assumes nothing.
use mathlib.Core.Path.{◌≡◌, refl, sym, ap, ◌∙◌}
use mathlib.Core.Bool.{Bool, true, false, not, ◌&&◌, cond, true≢false, Bool-set}
use mathlib.Core.Logic.Or
use mathlib.Core.List.{List, [], ◌∷◌, ◌++◌, reverse_aux, reverse-reverse, Mem, eq-or-mem_of_mem-cons}
use mathlib.Core.List.Perm
use mathlib.Core.List.{Perm, perm_middle, reverse_perm}
use mathlib.Core.List.Permᴰ
use mathlib.Core.List.{Pairwise, Pairwise-cons, Pairwise-singleton, Pairwise-reverse}
use Rattle.eigen.specs.Sort.{insert_last, sort_last, sort, Order, Ordered, level, keep}

-- the order of a measure, upward and downward
pub order_up : {A B : Type 0} {before : B → B → Bool} → Order before → (f : A → B) → Order (λ x y. before (f x) (f y))
order_up o f = record { asymmetric = λ x y. o.asymmetric (f x) (f y); carries = λ x y z. o.carries (f x) (f y) (f z) }

pub order_down : {A B : Type 0} {before : B → B → Bool} → Order before → (f : A → B) → Order (λ x y. before (f y) (f x))
order_down o f = record { asymmetric = λ x y. o.asymmetric (f y) (f x); carries = λ x y z e h. o.carries (f z) (f y) (f x) h e }

both_false : (a b : Bool) → (not a && not b) ≡ true → (a ≡ false) × (b ≡ false)
both_false true b e = absurd (true≢false (sym e))
both_false false true e = absurd (true≢false (sym e))
both_false false false e = (refl, refl)

keep_swap : {A : Type 0} (a b : Bool) (x y : A) (l : List A) → (a ≡ true → b ≡ true → ⊥)
    → cond b (y ∷ cond a (x ∷ l) l) (cond a (x ∷ l) l) ≡ cond a (x ∷ cond b (y ∷ l) l) (cond b (y ∷ l) l)
keep_swap true true x y l h = absurd (h refl refl)
keep_swap true false x y l h = refl
keep_swap false true x y l h = refl
keep_swap false false x y l h = refl

keep_head : {A : Type 0} (b : Bool) (x : A) (l s : List A) → reverse_aux l (cond b (x ∷ s) s) ≡ reverse_aux (cond b (x ∷ l) l) s
keep_head true x l s = refl
keep_head false x l s = refl

keep_reverse : {A : Type 0} (p : A → Bool) (l s : List A) → keep p (reverse_aux l s) ≡ reverse_aux (keep p l) (keep p s)
unfolding keep
keep_reverse p [] s = refl
keep_reverse p (x ∷ l) s = keep_reverse p l (x ∷ s) ∙ keep_head (p x) x (keep p l) (keep p s)

module _ {A : Type 0} (before : A → A → Bool) where
  -- ---- a rearrangement

  insert_rearranges : (x : A) (l : List A) → Perm (insert_last before x l) (x ∷ l)
  unfolding insert_last
  insert_rearranges x [] = Perm.refl (x ∷ [])
  insert_rearranges x (y ∷ l) = go (before x y) (insert_rearranges x l)
    where
      go : (b : Bool) → Perm (insert_last before x l) (x ∷ l) → Perm (elim b [ true ↦ y ∷ insert_last before x l | false ↦ x ∷ y ∷ l ]) (x ∷ y ∷ l)
      go true h = Perm.trans (Perm.cons y h) (Perm.swap x y l)
      go false h = Perm.refl (x ∷ y ∷ l)

  sort_last_rearranges : (s l : List A) → Perm (sort_last before s l) (l ++ s)
  unfolding sort_last
  sort_last_rearranges s [] = Perm.refl s
  sort_last_rearranges s (x ∷ l) =
      Perm.trans (sort_last_rearranges (insert_last before x s) l) (Perm.trans (Perm.append_left l (insert_rearranges x s)) (perm_middle l s))

  pub sort_rearranges : (l : List A) → Perm (sort before l) l
  unfolding sort
  sort_rearranges l = Perm.trans (reverse_perm (sort_last before [] l)) (Perm.trans (sort_last_rearranges [] l) ∣ Permᴰ.append-nil l ∣₁)

  module _ (order : Order before) where
    -- ---- in order

    -- with the last element first
    abbrev Falling : List A → Type 0
    Falling = Pairwise (λ x y. before x y ≡ false)

    insert_falling : (x : A) (l : List A) → Falling l → Falling (insert_last before x l)
    unfolding insert_last
    insert_falling x [] h = Pairwise-singleton _ x
    insert_falling x (y ∷ l) h = go (before x y) refl (insert_falling x l (Pairwise-cons.0 h).1)
      where
        among : (z : A) → before x y ≡ true → Mem z (insert_last before x l) → before y z ≡ false
        among z e m =
            Or.elim (Bool-set (before y z) false) (eq-or-mem_of_mem-cons ((Perm.mem_iff (insert_rearranges x l)).0 m))
            (λ q. rw q (order.asymmetric x y e))
            ((Pairwise-cons.0 h).0 z)

        go : (b : Bool) → before x y ≡ b → Falling (insert_last before x l) → Falling (elim b [ true ↦ y ∷ insert_last before x l | false ↦ x ∷ y ∷ l ])
        go true e k = Pairwise.cons (λ z m. among z e m) k
        go false e k =
            Pairwise.cons
            (λ z m. Or.elim (Bool-set (before x z) false) (eq-or-mem_of_mem-cons m) (λ q. rw q e) (λ w. order.carries x y z e ((Pairwise-cons.0 h).0 z w))) h

    sort_last_falling : (s l : List A) → Falling s → Falling (sort_last before s l)
    unfolding sort_last
    sort_last_falling s [] h = h
    sort_last_falling s (x ∷ l) h = sort_last_falling (insert_last before x s) l (insert_falling x s h)

    pub sort_ordered : (l : List A) → Ordered before (sort before l)
    unfolding sort
    sort_ordered l = (Pairwise-reverse (λ x y. Bool-set (before y x) false)).1 (sort_last_falling [] l Pairwise.nil)

    -- ---- stable

    -- of two elements of which one stands before the other, at most one is level with z
    not_both : (z x y : A) → before x y ≡ true → level before z x ≡ true → level before z y ≡ true → ⊥
    not_both z x y e p q =
        true≢false (sym e ∙ order.carries x z y (both_false (before z x) (before x z) p).1 (both_false (before z y) (before y z) q).0)

    keep_insert : (z x : A) (l : List A) → keep (level before z) (insert_last before x l) ≡ keep (level before z) (x ∷ l)
    unfolding insert_last keep
    keep_insert z x [] = refl
    keep_insert z x (y ∷ l) = go (before x y) refl (keep_insert z x l)
      where
        go : (b : Bool) → before x y ≡ b → keep (level before z) (insert_last before x l) ≡ keep (level before z) (x ∷ l)
            → keep (level before z) (elim b [ true ↦ y ∷ insert_last before x l | false ↦ x ∷ y ∷ l ]) ≡ keep (level before z) (x ∷ y ∷ l)
        go true e h = rw h (keep_swap (level before z x) (level before z y) x y (keep (level before z) l) (not_both z x y e))
        go false e h = refl

    keep_sort_last : (z : A) (s l : List A) → keep (level before z) (sort_last before s l) ≡ reverse_aux (keep (level before z) l) (keep (level before z) s)
    unfolding sort_last keep
    keep_sort_last z s [] = refl
    keep_sort_last z s (x ∷ l) =
        keep_sort_last z (insert_last before x s) l
        ∙ ap (reverse_aux (keep (level before z) l)) (keep_insert z x s)
        ∙ keep_head (level before z x) x (keep (level before z) l) (keep (level before z) s)

    -- of the elements level with z, the sort keeps each and their order
    pub sort_stable : (z : A) (l : List A) → keep (level before z) (sort before l) ≡ keep (level before z) l
    unfolding sort keep
    sort_stable z l =
        keep_reverse (level before z) (sort_last before [] l) []
        ∙ rw (keep_sort_last z [] l) (reverse-reverse (keep (level before z) l))

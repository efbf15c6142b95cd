-- What parts of the scratch hold after a store and after a call, and that a call leaves other parts alone. By the library's laws on `take`, `drop` and `set`. Assumes
-- nothing.
use mathlib.Core.Path.{◌≡◌, refl, sym, ap, ◌∙◌}
use mathlib.Core.List.{List, ◌++◌, append-nil}
use Prim.Native.Nat.{ℕ, ◌+◌, ◌-◌, ◌≤◌, ◌<◌}
use native.Mathlib.Omega.{arith}
use native.Mathlib.Nat.{zero-add}
use lib.ListN.{length, get_or, set, take, drop, length-set, length-take, length-drop, length-append}
use lib.Seq.{length-take-le, take-set-le, drop-set-lt, take-set-lt, drop-set-add, get_or-take, get_or-drop, take-take, drop-drop, ext_get_or, take-append-add, take-add, drop-append-add, drop-length}
use lib.Ieee.{Float, nan}
use borrow.Rule.Slice.PartMut.{put_mid, Post-is}
use Rattle.least_squares.specs.Memory.{part, Kept}

-- ---- a part

pub part_length : (s : List Float) (o k : ℕ) → o + k ≤ length s → length (part s o k) ≡ k
part_length s o k h = length-take-le k (drop o s) (simp length-drop (omega arith))

pub part_at : (s : List Float) (o k i : ℕ) (d : Float) → i < k → get_or (part s o k) i d ≡ get_or s (o + i) d
part_at s o k i d h = rw (get_or-take, get_or-drop)

-- a store within a part
pub part_set : (s : List Float) (o k i : ℕ) (v : Float) → i < k → part (set s (o + i) v) o k ≡ set (part s o k) i v
part_set s o k i v h = rw (drop-set-add, take-set-lt)

-- a part of a part
pub part_part : (s : List Float) (o k a b : ℕ) → a + b ≤ k → part (part s o k) a b ≡ part s (o + a) b
part_part s o k a b h = ext_get_or nan64 (part (part s o k) a b) (part s (o + a) b) lengths at
  where
    nan64 : Float
    nan64 = lib.Ieee.nan

    lengths : length (part (part s o k) a b) ≡ length (part s (o + a) b)
    lengths = simp (length-take, length-drop) (omega arith)

    at : (i : ℕ) → i < length (part (part s o k) a b) → get_or (part (part s o k) a b) i nan64 ≡ get_or (part s (o + a) b) i nan64
    at i l =
        let m : i < b = omega (arith, simp length-take at l) in
        let n : a + i < k = omega arith in
        let e : o + (a + i) ≡ o + a + i = omega arith in
        part_at (part s o k) a b i nan64 m ∙ part_at s o k (a + i) nan64 n ∙ ap (λ (w : ℕ). get_or s w nan64) e ∙ sym (part_at s (o + a) b i nan64 m)

-- places whose doubles are all as they were: a part, the first k places, and a part of the places below hi
pub part_same : (s t : List Float) (o k : ℕ) → length t ≡ length s → ((i : ℕ) → i < k → get_or t (o + i) nan ≡ get_or s (o + i) nan) → part t o k ≡ part s o k
part_same s t o k e h = ext_get_or nan (part t o k) (part s o k) (simp (length-take, length-drop) (omega arith)) at
  where
    at : (i : ℕ) → i < length (part t o k) → get_or (part t o k) i nan ≡ get_or (part s o k) i nan
    at i l =
        let m : i < k = omega (arith, simp length-take at l) in
        part_at t o k i nan m ∙ h i m ∙ sym (part_at s o k i nan m)

pub take_same : (s t : List Float) (k : ℕ) → length t ≡ length s → ((i : ℕ) → i < k → get_or t i nan ≡ get_or s i nan) → take k t ≡ take k s
take_same s t k e h = part_same s t 0 k e (λ i l. rw (zero-add i) (h i l))

pub part_below : (s t : List Float) (hi o k : ℕ) → length t ≡ length s → ((q : ℕ) → q < hi → get_or t q nan ≡ get_or s q nan) → o + k ≤ hi → part t o k ≡ part s o k
part_below s t hi o k e h l = part_same s t o k e (λ i m. h (o + i) (omega arith))

-- places whose first lo doubles are the same: each double, and each part
pub taken_at : (s t : List Float) (lo j : ℕ) (d : Float) → take lo t ≡ take lo s → j < lo → get_or t j d ≡ get_or s j d
taken_at s t lo j d e h = sym (get_or-take lo t j d h) ∙ ap (λ (w : List Float). get_or w j d) e ∙ get_or-take lo s j d h

pub taken_part : (s t : List Float) (lo o k : ℕ) → length t ≡ length s → take lo t ≡ take lo s → o + k ≤ lo → part t o k ≡ part s o k
taken_part s t lo o k z e h = part_below s t lo o k z (λ q l. taken_at s t lo q nan e l) h

-- ---- what a call leaves alone

pub kept_refl : (s : List Float) (lo hi : ℕ) → Kept s s lo hi
kept_refl s lo hi = record { size = refl; below = refl; above = refl }

pub kept_set : (s t : List Float) (lo hi j : ℕ) (v : Float) → lo ≤ j → j < hi → Kept s t lo hi → Kept s (set t j v) lo hi
kept_set s t lo hi j v l h k =
    record { size = length-set t j v ∙ k.size; below = take-set-le lo t j v l ∙ k.below; above = drop-set-lt hi t j v h ∙ k.above }

pub kept_trans : (s t u : List Float) (lo hi : ℕ) → Kept s t lo hi → Kept t u lo hi → Kept s u lo hi
kept_trans s t u lo hi a b = record { size = b.size ∙ a.size; below = b.below ∙ a.below; above = b.above ∙ a.above }

less_taken : (s t : List Float) (lo lo' : ℕ) → lo' ≤ lo → take lo t ≡ take lo s → take lo' t ≡ take lo' s
less_taken s t lo lo' h e = sym (take-take lo' lo t h) ∙ ap (take lo') e ∙ take-take lo' lo s h

more_dropped : (s t : List Float) (hi hi' : ℕ) → hi ≤ hi' → drop hi t ≡ drop hi s → drop hi' t ≡ drop hi' s
more_dropped s t hi hi' h e =
    let q : hi + (hi' - hi) ≡ hi' = omega arith in
    ap (λ (w : ℕ). drop w t) (sym q) ∙ sym (drop-drop (hi' - hi) hi t) ∙ ap (drop (hi' - hi)) e ∙ drop-drop (hi' - hi) hi s ∙ ap (λ (w : ℕ). drop w s) q

-- within wider bounds
pub kept_wider : (s t : List Float) (lo hi lo' hi' : ℕ) → lo' ≤ lo → hi ≤ hi' → Kept s t lo hi → Kept s t lo' hi'
kept_wider s t lo hi lo' hi' l h k = record { size = k.size; below = less_taken s t lo lo' l k.below; above = more_dropped s t hi hi' h k.above }

-- the parts and the places before and behind
pub kept_part_below : (s t : List Float) (lo hi o k : ℕ) → o + k ≤ lo → Kept s t lo hi → part t o k ≡ part s o k
kept_part_below s t lo hi o k h r = taken_part s t lo o k r.size r.below h

pub kept_part_above : (s t : List Float) (lo hi o k : ℕ) → hi ≤ o → Kept s t lo hi → part t o k ≡ part s o k
kept_part_above s t lo hi o k h r = ap (take k) (more_dropped s t hi o h r.above)

pub kept_at_below : (s t : List Float) (lo hi j : ℕ) (d : Float) → j < lo → Kept s t lo hi → get_or t j d ≡ get_or s j d
kept_at_below s t lo hi j d h r = taken_at s t lo j d r.below h

pub kept_at_above : (s t : List Float) (lo hi j : ℕ) (d : Float) → hi ≤ j → Kept s t lo hi → get_or t j d ≡ get_or s j d
kept_at_above s t lo hi j d h r =
    let e : hi + (j - hi) ≡ j = omega arith in
    ap (λ (w : ℕ). get_or t w d) (sym e) ∙ sym (get_or-drop hi t (j - hi) d) ∙ ap (λ (w : List Float). get_or w (j - hi) d) r.above ∙ get_or-drop hi s (j - hi) d ∙ ap (λ (w : ℕ). get_or s w d) e

-- ---- a part that was lent from a on is back: what stood before a, and what the callee left
pub put_tail : (a : ℕ) (s q : List Float) → a ≤ length s → put_mid a (length s - a) s q ≡ take a s ++ q
put_tail a s q h = rw (Post-is a (length s) s h, drop-length, append-nil)

-- what the callee kept of its part is kept of the whole
pub kept_tail : (a : ℕ) (s q : List Float) (lo hi : ℕ) → a ≤ length s → Kept (drop a s) q lo hi → Kept s (take a s ++ q) (a + lo) (a + hi)
kept_tail a s q lo hi h k =
    record {
      size = length-append (take a s) q ∙ (let e = k.size in let l = length-take-le a s h in let d = length-drop a s in omega arith);
      below =
          ap (λ (w : ℕ). take (w + lo) (take a s ++ q)) (sym (length-take-le a s h)) ∙ take-append-add (take a s) q lo ∙ ap (λ (w : List Float). take a s ++ w) k.below
          ∙ sym (take-add a lo s);
      above =
          ap (λ (w : ℕ). drop (w + hi) (take a s ++ q)) (sym (length-take-le a s h)) ∙ drop-append-add (take a s) q hi ∙ k.above ∙ drop-drop hi a s;
    }

-- the parts of the whole after the call, by the callee's
pub tail_part : (a : ℕ) (s q : List Float) (o k : ℕ) → a ≤ length s → part (take a s ++ q) (a + o) k ≡ part q o k
tail_part a s q o k h = ap (take k) (ap (λ (w : ℕ). drop (w + o) (take a s ++ q)) (sym (length-take-le a s h)) ∙ drop-append-add (take a s) q o)

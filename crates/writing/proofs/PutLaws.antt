-- Bytes put to memory one piece after another. By the library's laws on `take`, `drop` and `set`. Assumes nothing.
use mathlib.Core.Path.{◌≡◌, refl, sym, ap, subst, ◌∙◌}
use mathlib.Core.List.{List, [], ◌∷◌, ◌++◌, append_assoc}
use Prim.Native.Nat.{ℕ, zero, suc, ◌+◌, ◌*◌, ◌/◌, ◌^◌, ◌≤◌, ◌<◌}
use native.Mathlib.Omega.{arith}
use native.Mathlib.Numerals.{add-one}
use native.Mathlib.Nat.{mul-suc}
use lib.ListN.{length, get_or, set, take, drop, length-drop, length-append, take-append-drop}
use lib.Seq.{length-take-le, take_at, drop_at, take-append-le, take-take, drop-drop, take-suc, set_split}
use native.Mathlib.Nat.{div-one, pow-suc, div-div-eq-div-mul}
use Rattle.std.specs.Int.{w64, byte_at, bytes_low_first, to_le_bytes}
use Rattle.writing.specs.Bytes.{little_endian, joined, Put}

-- ---- one piece after another

pub put_size : (s t : List ℕ) (o r : ℕ) (l : List ℕ) → Put s t o r l → length t ≡ length s
put_size s t o r l p =
    let n = p.next in
    let h = p.room in
    let a = length-take-le o s (omega arith) in
    let b = length-append (take o s) (l ++ drop r s) in
    let c = length-append l (drop r s) in
    let d = length-drop r s in
    ap length p.text ∙ (omega arith)

pub put_nothing : (s : List ℕ) (o : ℕ) → o ≤ length s → Put s s o o []
put_nothing s o h = record { next = omega arith; room = h; text = sym (take-append-drop o s) }

pub put_one : (s : List ℕ) (o : ℕ) (b : ℕ) → o < length s → Put s (set s o b) o (o + 1) (b ∷ [])
put_one s o b h =
    record { next = refl; room = omega arith; text = set_split s o b h ∙ ap (λ (w : ℕ). take o s ++ (b ∷ drop w s)) (sym (add-one o)) }

module _ (s t : List ℕ) (o q : ℕ) (a : List ℕ) (p : Put s t o q a) where
  front : length (take o s ++ a) ≡ q
  front =
      let n = p.next in
      let h = p.room in
      let b = length-take-le o s (omega arith) in
      length-append (take o s) a ∙ (omega arith)

  halves : t ≡ (take o s ++ a) ++ drop q s
  halves = p.text ∙ sym (append_assoc (take o s) a (drop q s))

  before_it : take q t ≡ take o s ++ a
  before_it = ap (take q) halves ∙ take_at (take o s ++ a) (drop q s) q front

  behind_it : (k : ℕ) → drop (q + k) t ≡ drop (q + k) s
  behind_it k = sym (drop-drop k q t) ∙ ap (drop k) (ap (drop q) halves ∙ drop_at (take o s ++ a) (drop q s) q front) ∙ drop-drop k q s

pub put_then : (s t u : List ℕ) (o q r : ℕ) (a b : List ℕ) → Put s t o q a → Put t u q r b → Put s u o r (a ++ b)
put_then s t u o q r a b x y =
    let n = x.next in
    let m = y.next in
    let h = y.room in
    let z = put_size s t o q a x in
    let l = length-append a b in
    record {
      next = omega arith;
      room = omega arith;
      text =
          y.text ∙ ap (λ (w : List ℕ). w ++ (b ++ drop r t)) (before_it s t o q a x)
          ∙ ap (λ (w : List ℕ). (take o s ++ a) ++ (b ++ w)) (ap (λ (k : ℕ). drop k t) m ∙ behind_it s t o q a x (length b) ∙ ap (λ (k : ℕ). drop k s) (sym m))
          ∙ append_assoc (take o s) a (b ++ drop r s)
          ∙ ap (λ (w : List ℕ). take o s ++ w) (sym (append_assoc a b (drop r s)));
    }

-- equal bytes
pub put_as : (s t : List ℕ) (o r : ℕ) (l l' : List ℕ) → l ≡ l' → Put s t o r l → Put s t o r l'
put_as s t o r l l' e p = subst (λ (w : List ℕ). Put s t o r w) e p

-- one byte before a piece
pub put_before : (s t : List ℕ) (i q r : ℕ) (l : List ℕ) (b : ℕ) → q ≡ i + 1 → Put s t q r l → Put s (set t i b) i r (b ∷ l)
put_before s t i q r l b e p =
    let n = p.next in
    let h = p.room in
    let z = put_size s t q r l p in
    let k : i < length t = omega arith in
    let f : length (take q s) ≡ q = length-take-le q s (omega arith) in
    let g : i ≤ length (take q s) = omega arith in
    let j : i ≤ q = omega arith in
    record {
      next = omega arith;
      room = h;
      text =
          set_split t i b k
          ∙ ap (λ (w : List ℕ). w ++ (b ∷ drop (suc i) t)) (ap (take i) p.text ∙ take-append-le i (take q s) (l ++ drop r s) g ∙ take-take i q s j)
          ∙ ap (λ (w : List ℕ). take i s ++ (b ∷ w))
          (ap (λ (w : ℕ). drop w t) (sym (add-one i) ∙ sym e) ∙ ap (drop q) p.text ∙ drop_at (take q s) (l ++ drop r s) q f);
    }

-- one byte more of a word
pub put_more : (s t : List ℕ) (o i : ℕ) (l : List ℕ) → i < length l → Put s t o (o + i) (take i l) → o + i < length s
    → Put s (set t (o + i) (get_or l i 0)) o (o + (i + 1)) (take (i + 1) l)
put_more s t o i l h p k =
    let z = put_size s t o (o + i) (take i l) p in
    let e : o + i + 1 ≡ o + (i + 1) = omega arith in
    subst (λ (w : ℕ). Put s (set t (o + i) (get_or l i 0)) o w (take (i + 1) l)) e
    (subst (λ (w : List ℕ). Put s (set t (o + i) (get_or l i 0)) o (o + i + 1) w) (sym (take-suc l i 0 h) ∙ ap (λ (w : ℕ). take w l) (sym (add-one i)))
    (put_then s t (set t (o + i) (get_or l i 0)) o (o + i) (o + i + 1) (take i l) (get_or l i 0 ∷ []) p (put_one t (o + i) (get_or l i 0) (omega arith))))

-- none of the word's bytes, and all of them
pub put_start : (s : List ℕ) (o : ℕ) (l : List ℕ) → o ≤ length s → Put s s o (o + 0) (take 0 l)
put_start s o l h = let e : o ≡ o + 0 = omega arith in subst (λ (w : ℕ). Put s s o w []) e (put_nothing s o h)

-- ---- a number, from its lowest byte on

-- byte i of n, counted from the lowest, and those above it
low_first : (k i n : ℕ) → bytes_low_first i k n ≡ little_endian k (n / 256 ^ i)
unfolding little_endian
low_first zero i n = refl
low_first (suc k) zero n =
    let e : n / 256 ≡ n / 256 ^ 1 = refl in
    rw (div-one n, low_first k 1 n, e)
low_first (suc k) (suc i) n = rw (low_first k (suc (suc i)) n, pow-suc 256 (suc i), ← div-div-eq-div-mul n (256 ^ suc i) 256)

take_low : (k m i n : ℕ) → k ≤ m → take k (bytes_low_first i m n) ≡ bytes_low_first i k n
take_low zero m i n h = refl
take_low (suc k) zero i n h = absurd (omega arith)
take_low (suc k) (suc m) i n h = ap (λ (w : List ℕ). byte_at i n ∷ w) (take_low k m (suc i) n (omega arith))

-- the lowest k of the eight bytes of n
pub low_bytes : (k n : ℕ) → k ≤ 8 → take k (to_le_bytes w64 n) ≡ little_endian k n
low_bytes k n h = take_low k 8 0 n h ∙ low_first k 0 n ∙ ap (little_endian k) (div-one n)

-- bytes of equal numbers
pub put_number_as : (s t : List ℕ) (o r k n n' : ℕ) → n ≡ n' → Put s t o r (little_endian k n) → Put s t o r (little_endian k n')
put_number_as s t o r k n n' e p = subst (λ (w : ℕ). Put s t o r (little_endian k w)) e p

-- ---- pieces of a kind

pub joined_next : (piece : ℕ → List ℕ) (j : ℕ) → joined piece (j + 1) ≡ joined piece j ++ piece j
unfolding joined
joined_next piece j = ap (joined piece) (add-one j)

pub joined_at_most : (piece : ℕ → List ℕ) (b k : ℕ) → ((j : ℕ) → j < k → length (piece j) ≤ b) → length (joined piece k) ≤ b * k
unfolding joined
joined_at_most piece b zero h = omega arith
joined_at_most piece b (suc k) h =
    let w = joined_at_most piece b k (λ j l. h j (omega arith)) in
    let v = h k (omega arith) in
    let a = length-append (joined piece k) (piece k) in
    let m = mul-suc b k in
    omega arith

-- a turn of a loop that writes them
pub joined_step : (piece : ℕ → List ℕ) (s t u : List ℕ) (o q r j : ℕ) → Put s t o q (joined piece j) → Put t u q r (piece j) → Put s u o r (joined piece (j + 1))
joined_step piece s t u o q r j x y =
    subst (λ (w : List ℕ). Put s u o r w) (sym (joined_next piece j)) (put_then s t u o q r (joined piece j) (piece j) x y)

pub joined_start : (piece : ℕ → List ℕ) (s : List ℕ) (o : ℕ) → o ≤ length s → Put s s o o (joined piece 0)
unfolding joined
joined_start piece s o h = put_nothing s o h

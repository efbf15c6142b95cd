-- Numbers as bytes and back: what stands in a list as the bytes of a number or of doubles is read as them, and what was read gives those bytes again. The part of a list
-- from a place on carries both ways: its value is the number that is read there, and parts that follow one another join to one. Assumes nothing.
use mathlib.Core.Path.{◌≡◌, refl, sym, ap, ◌∙◌}
use mathlib.Core.Bool.{false}
use mathlib.Core.List.{List, [], ◌∷◌, ◌++◌}
use mathlib.Core.Logic.{⊎_elim}
use Prim.Native.Nat.{ℕ, zero, suc, ◌+◌, ◌*◌, ◌/◌, ◌%◌, ◌^◌, ◌≤◌, ◌<◌}
use native.Mathlib.Nat.{add-zero, mul-zero, mul-suc, eq-or-lt_of_le, le_of_suc-le-suc, pow-suc, div-lt_iff_lt-mul, mod-add-div}
use native.Mathlib.Omega.{arith}
use lib.ListN.{length, get_or, take, drop, length-append, length-drop, get_or-append}
use lib.Seq.{length-take-le, take_all, take-nil, take-suc, drop-cons, take_at, drop_at, get_or-take, get_or-drop, get_or_at, drop-drop, take-take, take-add}
use lib.Dec.{T}
use lib.Ieee.{Float, nan, binary64, is_nan, fits, to_bits, of_bits}
use lib.Ieee.Bits.{of_bits-to_bits, to_bits-lt}
use Rattle.records.specs.Record.{byte_at, u16_at, u32_at, u64_at, double_at}
use Rattle.format.proofs.FieldLaws.{bits_back}
use Rattle.writing.specs.Bytes.{part, little_endian, double_bytes, joined, doubles_bytes}
use Rattle.writing.specs.Writing.{doubles_at, AllBytes, AllDoubles}

-- ---- parts of a list

module _ {A : Type 0} where
  pub part_in : (s a l c : List A) (o n : ℕ) → s ≡ a ++ (l ++ c) → length a ≡ o → length l ≡ n → part s o n ≡ l
  part_in s a l c o n e h k = rw (e, drop_at a (l ++ c) o h) (take_at l c n k)

  -- two parts, one behind the other
  pub part_join : (s : List A) (o p j k n : ℕ) → o + j ≡ p → j + k ≡ n → part s o j ++ part s p k ≡ part s o n
  part_join s o p j k n e h = rw (← e, ← h, ← (drop-drop j o s)) (sym (take-add j k (drop o s)))

  pub part_then : {l m : List A} (s : List A) (o p j k n : ℕ) → o + j ≡ p → j + k ≡ n → l ≡ part s o j → m ≡ part s p k → l ++ m ≡ part s o n
  part_then s o p j k n e h x y = rw (x, y) (part_join s o p j k n e h)

  pub part_first : (s l m : List A) (o j n : ℕ) → j ≤ n → length l ≡ j → part s o n ≡ l ++ m → part s o j ≡ l
  part_first s l m o j n h k e = sym (take-take j n (drop o s) h) ∙ ap (take j) e ∙ take_at l m j k

  pub part_rest : (s l m : List A) (o p j k n : ℕ) → o + j ≡ p → j + k ≡ n → length l ≡ j → part s o n ≡ l ++ m → part s p k ≡ m
  part_rest s l m o p j k n e h q f =
      let a : part s o j ++ part s p k ≡ l ++ m = part_join s o p j k n e h ∙ f in
      let b : part s o j ≡ l = part_first s l m o j n (omega arith) q f in
      sym (drop_at l (part s p k) j q) ∙ ap (drop j) (ap (λ (x : List A). x ++ part s p k) (sym b) ∙ a) ∙ drop_at l m j q

  pub part_length : (s : List A) (o n : ℕ) → o + n ≤ length s → length (part s o n) ≡ n
  part_length s o n h = length-take-le n (drop o s) (omega (arith, length-drop o s))

  pub part_one : (d : A) (s : List A) (o : ℕ) → o < length s → get_or s o d ∷ [] ≡ part s o 1
  part_one d s o h = rw (drop-cons s o d h)

  pub part_more : (d : A) (s : List A) (o n : ℕ) → o + n < length s → part s o n ++ (get_or s (o + n) d ∷ []) ≡ part s o (suc n)
  part_more d s o n h = rw (take-suc (drop o s) n d (omega (arith, length-drop o s)), get_or-drop o s n d)

  pub part_get : (d : A) (s : List A) (o n i : ℕ) → i < n → get_or (part s o n) i d ≡ get_or s (o + i) d
  part_get d s o n i h = rw (get_or-take n (drop o s) i d h) (get_or-drop o s i d)

-- ---- numbers

-- the value of bytes, the lowest first
unfoldable pub value_of : List ℕ → ℕ
value_of [] = 0
value_of (b ∷ l) = b + 256 * value_of l

pub little_length : (k n : ℕ) → length (little_endian k n) ≡ k
unfolding little_endian
little_length zero n = refl
little_length (suc k) n = ap suc (little_length k _)

pub little_value : (k n : ℕ) → n < 256 ^ k → value_of (little_endian k n) ≡ n
unfolding little_endian value_of
little_value zero n h = omega arith
little_value (suc k) n h =
    let v : value_of (little_endian k (n / 256)) ≡ n / 256 = little_value k (n / 256) ((div-lt_iff_lt-mul (omega arith)).1 (rw pow-suc at h)) in
    rw v (mod-add-div n 256)

pub value_little : (l : List ℕ) (k : ℕ) → length l ≡ k → AllBytes l → little_endian k (value_of l) ≡ l
unfolding little_endian value_of
value_little [] zero h b = refl
value_little [] (suc k) h b = absurd (omega arith)
value_little (x ∷ l) zero h b = absurd (omega arith)
value_little (x ∷ l) (suc k) h b =
    let small : x < 256 = b 0 in
    let low : (x + 256 * value_of l) % 256 ≡ x = omega arith in
    let rest : (x + 256 * value_of l) / 256 ≡ value_of l = omega arith in
    rw (low, rest) (ap (λ (r : List ℕ). x ∷ r) (value_little l k (omega arith) (λ i. b (suc i))))

-- a part of bytes is bytes
take_bytes : (n : ℕ) (l : List ℕ) → AllBytes l → AllBytes (take n l)
take_bytes zero l b i = omega arith
take_bytes (suc n) [] b i = omega arith
take_bytes (suc n) (x ∷ l) b zero = b 0
take_bytes (suc n) (x ∷ l) b (suc i) = take_bytes n l (λ j. b (suc j)) i

pub part_bytes : (s : List ℕ) (o n : ℕ) → AllBytes s → AllBytes (part s o n)
part_bytes s o n b = take_bytes n (drop o s) (λ i. rw (get_or-drop o s i 0) (b (o + i)))

-- the value of n bytes from place o on; those past the end count as 0, where they are read too
abbrev pub value_at : List ℕ → ℕ → ℕ → ℕ
value_at s o n = value_of (part s o n)

value_first : (k : ℕ) (l : List ℕ) → value_of (take (suc k) l) ≡ byte_at l 0 + 256 * value_of (take k (drop 1 l))
unfolding value_of
value_first k [] = rw take-nil
value_first k (x ∷ l) = refl

value_more : (s : List ℕ) (o p k : ℕ) → o + 1 ≡ p → value_at s o (suc k) ≡ byte_at s o + 256 * value_at s p k
value_more s o p k e = rw (value_first k (drop o s), get_or-drop o s 0 0, drop-drop 1 o s, e, add-zero o)

value_none : (s : List ℕ) (o : ℕ) → value_at s o 0 ≡ 0
unfolding value_of
value_none s o = refl

value_four : (s : List ℕ) (o p q r t k : ℕ) → o + 1 ≡ p → p + 1 ≡ q → q + 1 ≡ r → r + 1 ≡ t
    → value_at s o (suc (suc (suc (suc k)))) ≡ byte_at s o + byte_at s p * 0x100 + byte_at s q * 0x1_0000 + byte_at s r * 0x100_0000 + 0x1_0000_0000 * value_at s t k
value_four s o p q r t k a b c d =
    omega (arith, value_more s o p (suc (suc (suc k))) a, value_more s p q (suc (suc k)) b, value_more s q r (suc k) c, value_more s r t k d)

-- the numbers that are read at a place are the values of the bytes there
pub u16_value : (s : List ℕ) (o : ℕ) → u16_at s o ≡ value_at s o 2
u16_value s o = omega (arith, value_more s o (o + 1) 1 refl, value_more s (o + 1) (o + 2) 0 (omega arith), value_none s (o + 2))

pub u32_value : (s : List ℕ) (o : ℕ) → u32_at s o ≡ value_at s o 4
u32_value s o =
    let low = value_four s o (o + 1) (o + 2) (o + 3) (o + 4) 0 refl (omega arith) (omega arith) (omega arith) in
    omega (arith, value_none s (o + 4))

pub u64_value : (s : List ℕ) (o : ℕ) → u64_at s o ≡ value_at s o 8
u64_value s o =
    let low = value_four s o (o + 1) (o + 2) (o + 3) (o + 4) 4 refl (omega arith) (omega arith) (omega arith) in
    let high = value_four s (o + 4) (o + 5) (o + 6) (o + 7) (o + 8) 0 (omega arith) (omega arith) (omega arith) (omega arith) in
    omega (arith, value_none s (o + 8))

-- ---- from the bytes to the number

pub u16_part : (s : List ℕ) (o n : ℕ) → part s o 2 ≡ little_endian 2 n → n < 0x1_0000 → u16_at s o ≡ n
u16_part s o n e h = u16_value s o ∙ ap value_of e ∙ little_value 2 n h

pub u32_part : (s : List ℕ) (o n : ℕ) → part s o 4 ≡ little_endian 4 n → n < 0x1_0000_0000 → u32_at s o ≡ n
u32_part s o n e h = u32_value s o ∙ ap value_of e ∙ little_value 4 n h

pub u64_part : (s : List ℕ) (o n : ℕ) → part s o 8 ≡ little_endian 8 n → n < 0x1_0000_0000_0000_0000 → u64_at s o ≡ n
u64_part s o n e h = u64_value s o ∙ ap value_of e ∙ little_value 8 n h

pub double_part : (s : List ℕ) (o : ℕ) (x : Float) → part s o 8 ≡ double_bytes x → T (fits binary64 x) → double_at s o ≡ x
unfolding double_at
double_part s o x e f = ap (of_bits binary64) (u64_part s o (to_bits binary64 x) e (to_bits-lt binary64 x f)) ∙ of_bits-to_bits binary64 x f

-- ---- pieces of one width

pub joined_length : (piece : ℕ → List ℕ) (w n : ℕ) → ((i : ℕ) → i < n → length (piece i) ≡ w) → length (joined piece n) ≡ w * n
unfolding joined
joined_length piece w zero h = omega arith
joined_length piece w (suc n) h =
    let a = joined_length piece w n (λ i l. h i (omega arith)) in
    let b = h n (omega arith) in
    omega (arith, length-append (joined piece n) (piece n), mul-suc w n)

-- pieces that are the parts of a list, one behind the other, are one part
pub joined_parts : (piece : ℕ → List ℕ) (w n : ℕ) (s : List ℕ) (o : ℕ) → ((i : ℕ) → i < n → piece i ≡ part s (o + w * i) w) → joined piece n ≡ part s o (w * n)
unfolding joined
joined_parts piece w zero s o h = rw mul-zero
joined_parts piece w (suc n) s o h =
    rw (joined_parts piece w n s o (λ i l. h i (omega arith)), h n (omega arith)) (part_join s o (o + w * n) (w * n) w (w * suc n) refl (sym (mul-suc w n)))

-- ---- doubles

pub doubles_length : (xs : List Float) (b n : ℕ) → length (doubles_bytes xs b n) ≡ 8 * n
doubles_length xs b n = joined_length (λ i. double_bytes (get_or xs (b + i) nan)) 8 n (λ i l. little_length 8 (to_bits binary64 (get_or xs (b + i) nan)))

pub doubles_in : (s a c : List ℕ) (o : ℕ) (xs : List Float) (b n : ℕ) → s ≡ a ++ (doubles_bytes xs b n ++ c) → length a ≡ o → part s o (8 * n) ≡ doubles_bytes xs b n
doubles_in s a c o xs b n e h = part_in s a (doubles_bytes xs b n) c o (8 * n) e h (doubles_length xs b n)

pub doubles_part : (s : List ℕ) (o : ℕ) (xs : List Float) (b n : ℕ) → AllDoubles xs → b + n ≤ length xs → part s o (8 * n) ≡ doubles_bytes xs b n
    → doubles_at s o n ≡ part xs b n
unfolding joined doubles_at
doubles_part s o xs b zero f h e = refl
doubles_part s o xs b (suc n) f h e =
    let k = doubles_length xs b n in
    let first = part_first s (doubles_bytes xs b n) _ o (8 * n) (8 * suc n) (omega arith) k e in
    let last = part_rest s (doubles_bytes xs b n) _ o (o + 8 * n) (8 * n) 8 (8 * suc n) refl (omega arith) k e in
    rw (doubles_part s o xs b n f (omega arith) first, double_part s (o + 8 * n) (get_or xs (b + n) nan) last (f (b + n))) (part_more nan xs b n (omega arith))

pub doubles_at_length : (s : List ℕ) (o n : ℕ) → length (doubles_at s o n) ≡ n
unfolding doubles_at
doubles_at_length s o zero = refl
doubles_at_length s o (suc n) = omega (arith, length-append (doubles_at s o n) (double_at s (o + 8 * n) ∷ []), doubles_at_length s o n)

pub doubles_at_get : (s : List ℕ) (o n i : ℕ) → i < n → get_or (doubles_at s o n) i nan ≡ double_at s (o + 8 * i)
unfolding doubles_at
doubles_at_get s o zero i h = absurd (omega arith)
doubles_at_get s o (suc n) i h =
    let k = doubles_at_length s o n in
    ⊎_elim (λ (e : i ≡ n). rw e (get_or_at (doubles_at s o n) (double_at s (o + 8 * n)) [] nan n k))
    (λ (l : i < n). get_or-append (doubles_at s o n) _ nan i (omega arith) ∙ doubles_at_get s o n i l) (eq-or-lt_of_le (le_of_suc-le-suc h))

-- what was read is all of its list
pub doubles_at_all : (s : List ℕ) (o n : ℕ) → part (doubles_at s o n) 0 n ≡ doubles_at s o n
doubles_at_all s o n = take_all n (doubles_at s o n) (omega (arith, doubles_at_length s o n))

-- ---- from the number to the bytes

pub little_again : (s : List ℕ) (o k : ℕ) → AllBytes s → o + k ≤ length s → little_endian k (value_at s o k) ≡ part s o k
little_again s o k b h = value_little (part s o k) k (part_length s o k h) (part_bytes s o k b)

pub u16_again : (s : List ℕ) (o : ℕ) → AllBytes s → o + 2 ≤ length s → little_endian 2 (u16_at s o) ≡ part s o 2
u16_again s o b h = ap (little_endian 2) (u16_value s o) ∙ little_again s o 2 b h

pub double_again : (s : List ℕ) (o : ℕ) → AllBytes s → o + 8 ≤ length s → is_nan (double_at s o) ≡ false → double_bytes (double_at s o) ≡ part s o 8
double_again s o b h k = ap (little_endian 8) (bits_back s o b k ∙ u64_value s o) ∙ little_again s o 8 b h

-- none of the n doubles from place o on is a NaN
abbrev pub AllNumbers : List ℕ → ℕ → ℕ → Type 0
AllNumbers s o n = (i : ℕ) → i < n → is_nan (double_at s (o + 8 * i)) ≡ false

-- n doubles that were read, wherever they stand in a list by now
pub doubles_again : (s : List ℕ) (o : ℕ) (xs : List Float) (b n : ℕ) → AllBytes s → o + 8 * n ≤ length s → AllNumbers s o n → part xs b n ≡ doubles_at s o n
    → doubles_bytes xs b n ≡ part s o (8 * n)
doubles_again s o xs b n a h k e =
    joined_parts _ 8 n s o
    (λ i l.
    let x : get_or xs (b + i) nan ≡ double_at s (o + 8 * i) = sym (part_get nan xs b n i l) ∙ ap (λ (r : List Float). get_or r i nan) e ∙ doubles_at_get s o n i l in
    ap double_bytes x ∙ double_again s (o + 8 * i) a (omega arith) (k i l))

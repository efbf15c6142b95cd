-- A body and a relation in parts and in bytes: reading the bytes written for the parts gives the parts, and writing the parts read from bytes that pass the tests gives
-- those bytes. Field by field: each stands as a part of the list, and the parts join. Test 5 puts 0 into every byte that no part holds, and test 7 leaves no NaN, the one
-- double whose bits are not kept. Assumes nothing.
use mathlib.Core.Path.{◌≡◌, refl, sym, ap, ◌∙◌}
use mathlib.Core.Bool.{Bool, true, false, cond}
use mathlib.Core.List.{List, [], ◌∷◌, ◌++◌, append-nil}
use mathlib.Core.Logic.{⊎_elim}
use Prim.Native.Nat.{ℕ, zero, suc, ◌+◌, ◌-◌, ◌*◌, ◌≤◌, ◌<◌}
use native.Mathlib.Nat.{eq-or-lt_of_le, le_of_suc-le-suc, eq-zero-or-pos, add-zero}
use native.Mathlib.Omega.{arith}
use lib.ListN.{length, get_or, length-append}
use lib.Seq.{take_all, ext_get_or}
use lib.Ieee.{Float}
use borrow.Author.Tests.{eqb-true}
use Rattle.records.specs.Record.{byte_at, u16_at, double_at, vec_at, zero_bytes, uses_third}
use Rattle.records.specs.Limits.{within, within_v, THOUSAND, UNIT_LIMIT}
use Rattle.format.specs.Faults.{body_shape, body_limits, body_fault, end_shape, end_limits, third_shape, rel_shape, rel_limits, rel_fault}
use Rattle.format.proofs.RefusalLaws.{and_left, and_right, body_tests, rel_tests}
use Rattle.format.proofs.FieldLaws.{number}
use Rattle.writing.specs.Bytes.{part, little_endian, doubles_bytes}
use Rattle.writing.specs.Writing.{BodyParts, RelParts, body_bytes, end_bytes, law_bytes, rel_bytes, doubles_at, body_parts_at, rel_parts_at, AllBytes, AllWords, BodyIs, RelIs}
use Rattle.writing.proofs.NumberLaws.{part_then, part_first, part_rest, part_length, part_one, part_get, little_length, u16_part, u16_again, doubles_length, doubles_in, doubles_part, doubles_at_length, doubles_at_all, AllNumbers, doubles_again}

-- ---- lists of known length

module _ {A : Type 0} where
  abbrev elements : (ℕ → A) → ℕ → List A
  elements f zero = []
  elements f (suc k) = f 0 ∷ elements (λ i. f (suc i)) k

  -- a list is the list of its elements
  all_elements : (d : A) (l : List A) (k : ℕ) → length l ≡ k → elements (λ i. get_or l i d) k ≡ l
  all_elements d [] zero h = refl
  all_elements d [] (suc k) h = absurd (omega arith)
  all_elements d (x ∷ l) zero h = absurd (omega arith)
  all_elements d (x ∷ l) (suc k) h = ap (λ (r : List A). x ∷ r) (all_elements d l k (omega arith))

  part_element : (d : A) (s l : List A) (o n i : ℕ) → i < n → part s o n ≡ l → get_or s (o + i) d ≡ get_or l i d
  part_element d s l o n i h e = sym (part_get d s o n i h) ∙ ap (λ (r : List A). get_or r i d) e

-- ---- lengths

pub body_length : (p : BodyParts) → length (body_bytes p) ≡ 136
unfolding body_bytes
body_length p = omega (arith, length-append (little_endian 6 0) (doubles_bytes p.numbers 0 16), little_length 6 0, doubles_length p.numbers 0 16)

law_length : (bytes words : List ℕ) → length (law_bytes bytes words) ≡ 8
unfolding law_bytes
law_length bytes words =
    omega (arith, length-append (little_endian 2 (get_or words 0 0)) (little_endian 2 (get_or words 1 0)), little_length 2 (get_or words 0 0), little_length 2 (get_or words 1 0))

end_length : (p : RelParts) (b w x : ℕ) → length (end_bytes p b w x) ≡ 72
unfolding end_bytes
end_length p b w x =
    simp (length-append, little_length) (omega (arith, doubles_length p.numbers x 8))

pub rel_length : (p : RelParts) → length (rel_bytes p) ≡ 264
unfolding rel_bytes
rel_length p = simp (length-append, law_length, end_length) (omega (arith, doubles_length p.numbers 0 5))

-- ---- a body back

pub body_parts_back : (p : BodyParts) → BodyIs p → body_parts_at (body_bytes p) 0 ≡ p
unfolding body_parts_at body_bytes
body_parts_back p h =
    let two : byte_at p.bytes 0 ∷ byte_at p.bytes 1 ∷ [] ≡ p.bytes = all_elements 0 p.bytes 2 h.two in
    let room : 16 ≤ length p.numbers = omega arith in
    let there : part (body_bytes p) 8 128 ≡ doubles_bytes p.numbers 0 16 =
    doubles_in (body_bytes p) (byte_at p.bytes 0 ∷ byte_at p.bytes 1 ∷ little_endian 6 0) [] 8 p.numbers 0 16 (rw append-nil) (omega (arith, little_length 6 0)) in
    let sixteen : doubles_at (body_bytes p) 8 16 ≡ p.numbers =
    doubles_part (body_bytes p) 8 p.numbers 0 16 h.numbers room there ∙ take_all 16 p.numbers (omega arith) in
    λ i. record { bytes = two i; numbers = sixteen i }

-- ---- a relation back

record LawRead (s : List ℕ) (o : ℕ) (bytes words : List ℕ) : Type 0 where
  law : byte_at s o ≡ byte_at bytes 0
  joint : byte_at s (o + 1) ≡ byte_at bytes 1
  flag : byte_at s (o + 2) ≡ byte_at bytes 2
  teeth_a : u16_at s (o + 4) ≡ get_or words 0 0
  teeth_b : u16_at s (o + 6) ≡ get_or words 1 0

law_read : (s : List ℕ) (o : ℕ) (bytes words : List ℕ) → AllWords words → part s o 8 ≡ law_bytes bytes words → LawRead s o bytes words
unfolding law_bytes
law_read s o bytes words w e =
    let a = little_endian 2 (get_or words 0 0) in
    let b = little_endian 2 (get_or words 1 0) in
    let teeth : part s (o + 4) 4 ≡ a ++ b = part_rest s (byte_at bytes 0 ∷ byte_at bytes 1 ∷ byte_at bytes 2 ∷ 0 ∷ []) (a ++ b) o (o + 4) 4 4 8 refl refl refl e in
    record {
      law = rw add-zero at (part_element 0 s _ o 8 0 (omega arith) e);
      joint = part_element 0 s _ o 8 1 (omega arith) e;
      flag = part_element 0 s _ o 8 2 (omega arith) e;
      teeth_a = u16_part s (o + 4) (get_or words 0 0) (part_first s a b (o + 4) 2 4 (omega arith) (little_length 2 (get_or words 0 0)) teeth) (w 0);
      teeth_b =
          u16_part s (o + 6) (get_or words 1 0)
          (part_rest s a b (o + 4) (o + 6) 2 2 4 (omega arith) refl (little_length 2 (get_or words 0 0)) teeth) (w 1);
    }

-- the end at e, of the bytes from place b on, the word at w and the doubles from place x on
record EndRead (s : List ℕ) (e : ℕ) (p : RelParts) (b w x : ℕ) : Type 0 where
  prim : byte_at s e ≡ byte_at p.bytes b
  mirrored : byte_at s (e + 1) ≡ byte_at p.bytes (b + 1)
  body : u16_at s (e + 2) ≡ get_or p.words w 0
  doubles : doubles_at s (e + 8) 8 ≡ part p.numbers x 8

end_read : (s : List ℕ) (e : ℕ) (p : RelParts) (b w x : ℕ) → RelIs p → x + 8 ≤ 29 → part s e 72 ≡ end_bytes p b w x → EndRead s e p b w x
unfolding end_bytes
end_read s e p b w x h room t =
    let body = little_endian 2 (get_or p.words w 0) in
    let doubles = doubles_bytes p.numbers x 8 in
    let from_body : part s (e + 2) 70 ≡ body ++ (little_endian 4 0 ++ doubles) =
    part_rest s (byte_at p.bytes b ∷ byte_at p.bytes (b + 1) ∷ []) _ e (e + 2) 2 70 72 refl refl refl t in
    let behind : part s (e + 4) 68 ≡ little_endian 4 0 ++ doubles =
    part_rest s body _ (e + 2) (e + 4) 2 68 70 (omega arith) refl (little_length 2 (get_or p.words w 0)) from_body in
    let last : part s (e + 8) 64 ≡ doubles = part_rest s (little_endian 4 0) doubles (e + 4) (e + 8) 4 64 68 (omega arith) refl (little_length 4 0) behind in
    let all = h.all in
    record {
      prim = rw add-zero at (part_element 0 s _ e 72 0 (omega arith) t);
      mirrored = part_element 0 s _ e 72 1 (omega arith) t;
      body = u16_part s (e + 2) (get_or p.words w 0) (part_first s body _ (e + 2) 2 70 (omega arith) (little_length 2 (get_or p.words w 0)) from_body) (h.words w);
      doubles = doubles_part s (e + 8) p.numbers x 8 h.numbers (omega arith) last;
    }

rel_read : (s : List ℕ) (p : RelParts) → RelIs p → part s 0 264 ≡ rel_bytes p → rel_parts_at s 0 ≡ p
unfolding rel_parts_at rel_bytes
rel_read s p h e =
    let law = law_bytes p.bytes p.words in
    let five = doubles_bytes p.numbers 0 5 in
    let end-a = end_bytes p 3 2 5 in
    let end-b = end_bytes p 5 3 13 in
    let third = end_bytes p 7 4 21 in
    let from_five : part s 8 256 ≡ five ++ (end-a ++ (end-b ++ third)) = part_rest s law _ 0 8 8 256 264 refl refl (law_length p.bytes p.words) e in
    let from_a : part s 48 216 ≡ end-a ++ (end-b ++ third) = part_rest s five _ 8 48 40 216 256 refl refl (doubles_length p.numbers 0 5) from_five in
    let from_b : part s 120 144 ≡ end-b ++ third = part_rest s end-a _ 48 120 72 144 216 refl refl (end_length p 3 2 5) from_a in
    let l = law_read s 0 p.bytes p.words h.words (part_first s law _ 0 8 264 (omega arith) (law_length p.bytes p.words) e) in
    let all = h.all in
    let f : doubles_at s 8 5 ≡ part p.numbers 0 5 =
    doubles_part s 8 p.numbers 0 5 h.numbers (omega arith) (part_first s five _ 8 40 256 (omega arith) (doubles_length p.numbers 0 5) from_five) in
    let a = end_read s 48 p 3 2 5 h (omega arith) (part_first s end-a _ 48 72 216 (omega arith) (end_length p 3 2 5) from_a) in
    let b = end_read s 120 p 5 3 13 h (omega arith) (part_first s end-b third 120 72 144 (omega arith) (end_length p 5 3 13) from_b) in
    let c = end_read s 192 p 7 4 21 h (omega arith) (part_rest s end-b third 120 192 72 72 144 refl refl (end_length p 5 3 13) from_b) in
    let nine : (rel_parts_at s 0).bytes ≡ p.bytes =
    (λ i. l.law i ∷ l.joint i ∷ l.flag i ∷ a.prim i ∷ a.mirrored i ∷ b.prim i ∷ b.mirrored i ∷ c.prim i ∷ c.mirrored i ∷ [])
    ∙ all_elements 0 p.bytes 9 h.nine in
    let words : (rel_parts_at s 0).words ≡ p.words =
    (λ i. l.teeth_a i ∷ l.teeth_b i ∷ a.body i ∷ b.body i ∷ c.body i ∷ []) ∙ all_elements 0 p.words 5 h.five in
    let numbers : (rel_parts_at s 0).numbers ≡ p.numbers =
    part_then p.numbers 0 5 5 24 29 refl refl f
    (part_then p.numbers 5 13 8 16 24 refl refl a.doubles (part_then p.numbers 13 21 8 8 16 refl refl b.doubles c.doubles))
    ∙ take_all 29 p.numbers (omega arith) in
    λ i. record { bytes = nine i; words = words i; numbers = numbers i }

pub rel_parts_back : (p : RelParts) → RelIs p → rel_parts_at (rel_bytes p) 0 ≡ p
rel_parts_back p h = rel_read (rel_bytes p) p h (take_all 264 (rel_bytes p) (omega (arith, rel_length p)))

-- ---- bytes that are 0, doubles that are numbers

-- the n bytes from place o on are 0
abbrev AllZero : List ℕ → ℕ → ℕ → Type 0
AllZero s o n = (i : ℕ) → i < n → byte_at s (o + i) ≡ 0

all_zero : (s : List ℕ) (o n : ℕ) → zero_bytes s o n ≡ true → AllZero s o n
unfolding zero_bytes
all_zero s o zero h i l = absurd (omega arith)
all_zero s o (suc n) h i l =
    ⊎_elim (λ (e : i ≡ n). rw e (eqb-true (byte_at s (o + n)) 0 (and_right (zero_bytes s o n) _ h)))
    (λ (k : i < n). all_zero s o n (and_left (zero_bytes s o n) _ h) i k) (eq-or-lt_of_le (le_of_suc-le-suc l))

-- fewer of them
zero_within : (s : List ℕ) (o p j k n : ℕ) → o + j ≡ p → j + k ≤ n → AllZero s o n → AllZero s p k
zero_within s o p j k n e h z i l = let w : p + i ≡ o + (j + i) = omega arith in rw w (z (j + i) (omega arith))

zero_bytes_lem : (k i : ℕ) → byte_at (little_endian k 0) i ≡ 0
unfolding little_endian
zero_bytes_lem zero i = refl
zero_bytes_lem (suc k) zero = refl
zero_bytes_lem (suc k) (suc i) = zero_bytes_lem k i

zero_again : (s : List ℕ) (o n : ℕ) → o + n ≤ length s → AllZero s o n → little_endian n 0 ≡ part s o n
zero_again s o n h z =
    ext_get_or 0 (little_endian n 0) (part s o n) (little_length n 0 ∙ sym (part_length s o n h))
    (λ i l. let k : i < n = omega (arith, little_length n 0) in zero_bytes_lem n i ∙ sym (part_get 0 s o n i k ∙ z i k))

-- doubles that are numbers, one behind the other
one_number : (s : List ℕ) (o : ℕ) (limit : Float) → within limit (double_at s o) ≡ true → AllNumbers s o 1
one_number s o limit h i l = let e : o + 8 * i ≡ o = omega arith in rw e (number limit (double_at s o) h)

more_numbers : (s : List ℕ) (o p j k n : ℕ) → o + 8 * j ≡ p → j + k ≡ n → AllNumbers s o j → AllNumbers s p k → AllNumbers s o n
more_numbers s o p j k n e q a b i l =
    ⊎_elim (λ (h : j - i ≡ 0). let w : o + 8 * i ≡ p + 8 * (i - j) = omega arith in rw w (b (i - j) (omega arith))) (λ (h : 0 < j - i). a i (omega arith)) (eq-zero-or-pos (j - i))

vec_numbers : (s : List ℕ) (o : ℕ) (limit : Float) → within_v limit (vec_at s o) ≡ true → AllNumbers s o 3
unfolding within_v
vec_numbers s o limit h =
    more_numbers s o (o + 8) 1 2 3 refl refl (one_number s o limit (search and_left))
    (more_numbers s (o + 8) (o + 16) 1 1 2 (omega arith) refl (one_number s (o + 8) limit (search (and_left, and_right)))
    (one_number s (o + 16) limit (search (and_left, and_right))))

-- ---- a body again

body_numbers : (s : List ℕ) (o : ℕ) → body_limits s o ≡ true → AllNumbers s (o + 8) 16
unfolding body_limits
body_numbers s o h =
    more_numbers s (o + 8) (o + 32) 3 13 16 (omega arith) refl (vec_numbers s (o + 8) THOUSAND (search and_left))
    (more_numbers s (o + 32) (o + 56) 3 10 13 (omega arith) refl (vec_numbers s (o + 32) UNIT_LIMIT (search (and_left, and_right)))
    (more_numbers s (o + 56) (o + 80) 3 7 10 (omega arith) refl (vec_numbers s (o + 56) UNIT_LIMIT (search (and_left, and_right)))
    (more_numbers s (o + 80) (o + 104) 3 4 7 (omega arith) refl (vec_numbers s (o + 80) UNIT_LIMIT (search (and_left, and_right)))
    (more_numbers s (o + 104) (o + 128) 3 1 4 (omega arith) refl (vec_numbers s (o + 104) THOUSAND (search (and_left, and_right)))
    (one_number s (o + 128) THOUSAND (search (and_left, and_right)))))))

body_padding : (s : List ℕ) (o : ℕ) → body_shape s o ≡ true → AllZero s (o + 2) 6
unfolding body_shape
body_padding s o h = zero_within s (o + 1) (o + 2) 1 6 7 (omega arith) (omega arith) (all_zero s (o + 1) 7 (search and_right))

pub body_bytes_again : (s : List ℕ) → AllBytes s → length s ≡ 136 → body_fault s 0 ≡ 0 → body_bytes (body_parts_at s 0) ≡ s
unfolding body_bytes body_parts_at
body_bytes_again s b h f =
    let t = body_tests s 0 f in
    let doubles : doubles_bytes (doubles_at s 8 16) 0 16 ≡ part s 8 128 =
    doubles_again s 8 (doubles_at s 8 16) 0 16 b (omega arith) (body_numbers s 0 t.1) (doubles_at_all s 8 16) in
    part_then s 0 1 1 135 136 refl refl (part_one 0 s 0 (omega arith))
    (part_then s 1 2 1 134 135 refl refl (part_one 0 s 1 (omega arith))
    (part_then s 2 8 6 128 134 refl refl (zero_again s 2 6 (omega arith) (body_padding s 0 t.0)) doubles))
    ∙ take_all 136 s (omega arith)

-- ---- a relation again

end_numbers_lem : (s : List ℕ) (e : ℕ) → end_limits s e ≡ true → AllNumbers s (e + 8) 8
unfolding end_limits
end_numbers_lem s e h =
    more_numbers s (e + 8) (e + 32) 3 5 8 (omega arith) refl (vec_numbers s (e + 8) THOUSAND (search and_left))
    (more_numbers s (e + 32) (e + 56) 3 2 5 (omega arith) refl (vec_numbers s (e + 32) UNIT_LIMIT (search (and_left, and_right)))
    (more_numbers s (e + 56) (e + 64) 1 1 2 (omega arith) refl (one_number s (e + 56) THOUSAND (search (and_left, and_right)))
    (one_number s (e + 64) THOUSAND (search (and_left, and_right)))))

end_padding : (law : ℕ) (s : List ℕ) (e : ℕ) → end_shape law s e ≡ true → AllZero s (e + 4) 4
unfolding end_shape
end_padding law s e h = all_zero s (e + 4) 4 (search (and_left, and_right))

third_padding : (law : ℕ) (s : List ℕ) (e : ℕ) → third_shape law s e ≡ true → AllZero s (e + 4) 4
unfolding third_shape
third_padding law s e h = go (uses_third law) h
  where
    go : (used : Bool) → cond used (end_shape law s e) (zero_bytes s e 72) ≡ true → AllZero s (e + 4) 4
    go true k = end_padding law s e k
    go false k = zero_within s e (e + 4) 4 4 72 refl (omega arith) (all_zero s e 72 k)

-- what the tests leave of an end at e, and of the relation at r
record EndPasses (s : List ℕ) (e : ℕ) : Type 0 where
  padding : AllZero s (e + 4) 4
  numbers : AllNumbers s (e + 8) 8

record RelPasses (s : List ℕ) (r : ℕ) : Type 0 where
  padding : AllZero s (r + 3) 1
  numbers : AllNumbers s (r + 8) 5
  a : EndPasses s (r + 48)
  b : EndPasses s (r + 120)
  third : EndPasses s (r + 192)

rel_passes : (s : List ℕ) (r : ℕ) → rel_shape s r ≡ true → rel_limits s r ≡ true → RelPasses s r
unfolding rel_shape rel_limits
rel_passes s r shape limits =
    let law = byte_at s r in
    record {
      padding = all_zero s (r + 3) 1 (search (and_left, and_right) depth 12);
      numbers =
          more_numbers s (r + 8) (r + 16) 1 4 5 (omega arith) refl (one_number s (r + 8) THOUSAND (search and_left))
          (more_numbers s (r + 16) (r + 24) 1 3 4 (omega arith) refl (one_number s (r + 16) THOUSAND (search (and_left, and_right) depth 12))
          (vec_numbers s (r + 24) UNIT_LIMIT (search (and_left, and_right) depth 12)));
      a =
          record {
            padding = end_padding law s (r + 48) (search (and_left, and_right) depth 12);
            numbers = end_numbers_lem s (r + 48) (search (and_left, and_right) depth 12);
          };
      b =
          record {
            padding = end_padding law s (r + 120) (search (and_left, and_right) depth 12);
            numbers = end_numbers_lem s (r + 120) (search (and_left, and_right) depth 12);
          };
      third =
          record {
            padding = third_padding law s (r + 192) (search (and_left, and_right) depth 12);
            numbers = end_numbers_lem s (r + 192) (search (and_left, and_right) depth 12);
          };
    }

-- the end at e, from parts that hold what was read there
end_again : (s : List ℕ) (e : ℕ) (p : RelParts) (b w x : ℕ) → AllBytes s → e + 72 ≤ length s → EndPasses s e → byte_at p.bytes b ≡ byte_at s e
    → byte_at p.bytes (b + 1) ≡ byte_at s (e + 1) → get_or p.words w 0 ≡ u16_at s (e + 2) → part p.numbers x 8 ≡ doubles_at s (e + 8) 8
    → end_bytes p b w x ≡ part s e 72
unfolding end_bytes
end_again s e p b w x a h t prim mirrored body doubles =
    part_then s e (e + 1) 1 71 72 refl refl (ap (λ (v : ℕ). v ∷ []) prim ∙ part_one 0 s e (omega arith))
    (part_then s (e + 1) (e + 2) 1 70 71 (omega arith) refl (ap (λ (v : ℕ). v ∷ []) mirrored ∙ part_one 0 s (e + 1) (omega arith))
    (part_then s (e + 2) (e + 4) 2 68 70 (omega arith) refl (ap (little_endian 2) body ∙ u16_again s (e + 2) a (omega arith))
    (part_then s (e + 4) (e + 8) 4 64 68 (omega arith) refl (zero_again s (e + 4) 4 (omega arith) t.padding)
    (doubles_again s (e + 8) p.numbers x 8 a (omega arith) t.numbers doubles))))

law_again : (s : List ℕ) → AllBytes s → 8 ≤ length s → AllZero s 3 1 → law_bytes (rel_parts_at s 0).bytes (rel_parts_at s 0).words ≡ part s 0 8
unfolding law_bytes little_endian rel_parts_at
law_again s b h z =
    part_then s 0 1 1 7 8 refl refl (part_one 0 s 0 (omega arith))
    (part_then s 1 2 1 6 7 refl refl (part_one 0 s 1 (omega arith))
    (part_then s 2 3 1 5 6 refl refl (part_one 0 s 2 (omega arith))
    (part_then s 3 4 1 4 5 refl refl (zero_again s 3 1 (omega arith) z)
    (part_then s 4 6 2 2 4 refl refl (u16_again s 4 b (omega arith)) (u16_again s 6 b (omega arith))))))

pub rel_bytes_again : (m : ℕ) (s : List ℕ) → AllBytes s → length s ≡ 264 → rel_fault m s 0 ≡ 0 → rel_bytes (rel_parts_at s 0) ≡ s
unfolding rel_bytes rel_parts_at
rel_bytes_again m s b h f =
    let t = rel_tests m s 0 f in
    let q = rel_passes s 0 t.0 t.1 in
    let p = rel_parts_at s 0 in
    let xs = p.numbers in
    let size : length xs ≡ 29 = simp (length-append, doubles_at_length) in
    let whole : part xs 0 29 ≡ xs = take_all 29 xs (omega arith) in
    let from_a = part_rest xs (doubles_at s 8 5) _ 0 5 5 24 29 refl refl (doubles_at_length s 8 5) whole in
    let from_b = part_rest xs (doubles_at s 56 8) _ 5 13 8 16 24 refl refl (doubles_at_length s 56 8) from_a in
    let five = part_first xs (doubles_at s 8 5) _ 0 5 29 (omega arith) (doubles_at_length s 8 5) whole in
    let of-a = part_first xs (doubles_at s 56 8) _ 5 8 24 (omega arith) (doubles_at_length s 56 8) from_a in
    let of-b = part_first xs (doubles_at s 128 8) _ 13 8 16 (omega arith) (doubles_at_length s 128 8) from_b in
    let of-third = part_rest xs (doubles_at s 128 8) _ 13 21 8 8 16 refl refl (doubles_at_length s 128 8) from_b in
    part_then s 0 8 8 256 264 refl refl (law_again s b (omega arith) q.padding)
    (part_then s 8 48 40 216 256 refl refl (doubles_again s 8 xs 0 5 b (omega arith) q.numbers five)
    (part_then s 48 120 72 144 216 refl refl (end_again s 48 p 3 2 5 b (omega arith) q.a refl refl refl of-a)
    (part_then s 120 192 72 72 144 refl refl (end_again s 120 p 5 3 13 b (omega arith) q.b refl refl refl of-b)
    (end_again s 192 p 7 4 21 b (omega arith) q.third refl refl refl of-third))))
    ∙ take_all 264 s (omega arith)

-- The sheet of a scene as its records: how long it is, where each record stands, what its header says, that its number is the first that a record gives, and that an
-- accepted sheet is its header and its records put together again. By laws on pieces of one length that are joined, and on the bytes of a number. Assumes nothing.
use Prim.Native.Nat.{ℕ, zero, suc, ◌+◌, ◌*◌, ◌/◌, ◌%◌, ◌≤◌, ◌<◌}
use mathlib.Core.Path.{◌≡◌, refl, ◌∙◌}
use mathlib.Core.Bool.{Bool, true, false, ◌&&◌}
use mathlib.Core.List.{List, [], ◌∷◌, ◌++◌, append-nil, append_assoc}
use mathlib.Core.Logic.{⊎_elim}
use native.Mathlib.Nat.{eq-or-lt_of_le, le_of_suc-le-suc}
use native.Mathlib.Omega.{arith}
use lib.ListN.{length, take, drop, length-append}
use lib.Seq.{take_at, drop_at, drop-append-add, take_all}
use lib.Dec.{leb}
use lib.Ieee.{Float}
use borrow.Author.Tests.{leb-true, le-leb, eqb-true, eq-eqb}
use Rattle.records.specs.Record.{u16_at, u32_at}
use Rattle.format.specs.Format.{bodies_of, relations_of, body_start, rel_start}
use Rattle.format.specs.Faults.{unless, header_zeros, header_counts, header_offsets, header_fault, bodies_fault, rels_fault, sheet_fault}
use Rattle.format.proofs.RefusalLaws.{and_left, and_right, passes, header_passes, faultless}
use Rattle.writing.specs.Bytes.{part, little_endian, joined, doubles_bytes}
use Rattle.writing.specs.Writing.{BodyParts, RelParts, SceneParts, counts_bytes, offsets_bytes, header_bytes, body_bytes, end_bytes, law_bytes, rel_bytes, sheet_bytes, body_parts_fault, rel_parts_fault, first_fault, counts_fault, records_fault, AllBytes, SceneIs}
use Rattle.writing.proofs.NumberLaws.{part_then, little_length, joined_length, joined_parts, u16_part, u32_part, u32_value, u16_again, little_again}
use Rattle.writing.proofs.RecordLaws.{body_length, rel_length}
use Rattle.writing.proofs.LocalLaws.{Same, own_bytes, body_fault_same, rel_fault_same}

-- ---- lengths

pub counts_length : (m k : ℕ) → length (counts_bytes m k) ≡ 8
unfolding counts_bytes
counts_length m k = simp (length-append, little_length)

pub offsets_length : (m k : ℕ) → length (offsets_bytes m k) ≡ 16
unfolding offsets_bytes
offsets_length m k = simp (length-append, little_length)

pub header_length : (m k : ℕ) → length (header_bytes m k) ≡ 24
unfolding header_bytes
header_length m k = simp (length-append, counts_length, offsets_length)

pub sheet_length : (sc : SceneParts) → length (sheet_bytes sc) ≡ rel_start sc.m sc.k
unfolding sheet_bytes
sheet_length sc =
    let h = header_length sc.m sc.k in
    let b = joined_length (λ i. body_bytes (sc.body i)) 136 sc.m (λ i l. body_length (sc.body i)) in
    let r = joined_length (λ j. rel_bytes (sc.rel j)) 264 sc.k (λ j l. rel_length (sc.rel j)) in
    rw (length-append, h, length-append, b, r) (omega arith)

-- ---- where the records stand

pub joined_at : (piece : ℕ → List ℕ) (b k : ℕ) (rest : List ℕ) → ((i : ℕ) → i < k → length (piece i) ≡ b) → (i : ℕ) → i < k
    → take b (drop (b * i) (joined piece k ++ rest)) ≡ piece i
unfolding joined
joined_at piece b zero rest h i l = absurd (omega arith)
joined_at piece b (suc k) rest h i l =
    let below : ((j : ℕ) → j < k → length (piece j) ≡ b) = λ j m. h j (omega arith) in
    rw (append_assoc (joined piece k) (piece k) rest)
    (⊎_elim (λ (e : i ≡ k). rw (e, drop_at (joined piece k) (piece k ++ rest) (b * k) (joined_length piece b k below)) (take_at (piece k) rest b (h k (omega arith))))
    (λ (m : i < k). joined_at piece b k (piece k ++ rest) below i m) (eq-or-lt_of_le (le_of_suc-le-suc l)))

-- what stands past a list's first n elements
past : (a b : List ℕ) (n k : ℕ) → length a ≡ n → drop (n + k) (a ++ b) ≡ drop k b
past a b n k e = rw (← e) (drop-append-add a b k)

pub body_stands : (sc : SceneParts) (i : ℕ) → i < sc.m → take 136 (drop (body_start i) (sheet_bytes sc)) ≡ body_bytes (sc.body i)
unfolding sheet_bytes
body_stands sc i l =
    rw (past (header_bytes sc.m sc.k) _ 24 (136 * i) (header_length sc.m sc.k))
    (joined_at (λ i. body_bytes (sc.body i)) 136 sc.m _ (λ i l. body_length (sc.body i)) i l)

pub rel_stands : (sc : SceneParts) (j : ℕ) → j < sc.k → take 264 (drop (rel_start sc.m j) (sheet_bytes sc)) ≡ rel_bytes (sc.rel j)
unfolding sheet_bytes
rel_stands sc j l =
    let bodies = joined (λ i. body_bytes (sc.body i)) sc.m in
    let rels = joined (λ j. rel_bytes (sc.rel j)) sc.k in
    let before : length (header_bytes sc.m sc.k ++ bodies) ≡ body_start sc.m =
    rw (length-append, header_length sc.m sc.k, joined_length (λ i. body_bytes (sc.body i)) 136 sc.m (λ i l. body_length (sc.body i))) in
    rw (← (append_assoc (header_bytes sc.m sc.k) bodies rels), past (header_bytes sc.m sc.k ++ bodies) rels (body_start sc.m) (264 * j) before, ← (append-nil rels))
    (joined_at (λ j. rel_bytes (sc.rel j)) 264 sc.k [] (λ j l. rel_length (sc.rel j)) j l)

-- ---- what the header says

module _ (sc : SceneParts) (hm : sc.m ≤ 64) (hk : sc.k ≤ 128) where
  pub sheet_bodies : bodies_of (sheet_bytes sc) ≡ sc.m
  unfolding sheet_bytes header_bytes counts_bytes little_endian
  sheet_bodies = u16_part (sheet_bytes sc) 2 sc.m refl (omega arith)

  pub sheet_relations : relations_of (sheet_bytes sc) ≡ sc.k
  unfolding sheet_bytes header_bytes counts_bytes little_endian
  sheet_relations = u16_part (sheet_bytes sc) 4 sc.k refl (omega arith)

  zeros_pass : header_zeros (sheet_bytes sc) ≡ true
  unfolding header_zeros sheet_bytes header_bytes counts_bytes offsets_bytes little_endian
  zeros_pass = refl

  counts_fit_lem : header_counts (sheet_bytes sc) ≡ true
  unfolding header_counts
  counts_fit_lem = rw (sheet_bodies, sheet_relations, le-leb sc.m 64 hm, le-leb sc.k 128 hk)

  first_body : u32_at (sheet_bytes sc) 8 ≡ 24
  unfolding sheet_bytes header_bytes counts_bytes offsets_bytes little_endian
  first_body = refl

  first_relation : u32_at (sheet_bytes sc) 12 ≡ body_start sc.m
  unfolding sheet_bytes header_bytes counts_bytes offsets_bytes little_endian
  first_relation = u32_part (sheet_bytes sc) 12 (body_start sc.m) refl (omega arith)

  sheet_end : u32_at (sheet_bytes sc) 16 ≡ rel_start sc.m sc.k
  unfolding sheet_bytes header_bytes counts_bytes offsets_bytes little_endian
  sheet_end = u32_part (sheet_bytes sc) 16 (rel_start sc.m sc.k) refl (omega arith)

  offsets_fit : header_offsets (sheet_bytes sc) ≡ true
  unfolding header_offsets
  offsets_fit =
      rw (
        sheet_bodies,
        sheet_relations,
        first_body,
        first_relation,
        sheet_end,
        sheet_length sc,
        eq-eqb (body_start sc.m) (body_start sc.m) refl,
        eq-eqb (rel_start sc.m sc.k) (rel_start sc.m sc.k) refl,
      )

  pub sheet_header : header_fault (sheet_bytes sc) ≡ 0
  unfolding header_fault
  sheet_header =
      let long : 24 ≤ length (sheet_bytes sc) = omega (arith, sheet_length sc) in
      rw (le-leb 24 (length (sheet_bytes sc)) long, zeros_pass, counts_fit_lem, offsets_fit)

-- ---- its number

tested : (t : Bool) (n : ℕ) → unless t (suc n) ≡ 0 → t ≡ true
tested true n h = refl
tested false n h = absurd (omega arith)

pub counts_pass : (m k : ℕ) → counts_fault m k ≡ 0 → (m ≤ 64) × (k ≤ 128)
counts_pass m k h =
    let t = tested (leb m 64 && leb k 128) 2 h in
    (leb-true m 64 (and_left (leb m 64) (leb k 128) t), leb-true k 128 (and_right (leb m 64) (leb k 128) t))

-- each record's bytes in the sheet are its own
pub body_in_sheet : (sc : SceneParts) (i : ℕ) → i < sc.m → Same (sheet_bytes sc) (body_start i) (body_bytes (sc.body i)) 0 136
body_in_sheet sc i l = rw (body_stands sc i l) at (own_bytes (sheet_bytes sc) (body_start i) 136)

pub rel_in_sheet : (sc : SceneParts) (j : ℕ) → j < sc.k → Same (sheet_bytes sc) (rel_start sc.m j) (rel_bytes (sc.rel j)) 0 264
rel_in_sheet sc j l = rw (rel_stands sc j l) at (own_bytes (sheet_bytes sc) (rel_start sc.m j) 264)

pub bodies_number : (sc : SceneParts) (n : ℕ) → n ≤ sc.m → first_fault (λ i. body_parts_fault (sc.body i)) n ≡ bodies_fault (sheet_bytes sc) n
unfolding first_fault bodies_fault
bodies_number sc zero h = refl
bodies_number sc (suc n) h =
    rw (bodies_number sc n (omega arith), body_fault_same (sheet_bytes sc) (body_start n) (body_bytes (sc.body n)) 0 (body_in_sheet sc n h))

pub rels_number : (sc : SceneParts) → bodies_of (sheet_bytes sc) ≡ sc.m → (n : ℕ) → n ≤ sc.k
    → first_fault (λ j. rel_parts_fault sc.m (sc.rel j)) n ≡ rels_fault (sheet_bytes sc) n
unfolding first_fault rels_fault
rels_number sc e zero h = refl
rels_number sc e (suc n) h =
    rw (rels_number sc e n (omega arith), e, rel_fault_same (sheet_bytes sc) (rel_start sc.m n) (rel_bytes (sc.rel n)) 0 (rel_in_sheet sc n h) sc.m)

pub records_number : (sc : SceneParts) → counts_fault sc.m sc.k ≡ 0 → records_fault sc ≡ sheet_fault (sheet_bytes sc)
unfolding records_fault sheet_fault
records_number sc h =
    let c = counts_pass sc.m sc.k h in
    let b = sheet_bodies sc c.0 c.1 in
    let r = sheet_relations sc c.0 c.1 in
    rw (bodies_number sc sc.m (omega arith), rels_number sc b sc.k (omega arith), sheet_header sc c.0 c.1, b, r)

-- ---- every element is a byte

-- AllBytes as a record, so that a list's pieces can be searched for
record Bytes (l : List ℕ) : Type 0 where
  each : AllBytes l

bytes_none : Bytes []
bytes_none = record { each = λ i. omega arith }

bytes_one : (x : ℕ) → x < 256 → Bytes (x ∷ [])
bytes_one x h = record { each = at }
  where
    at : AllBytes (x ∷ [])
    at zero = h
    at (suc i) = omega arith

all_append : (l r : List ℕ) → AllBytes l → AllBytes r → AllBytes (l ++ r)
all_append [] r a b i = b i
all_append (x ∷ l) r a b zero = a 0
all_append (x ∷ l) r a b (suc i) = all_append l r (λ j. a (suc j)) b i

bytes_append : (l r : List ℕ) → Bytes l → Bytes r → Bytes (l ++ r)
bytes_append l r a b = record { each = all_append l r a.each b.each }

bytes_little : (k n : ℕ) → Bytes (little_endian k n)
unfolding little_endian
bytes_little zero n = bytes_none
bytes_little (suc k) n = bytes_append (n % 256 ∷ []) (little_endian k (n / 256)) (bytes_one (n % 256) (omega arith)) (bytes_little k (n / 256))

bytes_joined : (piece : ℕ → List ℕ) (k : ℕ) → ((i : ℕ) → i < k → Bytes (piece i)) → Bytes (joined piece k)
unfolding joined
bytes_joined piece zero h = bytes_none
bytes_joined piece (suc k) h = bytes_append (joined piece k) (piece k) (bytes_joined piece k (λ i l. h i (omega arith))) (h k (omega arith))

bytes_doubles : (xs : List Float) (o n : ℕ) → Bytes (doubles_bytes xs o n)
bytes_doubles xs o n = bytes_joined _ n (λ i l. bytes_little 8 _)

ruleset pieces-bytes = (bytes_append, bytes_little, bytes_doubles, bytes_one)

bytes_header : (m k : ℕ) → Bytes (header_bytes m k)
unfolding header_bytes counts_bytes offsets_bytes
bytes_header m k = search pieces-bytes depth 12

bytes_body : (p : BodyParts) → AllBytes p.bytes → Bytes (body_bytes p)
unfolding body_bytes
bytes_body p h = search pieces-bytes depth 12

bytes_end : (p : RelParts) (b w x : ℕ) → AllBytes p.bytes → Bytes (end_bytes p b w x)
unfolding end_bytes
bytes_end p b w x h = search pieces-bytes depth 12

bytes_law : (bytes words : List ℕ) → AllBytes bytes → Bytes (law_bytes bytes words)
unfolding law_bytes
bytes_law bytes words h = let z : 0 < 256 = omega arith in search pieces-bytes depth 12

bytes_rel : (p : RelParts) → AllBytes p.bytes → Bytes (rel_bytes p)
unfolding rel_bytes
bytes_rel p h = search (pieces-bytes, bytes_law, bytes_end) depth 12

pub sheet_bytes_lem : (sc : SceneParts) → SceneIs sc → AllBytes (sheet_bytes sc)
unfolding sheet_bytes
sheet_bytes_lem sc h =
    let b = bytes_joined (λ i. body_bytes (sc.body i)) sc.m (λ i l. bytes_body (sc.body i) (h.body i l).bytes) in
    let r = bytes_joined (λ j. rel_bytes (sc.rel j)) sc.k (λ j l. bytes_rel (sc.rel j) (h.rel j l).bytes) in
    (bytes_append _ _ (bytes_header sc.m sc.k) (bytes_append _ _ b r)).each

-- ---- a sheet from its records

-- what a header that passes says
record Header (s : List ℕ) : Type 0 where
  version : u16_at s 0 ≡ 1
  low_zero : u16_at s 6 ≡ 0
  high_zero : u32_at s 20 ≡ 0
  first_body : u32_at s 8 ≡ 24
  first_relation : u32_at s 12 ≡ body_start (bodies_of s)
  end : u32_at s 16 ≡ rel_start (bodies_of s) (relations_of s)

header_says : (s : List ℕ) → header_fault s ≡ 0 → Header s
unfolding header_fault header_zeros header_offsets
header_says s f =
    let p = passes (leb 24 (length s)) (header_zeros s) (header_counts s) (header_offsets s) f in
    let zeros = p.1 in
    let offsets = p.3 in
    record {
      version = eqb-true (u16_at s 0) 1 (search and_left);
      low_zero = eqb-true (u16_at s 6) 0 (search (and_left, and_right));
      high_zero = eqb-true (u32_at s 20) 0 (search (and_left, and_right));
      first_body = eqb-true (u32_at s 8) 24 (search and_left);
      first_relation = eqb-true (u32_at s 12) (body_start (bodies_of s)) (search (and_left, and_right));
      end = eqb-true (u32_at s 16) (rel_start (bodies_of s) (relations_of s)) (search (and_left, and_right));
    }

module _ (s : List ℕ) (h : AllBytes s) (long : 24 ≤ length s) (says : Header s) where
  two : (o n : ℕ) → o + 2 ≤ 24 → u16_at s o ≡ n → little_endian 2 n ≡ part s o 2
  two o n l e = rw (← e) (u16_again s o h (omega arith))

  four : (o n : ℕ) → o + 4 ≤ 24 → u32_at s o ≡ n → little_endian 4 n ≡ part s o 4
  four o n l e = rw (← e, u32_value s o) (little_again s o 4 h (omega arith))

  counts_again : counts_bytes (bodies_of s) (relations_of s) ≡ part s 0 8
  unfolding counts_bytes
  counts_again =
      part_then s 0 2 2 6 8 refl refl (two 0 1 (omega arith) says.version)
      (part_then s 2 4 2 4 6 refl refl (two 2 (bodies_of s) (omega arith) refl)
      (part_then s 4 6 2 2 4 refl refl (two 4 (relations_of s) (omega arith) refl) (two 6 0 (omega arith) says.low_zero)))

  offsets_again : offsets_bytes (bodies_of s) (relations_of s) ≡ part s 8 16
  unfolding offsets_bytes
  offsets_again =
      part_then s 8 12 4 12 16 refl refl (four 8 24 (omega arith) says.first_body)
      (part_then s 12 16 4 8 12 refl refl (four 12 (body_start (bodies_of s)) (omega arith) says.first_relation)
      (part_then s 16 20 4 4 8 refl refl (four 16 (rel_start (bodies_of s) (relations_of s)) (omega arith) says.end) (four 20 0 (omega arith) says.high_zero)))

pub header_again : (s : List ℕ) → AllBytes s → header_fault s ≡ 0 → header_bytes (bodies_of s) (relations_of s) ≡ take 24 s
unfolding header_bytes
header_again s h f =
    let z = header_passes s f in
    let says = header_says s f in
    part_then s 0 8 8 16 24 refl refl (counts_again s h z.header says) (offsets_again s h z.header says)

pub sheet_again : (sc : SceneParts) (s : List ℕ) → AllBytes s → sheet_fault s ≡ 0 → bodies_of s ≡ sc.m → relations_of s ≡ sc.k
    → ((i : ℕ) → i < sc.m → body_bytes (sc.body i) ≡ take 136 (drop (body_start i) s))
    → ((j : ℕ) → j < sc.k → rel_bytes (sc.rel j) ≡ take 264 (drop (rel_start sc.m j) s)) → sheet_bytes sc ≡ s
unfolding sheet_bytes
sheet_again sc s h f m k body rel =
    let g = (faultless s sc.m sc.k m k f).header in
    let z = (header_passes s g).whole in
    let header : header_bytes sc.m sc.k ≡ part s 0 24 = rw (← m, ← k) (header_again s h g) in
    let bodies = joined_parts (λ i. body_bytes (sc.body i)) 136 sc.m s 24 body in
    let rels = joined_parts (λ j. rel_bytes (sc.rel j)) 264 sc.k s (body_start sc.m) rel in
    let size : length s ≡ rel_start sc.m sc.k = rw (m, k) at z in
    let rest = 136 * sc.m + 264 * sc.k in
    part_then s 0 24 24 rest (24 + rest) refl refl header (part_then s 24 (body_start sc.m) (136 * sc.m) (264 * sc.k) rest refl refl bodies rels)
    ∙ take_all (24 + rest) s (omega arith)

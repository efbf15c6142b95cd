-- The sheet of a scene, and which number a scene gives that has none. Document 02, 2/14; document 01, "The sheet", for the bytes. A body and a relation stand here in parts:
-- their bytes, their 16-bit words and their doubles, each in the order of the sheet. Definitions only.
use Rattle.std.specs.Prelude.{ℕ, zero, suc, ◌+◌, ◌*◌, ◌<◌, ◌≡◌, ◌&&◌, List, [], ◌∷◌, ◌++◌, length, get_or, T, leb, Float}
use Rattle.std.specs.Float.{nan, binary64}
use Rattle.std.specs.Float.Ieee.{fits}
use Rattle.records.specs.Record.{byte_at, u16_at, double_at}
use Rattle.format.specs.Format.{bodies_of, relations_of, body_start, rel_start}
use Rattle.format.specs.Faults.{or_else, unless, body_fault, rel_fault, sheet_fault}
use Rattle.writing.specs.Bytes.{little_endian, joined, doubles_bytes}

-- ---- a scene in parts

-- two bytes: fixed, and one that is 0; 16 doubles: origin, x, y and z of the frame, centre, size
pub record BodyParts : Type 0 where
  pub bytes : List ℕ
  pub numbers : List Float

-- nine bytes: law, joint, flag, then primitive and mirrored of a, of b and of the third end; five words: the teeth of a and of b, the bodies of a, of b and of the third end;
-- 29 doubles: offset, angle, reference, then point, direction, circle radius and end radius of a, of b and of the third end
pub record RelParts : Type 0 where
  pub bytes : List ℕ
  pub words : List ℕ
  pub numbers : List Float

-- the bodies below m and the relations below k; what stands past them has no say
pub record SceneParts : Type 0 where
  pub m : ℕ
  pub k : ℕ
  pub body : ℕ → BodyParts
  pub rel : ℕ → RelParts

-- ---- its bytes

-- 8 bytes: version, m, k, 0
unfoldable pub counts_bytes : ℕ → ℕ → List ℕ
counts_bytes m k = little_endian 2 1 ++ (little_endian 2 m ++ (little_endian 2 k ++ little_endian 2 0))

-- 16 bytes: where bodies and relations start, the length, 0
unfoldable pub offsets_bytes : ℕ → ℕ → List ℕ
offsets_bytes m k = little_endian 4 24 ++ (little_endian 4 (body_start m) ++ (little_endian 4 (rel_start m k) ++ little_endian 4 0))

-- 24 bytes
unfoldable pub header_bytes : ℕ → ℕ → List ℕ
header_bytes m k = counts_bytes m k ++ offsets_bytes m k

-- 136 bytes
unfoldable pub body_bytes : BodyParts → List ℕ
body_bytes p = (byte_at p.bytes 0 ∷ []) ++ ((byte_at p.bytes 1 ∷ []) ++ (little_endian 6 0 ++ doubles_bytes p.numbers 0 16))

-- 72 bytes of a relation: end a, b or the third, by its bytes from place b on, its body's word at w and its doubles from place x on
unfoldable pub end_bytes : RelParts → ℕ → ℕ → ℕ → List ℕ
end_bytes p b w x =
    (byte_at p.bytes b ∷ []) ++ ((byte_at p.bytes (b + 1) ∷ []) ++ (little_endian 2 (get_or p.words w 0) ++ (little_endian 4 0 ++ doubles_bytes p.numbers x 8)))

-- 8 bytes: law, joint, flag, 0, and the teeth of a and of b
unfoldable pub law_bytes : List ℕ → List ℕ → List ℕ
law_bytes bytes words =
    (byte_at bytes 0 ∷ [])
    ++ ((byte_at bytes 1 ∷ []) ++ ((byte_at bytes 2 ∷ []) ++ ((0 ∷ []) ++ (little_endian 2 (get_or words 0 0) ++ little_endian 2 (get_or words 1 0)))))

-- 264 bytes
unfoldable pub rel_bytes : RelParts → List ℕ
rel_bytes p = law_bytes p.bytes p.words ++ (doubles_bytes p.numbers 0 5 ++ (end_bytes p 3 2 5 ++ (end_bytes p 5 3 13 ++ end_bytes p 7 4 21)))

unfoldable pub sheet_bytes : SceneParts → List ℕ
sheet_bytes sc = header_bytes sc.m sc.k ++ (joined (λ i. body_bytes (sc.body i)) sc.m ++ joined (λ j. rel_bytes (sc.rel j)) sc.k)

-- ---- its number: 3; then each body in order by 5 and 7, and each relation in order by 5, 14, 6 and 7; then 10 for a sheet with less room than it has bytes

-- a record's number is the one that its own bytes give where they are read
abbrev pub body_parts_fault : BodyParts → ℕ
body_parts_fault p = body_fault (body_bytes p) 0

abbrev pub rel_parts_fault : ℕ → RelParts → ℕ
rel_parts_fault m p = rel_fault m (rel_bytes p) 0

-- the first that is not 0 among the first k
unfoldable pub first_fault : (ℕ → ℕ) → ℕ → ℕ
first_fault fault zero = 0
first_fault fault (suc k) = or_else (first_fault fault k) (fault k)

abbrev pub counts_fault : ℕ → ℕ → ℕ
counts_fault m k = unless (leb m 64 && leb k 128) 3

unfoldable pub records_fault : SceneParts → ℕ
records_fault sc = or_else (first_fault (λ i. body_parts_fault (sc.body i)) sc.m) (first_fault (λ j. rel_parts_fault sc.m (sc.rel j)) sc.k)

abbrev pub room_fault : ℕ → ℕ → ℕ → ℕ
room_fault m k room = unless (leb (rel_start m k) room) 10

unfoldable pub scene_fault : SceneParts → ℕ → ℕ
scene_fault sc room = or_else (counts_fault sc.m sc.k) (or_else (records_fault sc) (room_fault sc.m sc.k room))

-- ---- a sheet's records in parts

-- n doubles from place o on
unfoldable pub doubles_at : List ℕ → ℕ → ℕ → List Float
doubles_at s o zero = []
doubles_at s o (suc n) = doubles_at s o n ++ (double_at s (o + 8 * n) ∷ [])

unfoldable pub body_parts_at : List ℕ → ℕ → BodyParts
body_parts_at s o = record { bytes = byte_at s o ∷ byte_at s (o + 1) ∷ []; numbers = doubles_at s (o + 8) 16 }

unfoldable pub rel_parts_at : List ℕ → ℕ → RelParts
rel_parts_at s r =
    record {
      bytes =
          byte_at s r
          ∷ byte_at s (r + 1)
          ∷ byte_at s (r + 2)
          ∷ byte_at s (r + 48)
          ∷ byte_at s (r + 49)
          ∷ byte_at s (r + 120)
          ∷ byte_at s (r + 121)
          ∷ byte_at s (r + 192)
          ∷ byte_at s (r + 193)
          ∷ [];
      words = u16_at s (r + 4) ∷ u16_at s (r + 6) ∷ u16_at s (r + 50) ∷ u16_at s (r + 122) ∷ u16_at s (r + 194) ∷ [];
      numbers = doubles_at s (r + 8) 5 ++ (doubles_at s (r + 56) 8 ++ (doubles_at s (r + 128) 8 ++ doubles_at s (r + 200) 8));
    }

-- reading s gives the bits of the scene's m bodies and k relations
pub record ReadsAs (sc : SceneParts) (s : List ℕ) : Type 0 where
  pub bodies : bodies_of s ≡ sc.m
  pub relations : relations_of s ≡ sc.k
  pub body : (i : ℕ) → i < sc.m → body_parts_at s (body_start i) ≡ sc.body i
  pub rel : (j : ℕ) → j < sc.k → rel_parts_at s (rel_start sc.m j) ≡ sc.rel j

-- ---- parts that are numbers of the machine: bytes, words of 16 bits, doubles

abbrev pub AllBytes : List ℕ → Type 0
AllBytes l = (i : ℕ) → byte_at l i < 256

abbrev pub AllWords : List ℕ → Type 0
AllWords l = (i : ℕ) → get_or l i 0 < 0x1_0000

abbrev pub AllDoubles : List Float → Type 0
AllDoubles l = (i : ℕ) → T (fits binary64 (get_or l i nan))

pub record BodyIs (p : BodyParts) : Type 0 where
  pub two : length p.bytes ≡ 2
  pub sixteen : length p.numbers ≡ 16
  pub bytes : AllBytes p.bytes
  pub numbers : AllDoubles p.numbers

pub record RelIs (p : RelParts) : Type 0 where
  pub nine : length p.bytes ≡ 9
  pub five : length p.words ≡ 5
  pub all : length p.numbers ≡ 29
  pub bytes : AllBytes p.bytes
  pub words : AllWords p.words
  pub numbers : AllDoubles p.numbers

-- a record's number, and that its parts, which the code has from memory, are such numbers
pub record BodyTested (p : BodyParts) (r : ℕ) : Type 0 where
  pub number : r ≡ body_parts_fault p
  pub bytes : AllBytes p.bytes
  pub numbers : AllDoubles p.numbers

pub record RelTested (m : ℕ) (p : RelParts) (r : ℕ) : Type 0 where
  pub number : r ≡ rel_parts_fault m p
  pub bytes : AllBytes p.bytes
  pub words : AllWords p.words
  pub numbers : AllDoubles p.numbers

pub record SceneIs (sc : SceneParts) : Type 0 where
  pub body : (i : ℕ) → i < sc.m → BodyIs (sc.body i)
  pub rel : (j : ℕ) → j < sc.k → RelIs (sc.rel j)

-- ---- the promises of writing, of a scene that passes 3

-- a sheet and only one: s is accepted and reads as the scene
pub record SheetOf (sc : SceneParts) (s : List ℕ) : Type 0 where
  pub bytes : AllBytes s
  pub accepted : sheet_fault s ≡ 0
  pub reads : ReadsAs sc s

pub record OneSheet (sc : SceneParts) : Type 0 where
  -- the tests give the number that reading the sheet gives
  pub number : records_fault sc ≡ sheet_fault (sheet_bytes sc)
  -- a scene that passes has a sheet: it reads as the scene
  pub there : records_fault sc ≡ 0 → SheetOf sc (sheet_bytes sc)
  -- and only this one: writing what was read from a sheet gives its bytes, and the tests pass it
  pub only : (s : List ℕ) → SheetOf sc s → (sheet_bytes sc ≡ s) × (records_fault sc ≡ 0)

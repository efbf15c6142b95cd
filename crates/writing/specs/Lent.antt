-- Writing a scene that a caller in C lends: bytes, words and numbers of all bodies, then of all relations. Document 02, 2/14. Definitions only.
use Rattle.std.specs.Prelude.{ℕ, ◌+◌, ◌*◌, ◌≡◌, ◌&&◌, cond, List, ◌++◌, length, take, drop, eqb, leb, Float}
use Rattle.format.specs.Format.{rel_start}
use Rattle.format.specs.Faults.{or_else, unless}
use Rattle.writing.specs.Bytes.{part}
use Rattle.writing.specs.Writing.{BodyParts, RelParts, SceneParts, sheet_bytes, counts_fault, records_fault, room_fault, OneSheet}
use Rattle.writing.specs.Structs.{SolverReads}

-- 2 bytes a body, then 9 a relation; 5 words a relation; 16 numbers a body, then 29 a relation
abbrev pub lent_body : List ℕ → List Float → ℕ → BodyParts
lent_body bytes numbers i = record { bytes = part bytes (2 * i) 2; numbers = part numbers (16 * i) 16 }

abbrev pub lent_rel : ℕ → List ℕ → List ℕ → List Float → ℕ → RelParts
lent_rel m bytes words numbers j =
    record { bytes = part bytes (2 * m + 9 * j) 9; words = part words (5 * j) 5; numbers = part numbers (16 * m + 29 * j) 29 }

abbrev pub lent_scene : ℕ → ℕ → List ℕ → List ℕ → List Float → SceneParts
lent_scene m k bytes words numbers = record { m = m; k = k; body = lent_body bytes numbers; rel = lent_rel m bytes words numbers }

-- 10: bytes, words or numbers are short
abbrev pub lent_fault : ℕ → ℕ → ℕ → ℕ → ℕ → ℕ
lent_fault m k bytes words numbers = unless (leb (2 * m + 9 * k) bytes && (leb (5 * k) words && leb (16 * m + 29 * k) numbers)) 10

-- of a scene that passes 3: 10 where it is not whole, then each record in order
unfoldable pub lent_scene_fault : ℕ → ℕ → List ℕ → List ℕ → List Float → ℕ
lent_scene_fault m k bytes words numbers = or_else (lent_fault m k (length bytes) (length words) (length numbers)) (records_fault (lent_scene m k bytes words numbers))

-- 3; 10 for what is read; each record in order; 10 for the sheet
unfoldable pub write_fault : ℕ → ℕ → List ℕ → List ℕ → List Float → ℕ → ℕ
write_fault m k bytes words numbers room = or_else (counts_fault m k) (or_else (lent_scene_fault m k bytes words numbers) (room_fault m k room))

-- The promise: the number r, and the sheet at entry and at exit.
pub record WriteAnswer (m k : ℕ) (bytes words : List ℕ) (numbers : List Float) (r : ℕ) (sheet sheet' : List ℕ) : Type 0 where
  pub number : r ≡ write_fault m k bytes words numbers (length sheet)
  -- on refusal the same; else the scene's sheet, and a longer slice keeps its rest
  pub sheet_is : sheet' ≡ cond (eqb r 0) (sheet_bytes (lent_scene m k bytes words numbers) ++ drop (rel_start m k) sheet) sheet
  -- of a scene that is whole and within the counts: both round trips
  pub one_sheet : counts_fault m k ≡ 0 → lent_fault m k (length bytes) (length words) (length numbers) ≡ 0 → OneSheet (lent_scene m k bytes words numbers)
  -- where the call is accepted: the bytes written are a sheet that the solver reads as the bodies and relations made of
  -- what is lent
  pub solver_reads : r ≡ 0 → SolverReads (lent_scene m k bytes words numbers) (take (rel_start m k) sheet')

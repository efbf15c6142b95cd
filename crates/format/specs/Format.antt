-- The sheet: its header, and the bodies and relations behind it. Document 01, "The sheet". Definitions only; a record's fields stand in records' Record.antt.
use Rattle.std.specs.Prelude.{ℕ, ◌+◌, ◌*◌, List}
use Rattle.records.specs.Record.{u16_at}

-- ---- the header: 24 bytes

-- m and k
abbrev pub bodies_of : List ℕ → ℕ
bodies_of s = u16_at s 2

abbrev pub relations_of : List ℕ → ℕ
relations_of s = u16_at s 4

-- where body i starts, and relation j in a sheet of m bodies
abbrev pub body_start : ℕ → ℕ
body_start i = 24 + 136 * i

abbrev pub rel_start : ℕ → ℕ → ℕ
rel_start m j = 24 + 136 * m + 264 * j

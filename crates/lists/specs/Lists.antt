-- What a program that replays a list makes of its words (oracle/FORMATS.md): how many records follow, whether an answer is the list's, how many are not.
-- Definitions only.
use Rattle.std.specs.Prelude.{ℕ, ◌+◌, ◌%◌, ◌^◌, Bool, cond, ◌==◌, nat_lt, to_bits, Float}
use Rattle.std.specs.Float.{binary64}
use Rattle.lists.specs.declared.answers.Tally.{Tally}

-- The word n says how many records follow. After a wrong answer a list may be out of step and n be anything: from 2^16 on no record follows, and the counts differ.
abbrev pub records : ℕ → ℕ
records n = cond (nat_lt 0xFFFF n) 0 n

-- The word n is the double x: all bits are compared, and every NaN has the same.
abbrev pub same : Float → ℕ → Bool
same x n = to_bits binary64 x == n

-- One more wrong answer, unless it is right. A count goes on at 0 after 2^64 - 1.
abbrev pub counted : ℕ → Bool → ℕ
counted wrong right = cond right wrong ((wrong + 1) % 2 ^ 64)

-- One answer, right or not.
abbrev pub tally_of : Bool → Tally
tally_of right = record { answers = 1; wrong = counted 0 right }

-- The answers of both, counted likewise.
abbrev pub tally_sum : Tally → Tally → Tally
tally_sum a b = record { answers = (a.answers + b.answers) % 2 ^ 64; wrong = (a.wrong + b.wrong) % 2 ^ 64 }

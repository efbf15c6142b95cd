-- What the program `report` prints, as a list of bytes (ASCII). Document 01, "What a call says": which lines, in which order, and what each of them says. Each line
-- ends with a newline. Definitions only.
use Rattle.std.specs.Prelude.{ℕ, zero, suc, ◌+◌, ◌*◌, ◌/◌, ◌%◌, Bool, true, false, cond, List, [], ◌∷◌, ◌++◌, get_or, ltb, Float}
use Rattle.std.specs.Float.{nan, binary64}
use Rattle.std.specs.Float.Ieee.{eq, of_bits, to_bits}
use Rattle.numbers.specs.Double.{zero64, one64}
use Rattle.writing.specs.Bytes.{joined}

-- ---- words

-- "converged "
abbrev pub converged_word : List ℕ
converged_word = 99 ∷ 111 ∷ 110 ∷ 118 ∷ 101 ∷ 114 ∷ 103 ∷ 101 ∷ 100 ∷ 32 ∷ []

-- "relation "
abbrev pub relation_word : List ℕ
relation_word = 114 ∷ 101 ∷ 108 ∷ 97 ∷ 116 ∷ 105 ∷ 111 ∷ 110 ∷ 32 ∷ []

-- "free "
abbrev pub free_word : List ℕ
free_word = 102 ∷ 114 ∷ 101 ∷ 101 ∷ 32 ∷ []

-- "body "
abbrev pub body_word : List ℕ
body_word = 98 ∷ 111 ∷ 100 ∷ 121 ∷ 32 ∷ []

-- "refused "
abbrev pub refused_word : List ℕ
refused_word = 114 ∷ 101 ∷ 102 ∷ 117 ∷ 115 ∷ 101 ∷ 100 ∷ 32 ∷ []

-- ---- numbers

-- the digit of a number below 16: 0 to 9, then A to F
abbrev pub glyph : ℕ → ℕ
glyph d = cond (ltb d 10) (48 + d) (55 + d)

-- the last k digits of n in base b, the most significant first
unfoldable pub digits : ℕ → ℕ → ℕ → List ℕ
digits b zero n = []
digits b (suc k) n = digits b k (n / b) ++ (glyph (n % b) ∷ [])

-- how many decimal digits n has, found in so many steps; n steps are enough
unfoldable pub places_in : ℕ → ℕ → ℕ
places_in zero n = 1
places_in (suc steps) n = elim (ltb n 10) [ true ↦ 1 | false ↦ suc (places_in steps (n / 10)) ]

-- without leading zeros
abbrev pub decimal : ℕ → List ℕ
decimal n = digits 10 (places_in n n) n

-- a double's 64 bits; a NaN, whose bits the language leaves open, is shown as 7FF8000000000000
abbrev pub bits_text : Float → List ℕ
bits_text x = digits 16 16 (to_bits binary64 x)

-- the digit of a body's count of slides or turns, which is 0, 1, 2 or 3 as a double
unfoldable pub count_digit : Float → ℕ
count_digit x = cond (eq x zero64) 48 (cond (eq x one64) 49 (cond (eq x (of_bits binary64 0x4000_0000_0000_0000)) 50 51))

-- ---- lines

abbrev pub converged_line : Bool → List ℕ
converged_line converged = converged_word ++ (cond converged 49 48 ∷ 10 ∷ [])

-- a word and a number
abbrev pub number_line : List ℕ → ℕ → List ℕ
number_line word n = word ++ (decimal n ++ (10 ∷ []))

-- relation j and its error
abbrev pub relation_line : ℕ → Float → List ℕ
relation_line j x = relation_word ++ (decimal j ++ ((32 ∷ []) ++ (bits_text x ++ (10 ∷ []))))

-- body i with its counts of slides and turns
abbrev pub body_line : ℕ → Float → Float → List ℕ
body_line i slides turns = body_word ++ (decimal i ++ (32 ∷ count_digit slides ∷ 32 ∷ count_digit turns ∷ 10 ∷ []))

abbrev pub relation_lines : List Float → ℕ → List ℕ
relation_lines errors k = joined (λ j. relation_line j (get_or errors j nan)) k

-- a body has 29 doubles, of which the first two are its counts
abbrev pub body_lines : List Float → ℕ → List ℕ
body_lines freedoms m = joined (λ i. body_line i (get_or freedoms (29 * i) nan) (get_or freedoms (29 * i + 1) nan)) m

-- ---- what is printed

-- where both calls are accepted: whether `solve` converged, the errors of the k relations, the total freedom, and the counts of the m bodies
abbrev pub answer_text : Bool → List Float → ℕ → ℕ → List Float → ℕ → List ℕ
answer_text converged errors k free freedoms m = converged_line converged ++ (relation_lines errors k ++ (number_line free_word free ++ body_lines freedoms m))

-- where one of them refuses
abbrev pub refused_text : ℕ → List ℕ
refused_text number = number_line refused_word number

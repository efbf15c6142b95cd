-- Numbers as bytes, the lowest first, and bytes put to lent memory one piece after another. Document 01, "The sheet": little endian. Definitions only.
use Rattle.std.specs.Prelude.{ℕ, zero, suc, ◌+◌, ◌/◌, ◌%◌, ◌≤◌, ◌≡◌, List, [], ◌∷◌, ◌++◌, length, get_or, take, drop, Float}
use Rattle.std.specs.Float.{nan, binary64}
use Rattle.std.specs.Float.Ieee.{to_bits}

-- the n elements of a list from place o on
abbrev pub part : {A : Type 0} → List A → ℕ → ℕ → List A
part l o n = take n (drop o l)

-- n in k bytes
unfoldable pub little_endian : ℕ → ℕ → List ℕ
little_endian zero n = []
little_endian (suc k) n = n % 256 ∷ little_endian k (n / 256)

-- a double, by its bits
abbrev pub double_bytes : Float → List ℕ
double_bytes x = little_endian 8 (to_bits binary64 x)

-- the first k pieces, one after another
unfoldable pub joined : (ℕ → List ℕ) → ℕ → List ℕ
joined piece zero = []
joined piece (suc k) = joined piece k ++ piece k

-- n doubles of xs, from place o on
abbrev pub doubles_bytes : List Float → ℕ → ℕ → List ℕ
doubles_bytes xs o n = joined (λ i. double_bytes (get_or xs (o + i) nan)) n

-- from s to t the bytes l have come to stand from place o on, r is the place behind them, and nothing else has changed
pub record Put (s t : List ℕ) (o r : ℕ) (l : List ℕ) : Type 0 where
  pub next : r ≡ o + length l
  pub room : r ≤ length s
  pub text : t ≡ take o s ++ (l ++ drop r s)

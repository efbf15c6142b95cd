-- A formula over `Ops` read on bounds: it computes its own bound. With the bound of a product, and what it says that a double
-- is small: the words of the facts about sums and Horner forms of any length. Document 01, "Agreement". Definitions only.
use Rattle.std.specs.Prelude.{ℕ, ◌+◌, ◌*◌, ◌/◌, max, false, ◌&&◌, List, [], ◌∷◌, T, Float}
use Rattle.std.specs.Float.{nan, inf, fin}
use Rattle.std.specs.Float.Ieee.{up, down}
use Rattle.std.specs.Float.Ieee.Scale.{finite}
use Rattle.numbers.specs.Ops.{Ops}
use Rattle.numbers.specs.Close.{Mag}
use Rattle.numbers.specs.Near.{Bound, S, value_of, add_bound, mul_bound, exactly}

-- the larger of two
abbrev pub max_bound : Bound → Bound → Bound
max_bound b c = record { ok = b.ok && c.ok; most = max b.most c.most; off = max b.off c.off }

-- a constant
unfoldable pub const_bound : Float → Bound
unfolding S
const_bound nan = record { ok = false; most = 0; off = 0 }
const_bound (inf s) = record { ok = false; most = 0; off = 0 }
const_bound (fin s m e) = exactly (m * up e * S / down e + 1)

-- a formula's bound
abbrev pub bounds : Ops Bound
bounds = record { add = add_bound; sub = add_bound; mul = mul_bound; neg = λ b. b; max = max_bound; of = const_bound }

-- a product of two doubles of at most A / S and B / S
abbrev pub product_bound : ℕ → ℕ → Bound
product_bound A B = mul_bound (exactly A) (exactly B)

-- x is finite, of magnitude at most m / S
abbrev pub Small : ℕ → Float → Type 0
Small m x = T (finite x) × Mag S (value_of x) m

-- each is finite, of magnitude at most m / S
abbrev pub AllSmall : ℕ → List Float → Type 0
AllSmall m [] = Unit {0}
AllSmall m (x ∷ l) = Small m x × AllSmall m l

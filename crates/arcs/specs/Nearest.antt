-- What it says that each coefficient is the double nearest to its fraction, and the bound of the arctangent the double nearest to √2 - 1. Document 01, "The train of files", item 1.
-- proofs/NearestLaws.antt has the proof, `nearest_coefs`. Definitions and statements.
use Rattle.std.specs.Prelude.{ℕ, zero, suc, ◌*◌, ◌≡◌, Bool, true, false, not, List, [], ◌∷◌, Float}
use Rattle.std.specs.Float.{binary64}
use Rattle.std.specs.Float.Ieee.{round, of_bits}
use Rattle.numbers.specs.Frac.{Frac, add_q, mul_q, lt_q}
use Rattle.arcs.specs.Coefs.{sine_coefs, cosine_coefs, arctangent_coefs}
use Rattle.arcs.specs.Arcs.{root_two_less}
use Rattle.arcs.specs.Pi.{whole, halfway}

unfoldable pub factorial : ℕ → ℕ
factorial zero = 1
factorial (suc n) = suc n * factorial n

-- n doubles of alternating sign: the nearest to 1 over each of d k, d (k + 2), d (k + 4), ..; the first is negative where s is true
unfoldable pub reciprocals : (ℕ → ℕ) → Bool → ℕ → ℕ → List Float
unfolding round
reciprocals d s k zero = []
reciprocals d s k (suc n) = round binary64 s 1 (d k) ∷ reciprocals d (not s) (suc (suc k)) n

-- the number halfway between two doubles, and 1
unfoldable pub one_and_halfway : Float → Float → Frac
unfolding add_q halfway
one_and_halfway x y = add_q (whole 1) (halfway x y)

pub record NearestCoefs : Type 0 where
  -- 1/1!, -1/3!, .. 1/17!
  pub sine_coefs_are : sine_coefs ≡ reciprocals factorial false 1 9
  -- 1/0!, -1/2!, .. 1/16!
  pub cosine_coefs_are : cosine_coefs ≡ reciprocals factorial false 0 9
  -- 1/1, -1/3, .. -1/39
  pub arctangent_coefs_are : arctangent_coefs ≡ reciprocals (λ j. j) false 1 20
  -- √2 - 1 lies above the number halfway to the double before, and below the number halfway to the double after
  pub root_two_less_above : (let h = one_and_halfway (of_bits binary64 0x3FDA_8279_99FC_EF31) root_two_less in lt_q (mul_q h h) (whole 2)) ≡ true
  pub root_two_less_below : (let h = one_and_halfway root_two_less (of_bits binary64 0x3FDA_8279_99FC_EF33) in lt_q (whole 2) (mul_q h h)) ≡ true

-- Each coefficient is the double nearest to its fraction, and the bound of the arctangent the double nearest to √2 - 1: the fractions are rounded and compared with the bits, by
-- computation. Assumes nothing.
use mathlib.Core.Path.{refl}
use lib.Ieee.{of_bits}
use Rattle.numbers.specs.Frac.{mul_q, lt_q}
use Rattle.arcs.specs.Nearest.{factorial, reciprocals, one_and_halfway, NearestCoefs}

pub nearest_coefs : NearestCoefs
unfolding reciprocals factorial one_and_halfway lt_q mul_q of_bits
nearest_coefs = record { sine_coefs_are = refl; cosine_coefs_are = refl; arctangent_coefs_are = refl; root_two_less_above = refl; root_two_less_below = refl }

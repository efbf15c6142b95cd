-- The tests of solving by rounds, by the parts that the code has functions for, and test 16 by the numbers that the code compares. Assumes nothing.
use mathlib.Core.Path.{◌≡◌, refl, ap, ◌∙◌}
use mathlib.Core.Bool.{Bool, true, false, ◌&&◌}
use mathlib.Core.List.{List}
use Prim.Native.Nat.{ℕ, zero, suc, ◌*◌}
use lib.Dec.{leb}
use Rattle.format.specs.Format.{bodies_of, relations_of}
use Rattle.format.specs.Faults.{or_else, unless}
use Rattle.scene.specs.Solve.{Parameters}
use Rattle.refusals.specs.Refusals.{portion_fits, state_length, rounds_fault}
use Rattle.refusals.specs.Parts.{call_fault, lent_fault, solve_long, portion_fault}
use Rattle.refusals.proofs.LentLaws.{call_then}

-- two tests of one number, in either order
swapped : (a b : Bool) (number w : ℕ) → or_else (unless (a && b) number) w ≡ or_else (unless b number) (or_else (unless (a && true) number) w)
swapped true true number w = refl
swapped true false number w = refl
swapped false true zero w = refl
swapped false true (suc number) w = refl
swapped false false zero w = refl
swapped false false (suc number) w = refl

-- two tests of one number, one after the other
unless_both : (a b : Bool) (number w : ℕ) → or_else (unless (a && b) number) w ≡ or_else (unless a number) (or_else (unless b number) w)
unless_both true b number w = refl
unless_both false true zero w = refl
unless_both false false zero w = refl
unless_both false b (suc number) w = refl

pub rounds_parts : (s : List ℕ) (p : Parameters) (drag portion : ℕ) (counted : Bool) (state scratch poses frames errors : ℕ)
    → rounds_fault s p drag portion counted state scratch poses frames errors ≡ or_else (call_fault s p drag) (portion_fault s portion counted state scratch poses frames errors)
unfolding rounds_fault portion_fault lent_fault solve_long
rounds_parts s p drag portion counted state scratch poses frames errors =
    rw (unless_both (leb (state_length s) state) (leb (12 * bodies_of s) poses && (leb (12 * bodies_of s) frames && leb (relations_of s) errors)) 10 _) (call_then s p drag _)

-- the counts of a call that goes on, then the tests of one whose counts are the sheet's
pub counted_parts : (s : List ℕ) (p : Parameters) (drag portion : ℕ) (counted : Bool) (state scratch poses frames errors : ℕ)
    → rounds_fault s p drag portion counted state scratch poses frames errors
    ≡ or_else (call_fault s p drag) (or_else (unless counted 16) (portion_fault s portion true state scratch poses frames errors))
unfolding portion_fault
counted_parts s p drag portion counted state scratch poses frames errors =
    rounds_parts s p drag portion counted state scratch poses frames errors ∙ ap (or_else (call_fault s p drag)) (swapped (portion_fits portion) counted 16 _)

-- The tests in the parts that the code has functions for. specs/Refusals.antt has the tests of each call whole; proofs/LentLaws.antt and proofs/PortionLaws.antt show that
-- these are their parts. Definitions only.
use Rattle.std.specs.Prelude.{ℕ, ◌*◌, Bool, ◌&&◌, List, leb}
use Rattle.scene.specs.Solve.{Parameters}
use Rattle.format.specs.Format.{bodies_of, relations_of}
use Rattle.format.specs.Faults.{or_else, unless, sheet_fault}
use Rattle.refusals.specs.Refusals.{drag_fault, parameters_fault, solve_scratch, state_length, portion_fits}

-- what is tested before the portion and what is lent: the sheet, 8, 15
unfoldable pub call_fault : List ℕ → Parameters → ℕ → ℕ
call_fault s p drag = or_else (sheet_fault s) (or_else (drag_fault s drag) (parameters_fault p))

-- 10, then 9
unfoldable pub lent_fault : Bool → ℕ → ℕ → ℕ
lent_fault long need scratch = or_else (unless long 10) (unless (leb need scratch) 9)

unfoldable pub solve_long : List ℕ → ℕ → ℕ → ℕ → Bool
solve_long s poses frames errors = leb (12 * bodies_of s) poses && (leb (12 * bodies_of s) frames && leb (relations_of s) errors)

-- what is lent to a call of `solve`
abbrev pub solve_lent_fault : List ℕ → ℕ → ℕ → ℕ → ℕ → ℕ
solve_lent_fault s scratch poses frames errors = lent_fault (solve_long s poses frames errors) (solve_scratch s) scratch

-- 16, then a state that is short, then what is lent to a call of `solve`
unfoldable pub portion_fault : List ℕ → ℕ → Bool → ℕ → ℕ → ℕ → ℕ → ℕ → ℕ
portion_fault s portion counted state scratch poses frames errors =
    or_else (unless (portion_fits portion && counted) 16) (or_else (unless (leb (state_length s) state) 10) (solve_lent_fault s scratch poses frames errors))

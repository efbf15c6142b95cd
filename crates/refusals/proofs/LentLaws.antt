-- The tests of what a call takes: each by the numbers that the code compares. Assumes nothing.
use mathlib.Core.Path.{◌≡◌, refl, sym}
use mathlib.Core.Bool.{true}
use mathlib.Core.List.{List}
use Prim.Native.Nat.{ℕ, zero, suc, ◌≤◌}
use native.Mathlib.Omega.{arith}
use lib.Ieee.{lt, le, eq, of_bits}
use borrow.Author.Tests.{le-leb}
use Rattle.format.specs.Faults.{or_else, sheet_fault}
use Rattle.scene.specs.Solve.{Parameters, plain, in_range}
use Rattle.refusals.specs.Refusals.{drag_fault, parameters_fault, solve_with_fault, solve_fault}
use Rattle.refusals.specs.Parts.{call_fault, lent_fault, solve_long, solve_lent_fault}
use Rattle.format.proofs.RefusalLaws.{later, none_of}

-- ---- the order of the tests

-- three tests in a row, the first two taken together
or_else_assoc : (a b c : ℕ) → or_else a (or_else b c) ≡ or_else (or_else a b) c
or_else_assoc zero b c = refl
or_else_assoc (suc a) b c = refl

-- the sheet, 8, 15, then whatever follows
pub call_then : (s : List ℕ) (p : Parameters) (drag w : ℕ) → or_else (sheet_fault s) (or_else (drag_fault s drag) (or_else (parameters_fault p) w)) ≡ or_else (call_fault s p drag) w
unfolding call_fault
call_then s p drag w = rw (or_else_assoc (drag_fault s drag) (parameters_fault p) w, or_else_assoc (sheet_fault s) (or_else (drag_fault s drag) (parameters_fault p)) w)

-- a call that the sheet and the drag do not refuse is refused by what is chosen
pub call_chosen : (s : List ℕ) (p : Parameters) (drag f d q : ℕ) → f ≡ sheet_fault s → f ≡ 0 → d ≡ drag_fault s drag → d ≡ 0 → q ≡ parameters_fault p → q ≡ call_fault s p drag
unfolding call_fault
call_chosen s p drag f d q e z de dz qe = later _ (sheet_fault s) _ f q refl e z (later _ (drag_fault s drag) _ d q refl de dz qe)

-- a call that none of these refuses has a sheet that passes
pub call_sheet : (s : List ℕ) (p : Parameters) (drag : ℕ) → 0 ≡ call_fault s p drag → sheet_fault s ≡ 0
unfolding call_fault
call_sheet s p drag e = (none_of (sheet_fault s) _ (sym e)).0

pub solve_parts_lem : (s : List ℕ) (p : Parameters) (drag scratch poses frames errors : ℕ)
    → solve_with_fault s p drag scratch poses frames errors ≡ or_else (call_fault s p drag) (solve_lent_fault s scratch poses frames errors)
unfolding solve_with_fault lent_fault solve_long
solve_parts_lem s p drag scratch poses frames errors = call_then s p drag _

-- a call whose parameters are all in range is refused by 8, 10 and 9 alone, once its sheet passes
pub range_fault : (s : List ℕ) (p : Parameters) (drag scratch poses frames errors : ℕ) → in_range p ≡ true
    → solve_with_fault s p drag scratch poses frames errors ≡ or_else (sheet_fault s) (or_else (drag_fault s drag) (solve_lent_fault s scratch poses frames errors))
unfolding solve_with_fault lent_fault solve_long
range_fault s p drag scratch poses frames errors e = rw e

-- what a call takes that chooses nothing is in range, and so it is with any other rounds from 1 to 1000
pub rounds_range : (k : ℕ) → 1 ≤ k → k ≤ 1000 → in_range (record { tolerance = plain.tolerance; rounds = k; row_limit = plain.row_limit; drag_weight = plain.drag_weight }) ≡ true
unfolding in_range le lt eq of_bits
rounds_range k a b = rw (le-leb 1 k a, le-leb k 1000 b)

pub plain_fault : (s : List ℕ) (drag scratch poses frames errors : ℕ)
    → solve_fault s drag scratch poses frames errors ≡ or_else (sheet_fault s) (or_else (drag_fault s drag) (solve_lent_fault s scratch poses frames errors))
plain_fault s drag scratch poses frames errors = range_fault s plain drag scratch poses frames errors (rounds_range 60 (omega arith) (omega arith))

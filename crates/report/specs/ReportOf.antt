-- What `report` prints for a sheet, from the sheet's bytes alone: `solve` with no drag and 200 rounds a run, then `dof`, each with 8192 doubles of scratch, and slices for 64
-- bodies and 128 relations. Document 01, "What a call says"; document 02, 8/14. Definitions only.
use Rattle.std.specs.Prelude.{ℕ, cond, List, eqb}
use Rattle.std.specs.Float.{binary64}
use Rattle.std.specs.Float.Ieee.{of_bits}
use Rattle.vectors.specs.Tol.{ASSEMBLY}
use Rattle.scene.specs.Solve.{Parameters, Solution}
use Rattle.body_freedom.specs.Layout.{freedoms_doubles}
use Rattle.format.specs.Format.{bodies_of, relations_of}
use Rattle.format.specs.Faults.{or_else}
use Rattle.refusals.specs.Refusals.{solve_with_fault, dof_fault}
use Rattle.sheet.specs.Solving.{solution_with}
use Rattle.sheet.specs.Freedoms.{freedoms_of}
use Rattle.report.specs.Report.{answer_text, refused_text}

-- what `report` names for its call of `solve`: 1e-9, 200, 800, 10000
abbrev pub report_parameters : Parameters
report_parameters = record { tolerance = ASSEMBLY; rounds = 200; row_limit = 800; drag_weight = of_bits binary64 0x40C3_8800_0000_0000 }

-- what it answers; a drag of 65535 is none
abbrev pub report_solution : List ℕ → Solution
report_solution s = solution_with s report_parameters 65535

-- the numbers of the two calls, with what `report` lends them
abbrev pub solve_number : List ℕ → ℕ
solve_number s = solve_with_fault s report_parameters 65535 8192 768 768 128

abbrev pub dof_number : List ℕ → ℕ
dof_number s = dof_fault s 8192 1856

-- the number of the call that refuses, `solve`'s first, or 0
unfoldable pub number_of : List ℕ → ℕ
number_of s = or_else (solve_number s) (dof_number s)

-- where neither does
abbrev pub answer_of : List ℕ → List ℕ
answer_of s = answer_text (report_solution s).converged (report_solution s).errors (relations_of s) (freedoms_of s).total (freedoms_doubles (freedoms_of s).bodies) (bodies_of s)

unfoldable pub report_of : List ℕ → List ℕ
report_of s = cond (eqb (number_of s) 0) (answer_of s) (refused_text (number_of s))

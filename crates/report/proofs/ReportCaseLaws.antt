-- The cases of specs/ReportCases.antt hold: by evaluation, and the refusals since what `report` names is within the ranges (`rounds_range`). Assumes nothing.
use Prim.Native.Nat.{ℕ}
use mathlib.Core.Path.{◌≡◌, refl, sym, ap, ◌∙◌}
use mathlib.Core.List.{List}
use native.Mathlib.Omega.{arith}
use lib.Ieee.{of_bits, to_bits, eq, size}
use Rattle.format.specs.Faults.{or_else, header_fault, sheet_fault}
use Rattle.refusals.specs.Refusals.{solve_with_fault, solve_fault}
use Rattle.refusals.proofs.LentLaws.{range_fault, rounds_range, plain_fault}
use Rattle.writing.specs.Bytes.{joined}
use Rattle.report.specs.Report.{digits, places_in, count_digit}
use Rattle.report.specs.ReportOf.{report_parameters, dof_number, number_of, report_of}
use Rattle.report.specs.ReportCases.{ReportCases}

refused_as_bare : (s : List ℕ) → number_of s ≡ or_else (solve_fault s 65535 8192 768 768 128) (dof_number s)
unfolding number_of
refused_as_bare s =
    ap (λ (n : ℕ). or_else n (dof_number s))
    (range_fault s report_parameters 65535 8192 768 768 128 (rounds_range 200 (omega arith) (omega arith)) ∙ sym (plain_fault s 65535 8192 768 768 128))

pub report_cases : ReportCases
unfolding digits places_in count_digit joined of_bits to_bits eq size report_of number_of solve_with_fault sheet_fault header_fault
report_cases =
    record {
      worked_example = refl;
      refusal_fourteen = refl;
      relation_root_of_two = refl;
      body_sixty_three = refl;
      nothing_listed = refl;
      more_digits = refl;
      not_finite = refl;
      refused_alike = refused_as_bare;
      nothing_read = refl;
    }

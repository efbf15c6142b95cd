-- Document 01's worked example of `report`, a line of each kind with numbers of several digits, and the report of an empty input, held against the bytes of the text; and its
-- refusals beside those of a call that chooses nothing. "What a call says". proofs/ReportCaseLaws.antt has the proof, `report_cases`. Definitions and statements.
use Rattle.std.specs.Prelude.{ℕ, ◌≡◌, true, false, List, [], ◌∷◌, ◌++◌, replicate}
use Rattle.std.specs.Float.{nan, inf, binary64}
use Rattle.std.specs.Float.Ieee.{of_bits}
use Rattle.numbers.specs.Double.{zero64}
use Rattle.format.specs.Faults.{or_else}
use Rattle.refusals.specs.Refusals.{solve_fault}
use Rattle.report.specs.Report.{answer_text, refused_text, relation_line, body_line, decimal, bits_text}
use Rattle.report.specs.ReportOf.{dof_number, number_of, report_of}

pub record ReportCases : Type 0 where
  -- converged, one relation with error 0, three in all, one body with no slide and three turns
  pub worked_example : answer_text true (zero64 ∷ []) 1 3 (zero64 ∷ of_bits binary64 0x4008_0000_0000_0000 ∷ replicate 27 zero64) 1
      ≡ 99 ∷ 111 ∷ 110 ∷ 118 ∷ 101 ∷ 114 ∷ 103 ∷ 101 ∷ 100 ∷ 32 ∷ 49 ∷ 10 ∷
      114 ∷ 101 ∷ 108 ∷ 97 ∷ 116 ∷ 105 ∷ 111 ∷ 110 ∷ 32 ∷ 48 ∷ 32 ∷ 48 ∷ 48 ∷ 48 ∷ 48 ∷ 48 ∷ 48 ∷ 48 ∷ 48 ∷ 48 ∷ 48 ∷ 48 ∷ 48 ∷ 48 ∷ 48 ∷ 48 ∷ 48 ∷ 10 ∷
      102 ∷ 114 ∷ 101 ∷ 101 ∷ 32 ∷ 51 ∷ 10 ∷
      98 ∷ 111 ∷ 100 ∷ 121 ∷ 32 ∷ 48 ∷ 32 ∷ 48 ∷ 32 ∷ 51 ∷ 10 ∷ []
  -- "refused 14"
  pub refusal_fourteen : refused_text 14 ≡ 114 ∷ 101 ∷ 102 ∷ 117 ∷ 115 ∷ 101 ∷ 100 ∷ 32 ∷ 49 ∷ 52 ∷ 10 ∷ []
  -- "relation 127 3FF6A09E667F3BCD": the root of 2
  pub relation_root_of_two : relation_line 127 (of_bits binary64 0x3FF6_A09E_667F_3BCD)
      ≡ 114 ∷ 101 ∷ 108 ∷ 97 ∷ 116 ∷ 105 ∷ 111 ∷ 110 ∷ 32 ∷ 49 ∷ 50 ∷ 55 ∷ 32 ∷ 51 ∷ 70 ∷ 70 ∷ 54 ∷ 65 ∷ 48 ∷ 57 ∷ 69 ∷ 54 ∷ 54 ∷ 55 ∷ 70 ∷ 51 ∷ 66 ∷ 67 ∷ 68 ∷ 10 ∷ []
  -- "body 63 1 2"
  pub body_sixty_three : body_line 63 (of_bits binary64 0x3FF0_0000_0000_0000) (of_bits binary64 0x4000_0000_0000_0000)
      ≡ 98 ∷ 111 ∷ 100 ∷ 121 ∷ 32 ∷ 54 ∷ 51 ∷ 32 ∷ 49 ∷ 32 ∷ 50 ∷ 10 ∷ []
  -- "converged 0" and "free 384", with no relation and no body
  pub nothing_listed : answer_text false [] 0 384 [] 0 ≡ 99 ∷ 111 ∷ 110 ∷ 118 ∷ 101 ∷ 114 ∷ 103 ∷ 101 ∷ 100 ∷ 32 ∷ 48 ∷ 10 ∷ 102 ∷ 114 ∷ 101 ∷ 101 ∷ 32 ∷ 51 ∷ 56 ∷ 52 ∷ 10 ∷ []
  -- where the count of digits changes: 9, 10, 99, 100, and 65535
  pub more_digits : decimal 9 ++ (decimal 10 ++ (decimal 99 ++ (decimal 100 ++ decimal 65535)))
      ≡ 57 ∷ 49 ∷ 48 ∷ 57 ∷ 57 ∷ 49 ∷ 48 ∷ 48 ∷ 54 ∷ 53 ∷ 53 ∷ 51 ∷ 53 ∷ []
  -- an infinity's bits, and those that stand for a NaN
  pub not_finite : bits_text (inf false) ++ bits_text nan
      ≡ 55 ∷ 70 ∷ 70 ∷ 48 ∷ 48 ∷ 48 ∷ 48 ∷ 48 ∷ 48 ∷ 48 ∷ 48 ∷ 48 ∷ 48 ∷ 48 ∷ 48 ∷ 48 ∷ 55 ∷ 70 ∷ 70 ∷ 56 ∷ 48 ∷ 48 ∷ 48 ∷ 48 ∷ 48 ∷ 48 ∷ 48 ∷ 48 ∷ 48 ∷ 48 ∷ 48 ∷ 48 ∷ []
  -- what is named is within the ranges: `report` is refused as a call is that chooses nothing, and never by 15
  pub refused_alike : (s : List ℕ) → number_of s ≡ or_else (solve_fault s 65535 8192 768 768 128) (dof_number s)
  -- an empty input: "refused 1"
  pub nothing_read : report_of [] ≡ 114 ∷ 101 ∷ 102 ∷ 117 ∷ 115 ∷ 101 ∷ 100 ∷ 32 ∷ 49 ∷ 10 ∷ []

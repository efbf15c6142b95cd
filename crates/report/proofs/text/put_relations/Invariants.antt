-- `report::text::put_relations` meets its contract. The invariant: the lines of the relations passed stand from `at` on. Assumes nothing.
use mathlib.Core.Path.{◌≡◌}
use lib.ListN.{length}
use Rattle.writing.specs.Bytes.{Put}
use Rattle.report.specs.Report.{relation_lines}
use Rattle.report.proofs.text.put_relations.Given as goal

abbrev pub invariant-loop-j : goal.invariant-loop-j
invariant-loop-j l = (length l.out ≡ length l.initial.out) × Put l.initial.out l.out l.at l.next (relation_lines l.errors l.j)

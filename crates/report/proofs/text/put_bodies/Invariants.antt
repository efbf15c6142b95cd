-- `report::text::put_bodies` meets its contract. The invariant: the lines of the bodies passed stand from `at` on. Assumes nothing.
use mathlib.Core.Path.{◌≡◌}
use lib.ListN.{length}
use Rattle.writing.specs.Bytes.{Put}
use Rattle.report.specs.Report.{body_lines}
use Rattle.report.proofs.text.put_bodies.Given as goal

abbrev pub invariant-loop-i : goal.invariant-loop-i
invariant-loop-i l = (length l.out ≡ length l.initial.out) × Put l.initial.out l.out l.at l.next (body_lines l.freedoms l.i)

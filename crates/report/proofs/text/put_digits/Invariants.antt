-- `report::text::put_digits` meets its contract. The invariant: the last digits stand behind the i that are to come, which are those of `rest`. Assumes nothing.
use Rattle.std.proofs.Common.{◌≡◌, length}
use Rattle.report.proofs.TextLaws.{Spelled}
use Rattle.report.proofs.text.put_digits.Given as goal

abbrev pub invariant-loop-i : goal.invariant-loop-i
invariant-loop-i l = (length l.out ≡ length l.initial.out) × Spelled l.base l.k l.n l.initial.out l.out l.at l.i l.rest

-- `roots::cases::lifted` meets its contract. The invariant: c has the first i + 1 digits. Assumes nothing.
use Rattle.std.proofs.Common.{◌≡◌, ◌≤◌}
use Rattle.roots.specs.Cases.{digits}
use Rattle.roots.proofs.cases.lifted.Given as goal

abbrev pub invariant-loop-i : goal.invariant-loop-i
invariant-loop-i l = (l.i ≤ 51) × (l.c ≡ digits l.s l.last l.i)

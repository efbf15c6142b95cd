-- `roots::cases::exponents` meets its contract. The invariant: the first field are compared, in turn. Assumes
-- nothing.
use Rattle.std.proofs.Common.{◌≡◌, ◌≤◌}
use Rattle.roots.specs.Cases.{in_turn, one_exponent}
use Rattle.roots.proofs.cases.exponents.Given as goal

abbrev pub invariant-loop-field : goal.invariant-loop-field
invariant-loop-field l = (l.field ≤ 2047) × (l.t ≡ in_turn l.field one_exponent l.initial.t)

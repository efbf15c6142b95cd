-- `roots::cases::halfways` meets its contract. The invariant: the first k are compared, in turn. Assumes nothing.
use Rattle.std.proofs.Common.{◌≡◌, ◌≤◌}
use Rattle.roots.specs.Cases.{in_turn, four_halfways}
use Rattle.roots.proofs.cases.halfways.Given as goal

abbrev pub invariant-loop-k : goal.invariant-loop-k
invariant-loop-k l = (l.k ≤ 2048) × (l.t ≡ in_turn l.k four_halfways l.initial.t)

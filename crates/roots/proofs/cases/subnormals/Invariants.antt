-- `roots::cases::subnormals` meets its contract. The invariant: the first k are compared, in turn. Assumes nothing.
use Rattle.std.proofs.Common.{◌≡◌, ◌≤◌}
use Rattle.roots.specs.Cases.{in_turn, one_subnormal}
use Rattle.roots.proofs.cases.subnormals.Given as goal

abbrev pub invariant-loop-k : goal.invariant-loop-k
invariant-loop-k l = (l.k ≤ 4096) × (l.t ≡ in_turn l.k one_subnormal l.initial.t)

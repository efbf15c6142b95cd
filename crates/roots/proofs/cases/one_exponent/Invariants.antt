-- `roots::cases::one_exponent` meets its contract. The invariant: k random doubles are compared, in turn.
-- Assumes nothing.
use Rattle.std.proofs.Common.{◌≡◌, ◌≤◌}
use Rattle.roots.specs.Cases.{in_turn, one_random}
use Rattle.roots.proofs.cases.one_exponent.Given as goal

abbrev pub invariant-loop-k : goal.invariant-loop-k
invariant-loop-k l = (l.k ≤ 24) × (l.t ≡ in_turn l.k (λ k u. one_random l.field u) l.initial.t)

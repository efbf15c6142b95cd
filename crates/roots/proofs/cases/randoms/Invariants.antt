-- `roots::cases::randoms` meets its contract. The invariant: the first k are compared, in turn. Assumes nothing.
use Rattle.std.proofs.Common.{◌≡◌, ◌≤◌}
use Rattle.roots.specs.Cases.{in_turn, compare_bits, next, seed_after}
use Rattle.roots.proofs.cases.randoms.Given as goal

abbrev pub invariant-loop-k : goal.invariant-loop-k
invariant-loop-k l = (l.k ≤ 32768) × (l.t ≡ in_turn l.k (λ k u. compare_bits (next u) (seed_after u.seed)) l.initial.t)

-- `roots::cases::squares` meets its contract. The invariant: the first k are compared, in turn. Assumes nothing.
use Rattle.std.proofs.Common.{◌≡◌, ◌/◌, ◌≤◌}
use Rattle.roots.specs.Cases.{in_turn, one_square, next, seed_after}
use Rattle.roots.proofs.cases.squares.Given as goal

abbrev pub invariant-loop-k : goal.invariant-loop-k
invariant-loop-k l = (l.k ≤ 8192) × (l.t ≡ in_turn l.k (λ k u. one_square (next u) (seed_after u.seed / 4096) k) l.initial.t)

-- `roots::cases::squares` meets its contract. The invariant: the first k are compared, in turn. Assumes nothing.
use Rattle.std.proofs.Common.{◌≡◌, ℕ, ◌/◌, sym, arith}
use Rattle.roots.specs.Cases.{one_square, next, seed_after}
use Rattle.roots.proofs.InTurn.{turn_next, turn_none}
use Rattle.roots.proofs.cases.squares.Goals as goal

pub loop-k-init : goal.loop-k-init
loop-k-init c = (omega arith, sym (turn_none _ _))

pub loop-k-preserved : goal.loop-k-preserved
loop-k-preserved c = (
  omega arith,
  rw (
    turn_next (λ k u. one_square (next u) (seed_after u.seed / 4096) k) _ _,
    sym c.loop-k.invariant.1,
    c.one_square-t.ensures,
    c.next-t.ensures,
  ),
)

pub returns : goal.returns
returns c = let e : ◌≡◌ {A = ℕ} c.loop-k.k 8192 = omega arith in rw e at c.loop-k.invariant.1

-- `roots::cases::randoms` meets its contract. The invariant: the first k are compared, in turn. Assumes nothing.
use Rattle.std.proofs.Common.{◌≡◌, ℕ, sym, arith}
use Rattle.roots.specs.Cases.{compare_bits, next, seed_after}
use Rattle.roots.proofs.InTurn.{turn_next, turn_none}
use Rattle.roots.proofs.cases.randoms.Goals as goal

pub loop-k-init : goal.loop-k-init
loop-k-init c = (omega arith, sym (turn_none _ _))

pub loop-k-preserved : goal.loop-k-preserved
loop-k-preserved c = (
  omega arith,
  rw (
    turn_next (λ k u. compare_bits (next u) (seed_after u.seed)) _ _,
    sym c.loop-k.invariant.1,
    c.compare_bits-t.ensures,
    c.next-t.ensures,
  ),
)

pub returns : goal.returns
returns c = let e : ◌≡◌ {A = ℕ} c.loop-k.k 32768 = omega arith in rw e at c.loop-k.invariant.1

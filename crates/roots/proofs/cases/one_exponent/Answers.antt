-- `roots::cases::one_exponent` meets its contract. The invariant: k random doubles are compared, in turn.
-- Assumes nothing.
use Rattle.std.proofs.Common.{◌≡◌, ℕ, sym, arith}
use Rattle.roots.specs.Cases.{one_random, one_exponent}
use Rattle.roots.proofs.InTurn.{turn_next, turn_none}
use Rattle.roots.proofs.cases.one_exponent.Goals as goal

pub loop-k-init : goal.loop-k-init
loop-k-init c = (omega arith, sym (turn_none _ _))

pub loop-k-preserved : goal.loop-k-preserved
loop-k-preserved c =
    let field = c.args.field in (
      omega arith,
      rw (
        turn_next (λ k u. one_random field u) _ _,
        sym c.loop-k.invariant.1,
        c.one_random-t.ensures,
      ),
    )

pub returns : goal.returns
unfolding one_exponent
returns c =
    let e : ◌≡◌ {A = ℕ} c.loop-k.k 24 = omega arith in
    rw (c.loop-k.invariant.1, e, c.ends-t.ensures)

-- `arcs::turns::turns` meets its contract: k turns fit into the angle, and k + room do not. Assumes nothing.
use Prim.Native.Nat.{ℕ, ◌+◌, ◌*◌, ◌^◌}
use Rattle.arcs.specs.TurnSteps.{Room}
use Rattle.arcs.proofs.turns.turns.Given as goal

-- the angle in units of 2 ^ -84
abbrev pub all : ℕ → ℕ → ℕ
all high low = (high * 2 ^ 16 + low) * 2 ^ 38

abbrev pub invariant-loop-room : goal.invariant-loop-room
invariant-loop-room l = Room (all l.high l.low) l.k l.room

abbrev pub decreases-loop-room : goal.decreases-loop-room
decreases-loop-room l = l.room

-- `slopes::moved::put_slopes` meets its contract. The invariant: the first r slopes are written and no other place has changed. The measure is the slopes to come. Assumes nothing.
use Prim.Native.Nat.{◌-◌, ◌≤◌}
use lib.Ieee.{nan}
use lib.ListN.{get_or}
use Rattle.least_squares.specs.Lm.{slope_of}
use Rattle.slopes.specs.Moved.{Strided}
use Rattle.slopes.proofs.moved.put_slopes.Given as goal

abbrev pub invariant-loop-r : goal.invariant-loop-r
invariant-loop-r l = (l.r ≤ l.plus.n) × Strided l.initial.s l.s l.o l.n l.r (λ q. slope_of (get_or l.plus.values q nan) (get_or l.minus.values q nan) l.h)

abbrev pub decreases-loop-r : goal.decreases-loop-r
decreases-loop-r l = l.plus.n - l.r

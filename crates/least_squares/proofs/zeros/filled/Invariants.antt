-- `least_squares::zeros::filled` lists what is no zero. The loop's invariant: those of the first c doubles are listed, and
-- the list is as it was from the second place behind them on. A number is written behind them in any case, and counts where
-- its double is one of them (`listed_step`). Assumes nothing.
use mathlib.Core.Path.{◌≡◌}
use Prim.Native.Nat.{◌≤◌}
use lib.ListN.{length}
use Rattle.least_squares.specs.Filled.{FilledList}
use Rattle.least_squares.proofs.zeros.filled.Given as goal

abbrev pub invariant-loop-c : goal.invariant-loop-c
invariant-loop-c l = (l.c ≤ l.k) × (length l.list ≡ length l.initial.list) × FilledList l.s l.o l.step l.c l.initial.list l.list l.m

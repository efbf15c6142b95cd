-- `eigen6::lay_out` meets its contract. The loop's invariant: the first i rows are laid, and the rest is as it was. Assumes nothing.
use Prim.Native.Nat.{◌*◌}
use mathlib.Core.Path.{◌≡◌}
use mathlib.Core.List.{◌++◌}
use lib.ListN.{drop}
use Rattle.spans.specs.Flat.{flat_to}
use Rattle.spans.proofs.eigen6.lay_out.Given as goal

abbrev pub invariant-loop-i : goal.invariant-loop-i
invariant-loop-i l = l.m ≡ flat_to l.n l.a l.i ++ drop (l.i * l.n) l.initial.m

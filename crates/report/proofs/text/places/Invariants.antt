-- `report::text::places` meets its contract. The invariant: k and the digits of `rest` are one more than those of n. The measure is `rest`. Assumes nothing.
use mathlib.Core.Path.{◌≡◌}
use Prim.Native.Nat.{◌+◌, ◌≤◌}
use Rattle.report.specs.Report.{places_in}
use Rattle.report.proofs.text.places.Given as goal

abbrev pub invariant-loop-rest : goal.invariant-loop-rest
invariant-loop-rest l = (l.k + l.rest ≤ l.n + 1) × (l.k + places_in l.rest l.rest ≡ places_in l.n l.n + 1)

abbrev pub decreases-loop-rest : goal.decreases-loop-rest
decreases-loop-rest l = l.rest

-- `arcs::arc::arctangent` meets its contract: the two tests are those of the definition. Assumes nothing.
use Rattle.arcs.proofs.NanQuotient.{not_a_number}
use Rattle.arcs.specs.Arcs.{arctangent}
use Rattle.arcs.proofs.arc.arctangent.Goals as goal
use Rattle.arcs.proofs.arc.arctangent.Goals.{else-is_finite-via-then-is_finite+else-is_finite-2, else-is_finite-via-else-is_finite}

pub returns-then-is_finite-2 : goal.returns-then-is_finite-2
unfolding arctangent
returns-then-is_finite-2 c = rw (c.arctangent_of.ensures, ← c.is_finite.ensures, c.if-is_finite.true, ← c.is_finite-then-is_finite.ensures, c.if-is_finite-2.true)

pub returns-else-is_finite : goal.returns-else-is_finite
unfolding arctangent
returns-else-is_finite c =
    elim c.else-is_finite.branch [
      | else-is_finite-via-then-is_finite+else-is_finite-2 w ↦ rw (not_a_number, ← c.is_finite.ensures, w.if-is_finite.true, ← w.is_finite-then-is_finite.ensures, w.if-is_finite-2.false)
      | else-is_finite-via-else-is_finite w ↦ rw (not_a_number, ← c.is_finite.ensures, w.if-is_finite.false)
    ]

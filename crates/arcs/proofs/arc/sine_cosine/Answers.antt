-- `arcs::arc::sine_cosine` meets its contract: the two tests are those of the definition. Assumes nothing.
use Rattle.arcs.proofs.NanQuotient.{not_a_number}
use Rattle.arcs.specs.Arcs.{sine_cosine}
use Rattle.arcs.proofs.arc.sine_cosine.Goals as goal
use Rattle.arcs.proofs.arc.sine_cosine.Goals.{else-is_finite-via-then-is_finite+else-not-t, else-is_finite-via-else-is_finite}

pub returns-then-not-t : goal.returns-then-not-t
unfolding sine_cosine
returns-then-not-t c = rw (c.sine_cosine_of.ensures, ← c.is_finite.ensures, c.if-is_finite.true, c.if-not-t.true)

pub returns-else-is_finite : goal.returns-else-is_finite
unfolding sine_cosine
returns-else-is_finite c =
    elim c.else-is_finite.branch [
      | else-is_finite-via-then-is_finite+else-not-t w ↦ rw (not_a_number, ← c.is_finite.ensures, w.if-is_finite.true, w.if-not-t.false)
      | else-is_finite-via-else-is_finite w ↦ rw (not_a_number, ← c.is_finite.ensures, w.if-is_finite.false)
    ]

-- `span::join` meets its contract: with what `without` and `len` promise, both tests are the definition's. Where they hold, writing the unit vector of the rest to the
-- first free place is the longer list's basis (`join_grows`); where one fails, the basis stays (`join_stays`). The basis has three places, so its count is at most 3.
-- Assumes nothing.
use mathlib.Core.Path.{◌≡◌, ap, ◌∙◌}
use Prim.Native.Nat.{◌+◌}
use lib.ListN.{set}
use lib.Ieee.{Float, lt}
use lib.Dec.{ltb}
use mathlib.Core.Bool.{false, ◌&&◌}
use Rattle.spans.specs.Span.{without}
use borrow.Author.Tests.{lt-ltb, le-ltb}
use Rattle.vectors.specs.Vec.{Vec, vec, len, normalized}
use Rattle.spans.specs.Basis.{vec3, basis}
use Rattle.spans.proofs.SpanLaws.{count_within, join_grows, join_stays}
use Rattle.spans.proofs.span.join.Goals as goal
use Rattle.spans.proofs.span.join.Goals.{else-least-len-via-then-least-len+else-out-lt3, else-least-len-via-else-least-len}

pub without-u-requires : goal.without-u-requires
without-u-requires c = count_within c.args.out c.requires c.args.least (vec c.args.v) c.well_formed.0.1.1.1.0.1.0.1

pub returns-then-out-lt3 : goal.returns-then-out-lt3
returns-then-out-lt3 c =
    let u = c.without-u in
    let test = rw (c.len.ensures, u.ensures) at c.if-least-len.true in
    ap (λ (w : Vec Float). record { count = c.args.out.count + 1; vectors = set c.args.out.vectors c.args.out.count (vec3 w) }) (c.normalized.ensures ∙ ap normalized u.ensures)
    ∙ join_grows c.args.out c.requires c.args.least (vec c.args.v) test (lt-ltb _ _ c.if-out-lt3.true)

pub returns-else-least-len : goal.returns-else-least-len
returns-else-least-len c =
    let e = c.len.ensures ∙ ap len c.without-u.ensures in
    let fails : (lt c.args.least (len (without (vec c.args.v) (basis c.args.out))) && ltb c.args.out.count 3) ≡ false = elim c.else-least-len.branch [
      | else-least-len-via-then-least-len+else-out-lt3 w ↦ rw (rw e at w.if-least-len.true) (le-ltb _ _ w.if-out-lt3.false)
      | else-least-len-via-else-least-len w ↦ rw (rw e at w.if-least-len.false)
    ] in
    join_stays c.args.out c.requires c.args.least (vec c.args.v) fails

-- `Free::with_extra` meets its contract. The loop's invariant: the first slide of its own is among the motions left. Assumes nothing.
use native.Mathlib.Omega.{arith}
use mathlib.Core.Path.{sym, ap, ◌∙◌}
use Rattle.vectors.specs.Vec.{vec}
use Rattle.spans.specs.Basis.{basis}
use Rattle.body_freedom.specs.BodyFreedom.{is_extra}
use Rattle.body_freedom.proofs.BodyLaws.{extra_step, extra_joined, extra_none}
use Rattle.body_freedom.proofs.body.Free.with_extra.Goals as goal

pub returns-then-is_extra : goal.returns-then-is_extra
returns-then-is_extra c =
    let l = c.loop-p in
    let ps = c.free_pairs-p-items in
    let test = sym (ap (is_extra (basis c.args.slides)) c.slide_part-v.ensures) ∙ sym c.is_extra.ensures ∙ c.if-is_extra.true in
    rw (← ps.ensures) (c.push_slide.ensures ∙ extra_joined ps.result.now (basis c.args.slides) l.p-index (vec c.slide_part-v.result) (omega arith) c.slide_part-v.ensures test l.invariant)

pub loop-p-preserved : goal.loop-p-preserved
loop-p-preserved c =
    let l = c.loop-p in
    let test = sym (ap (is_extra (basis c.args.slides)) c.slide_part-v.ensures) ∙ sym c.is_extra.ensures ∙ c.if-is_extra.false in
    sym (extra_step c.free_pairs-p-items.result.now (basis c.args.slides) l.p-index (omega arith) test) ∙ l.invariant

pub returns : goal.returns
returns c =
    let l = c.loop-p in
    let ps = c.free_pairs-p-items in
    rw (← ps.ensures) (c.requires.0 ∙ extra_none ps.result.now (basis c.args.slides) l.p-index (omega arith) l.invariant)

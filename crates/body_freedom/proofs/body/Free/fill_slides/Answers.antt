-- `body_freedom::body::fill_slides` meets its contract. The loop's invariant: `out` filled in the rounds left is `slides` filled in three. Assumes nothing.
use native.Mathlib.Omega.{arith}
use mathlib.Core.Path.{◌≡◌, refl}
use lib.ListN.{length}
use Rattle.spans.specs.Basis.{basis, basis_of}
use Rattle.body_freedom.specs.Dof.{extra_slide, join_slide, fill_slides}
use Rattle.body_freedom.specs.Motions.{motions}
use Rattle.body_freedom.proofs.BodyLaws.{whole_of, count_within, filled_enough, filled_full, filled_end, filled_few, filled_step}
use Rattle.body_freedom.proofs.body.Free.fill_slides.Goals as goal
use Rattle.body_freedom.proofs.body.Free.fill_slides.Goals.{then-self-out-via-then-self-out, then-self-out-via-else-self-out+then-out-ge3}

pub loop-k-init : goal.loop-k-init
loop-k-init c =
    let long : length c.args.slides.vectors ≡ 3 = c.well_formed.1.0.1.1.1.0.1.0.1 in
    (omega arith, c.well_formed.0.1.1.1.0.1.0.1, c.requires.0, count_within c.args.slides c.requires.0 long, refl)

pub returns-then-self-out : goal.returns-then-self-out
returns-then-self-out c =
    let l = c.loop-k in
    let g = basis_of (fill_slides (motions c.args.self) c.args.turns 3 (basis c.args.slides)) in
    elim c.then-self-out.branch [
      | then-self-out-via-then-self-out w ↦ filled_enough c.args.self (omega arith) c.args.turns l.k l.out g l.invariant.2 (omega arith) l.invariant.4
      | then-self-out-via-else-self-out+then-out-ge3 w ↦ filled_full c.args.self (omega arith) c.args.turns l.k l.out g l.invariant.2 (omega arith) (omega arith) l.invariant.4
    ]

pub with_extra-out-requires : goal.with_extra-out-requires
with_extra-out-requires c = (c.loop-k.invariant.2, omega arith)

pub loop-k-preserved : goal.loop-k-preserved
loop-k-preserved c =
    let l = c.loop-k in
    let b = c.with_extra-out in
    let g = basis_of (fill_slides (motions c.args.self) c.args.turns 3 (basis c.args.slides)) in (
      omega arith,
      l.invariant.1,
      whole_of b.result (join_slide (basis l.out) (extra_slide (basis l.out) (motions c.args.self))) b.ensures,
      filled_few c.args.self (omega arith) c.args.turns l.k l.out g l.invariant.2 b.result (omega arith) b.ensures,
      filled_step c.args.self (omega arith) c.args.turns l.k l.out g l.invariant.2 b.result (omega arith) b.ensures (omega arith) (omega arith) l.invariant.4,
    )

pub returns : goal.returns
returns c =
    let l = c.loop-k in
    filled_end c.args.self (omega arith) c.args.turns l.k l.out (basis_of (fill_slides (motions c.args.self) c.args.turns 3 (basis c.args.slides))) l.invariant.2 (omega arith) l.invariant.4

-- `body_freedom::body::body_dof`: its steps are those of the definition: the free motions of the six by six and the axes that they turn about, the pure slides of the three by three inside
-- it, the slides filled up, and a point on each axis. Assumes nothing.
use Rattle.vectors.specs.Vec.{vec}
use Rattle.spans.specs.Span.{span_basis}
use Rattle.spans.specs.Basis.{first}
use Rattle.spans.proofs.Flat.{good_grid}
use Rattle.body_freedom.specs.Dof.{SPAN}
use Rattle.body_freedom.proofs.BodyLaws.{whole_of, few_of, body_is}
use Rattle.body_freedom.proofs.body.body_dof.Goals as goal

pub fill_slides-slides-requires : goal.fill_slides-slides-requires
fill_slides-slides-requires c =
    let parts = first c.of-pure.result.count c.parts_at-2.result in (
      whole_of c.span_basis-straight.result (span_basis parts SPAN) c.span_basis-straight.ensures,
      few_of c.span_basis-axes.result _ _ c.span_basis-axes.ensures,
    )

pub points_of-points-requires : goal.points_of-points-requires
points_of-points-requires c = few_of c.span_basis-axes.result _ _ c.span_basis-axes.ensures

pub returns : goal.returns
returns c =
    body_is c.args.a (good_grid 6 _ _ c.well_formed.0) (vec c.args.center) c.args.l c.sym_eigen-pairs.result c.sym_eigen.result c.top-most.result
    c.of-free.result
    c.of-pure.result
    c.parts_at.result
    c.parts_at-2.result
    c.span_basis-axes.result
    c.span_basis-straight.result
    c.fill_slides-slides.result
    c.points_of-points.result
    c.sym_eigen-pairs.ensures
    c.top-most.ensures
    c.of-free.ensures
    c.parts_at.ensures
    c.span_basis-axes.ensures
    c.sym_eigen.ensures
    c.of-pure.ensures
    c.parts_at-2.ensures
    c.span_basis-straight.ensures
    c.fill_slides-slides.ensures
    c.points_of-points.ensures

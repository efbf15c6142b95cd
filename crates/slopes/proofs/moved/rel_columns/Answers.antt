-- `slopes::moved::rel_columns` meets its contract. The invariant: the slopes along the first e unknowns are written and no other place has changed, so the poses behind them are as at
-- entry. The measure is the unknowns to come. Assumes nothing.
use mathlib.Core.Path.{◌≡◌, refl, ap}
use mathlib.Core.List.{List}
use native.Mathlib.Omega.{arith}
use lib.Ieee.{Float}
use Rattle.relations.specs.Geometry.{Pose}
use Rattle.relations.specs.Model.{rel_of}
use Rattle.scene.specs.Solve.{rows_at}
use Rattle.slopes.specs.Moved.{moved_slope}
use Rattle.slopes.proofs.MovedLaws.{rel_length, block_no_columns, block_column, block_as, block_poses, strided_as, room_as}
use Rattle.slopes.proofs.moved.rel_columns.Goals as goal

pub loop-e-init : goal.loop-e-init
loop-e-init c = (omega arith, block_no_columns _ _ _ _ _)

pub rel_column-requires : goal.rel_column-requires
rel_column-requires c =
    let l = c.loop-e in
    let g = c.args in
    record { room = room_as g.s.now l.s _ _ _ _ _ _ _ _ l.invariant.1.size (rel_length _ _ (rel_of g.rel)) c.requires; e_bound = omega arith }

pub loop-e-preserved : goal.loop-e-preserved
loop-e-preserved c =
    let l = c.loop-e in
    let g = c.args in
    let room = c.requires in
    let same = block_poses g.s.now l.s g.o g.n _ l.e g.p g.m _ (omega arith) room.below l.invariant.1 in (
      omega arith,
      block_column g.s.now g.o g.n _ l.s _ _ l.e _ (omega arith) (λ r h. ap (λ (poses : List (Pose Float)). moved_slope (λ poses. rows_at poses (rel_of g.rel)) poses g.i g.moved.now g.steps r l.e) same) l.invariant.1
          (strided_as _ _ _ _ _ _ _ _ (rel_length _ _ (rel_of g.rel)) (λ r h. refl) c.rel_column.ensures),
    )

pub shape_of-s : goal.shape_of-s
shape_of-s c = c.loop-e.invariant.1.size

pub returns : goal.returns
returns c =
    let l = c.loop-e in
    let e : l.e ≡ 6 = omega arith in
    block_as _ l.s _ _ _ _ l.e 6 _ refl e l.invariant.1

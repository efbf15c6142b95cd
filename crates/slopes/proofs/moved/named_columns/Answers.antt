-- `slopes::moved::named_columns` meets its contract. The invariant: the slopes of the rows of the relations passed are written, these rows are the first of all, and no other place has
-- changed. The measure is the relations to come. Assumes nothing.
use mathlib.Core.Path.{◌≡◌, refl}
use Prim.Native.Nat.{◌+◌, ◌*◌, ◌≤◌}
use native.Mathlib.Omega.{arith}
use native.Mathlib.Nat.{mul-le-mul_right}
use Rattle.scene.specs.Scene.{poses_in}
use Rattle.slopes.proofs.MovedLaws.{passed_start, passed_among, passed_room, passed_step, passed_slope, passed_end, block_no_rows, block_rows, block_as, block_poses, still_clear, room_next}
use Rattle.slopes.proofs.moved.named_columns.Goals as goal

pub loop-j-init : goal.loop-j-init
loop-j-init c = (omega arith, passed_start _ _, block_no_rows _ _ _ _ _)

pub overflow_mul-j : goal.overflow_mul-j
overflow_mul-j c = let laid = c.args.sheet.laid in omega arith

pub overflow_add-sheet : goal.overflow_add-sheet
overflow_add-sheet c = let laid = c.args.sheet.laid in omega arith

pub overflow_mul-row : goal.overflow_mul-row
overflow_mul-row c =
    let inside : let g = c.args in g.o + c.loop-j.row * g.n ≤ g.p =
    let room = c.requires.room in
    let w = mul-le-mul_right c.args.n (passed_among _ _ _ _ c.args.sheet.laid c.loop-j.invariant.1) in
    omega arith in
    omega (arith, inside)

pub overflow_add-o : goal.overflow_add-o
overflow_add-o c =
    let inside : let g = c.args in g.o + c.loop-j.row * g.n ≤ g.p =
    let room = c.requires.room in
    let w = mul-le-mul_right c.args.n (passed_among _ _ _ _ c.args.sheet.laid c.loop-j.invariant.1) in
    omega arith in
    omega (arith, inside)

pub named_rel-count-requires : goal.named_rel-count-requires
named_rel-count-requires c =
    let l = c.loop-j in
    let g = c.args in
    let laid = c.args.sheet.laid in
    let room = c.requires.room in
    let fit = passed_room g.sheet.bytes.now g.sheet.scene l.j l.row laid (omega arith) l.invariant.1 (poses_in l.s g.p g.sheet.scene.m) in record { place_in_bounds = omega arith; room = room_next g.s.now l.s _ _ _ _ _ _ _ l.row _ l.invariant.2.size fit room; clear = still_clear g.s.now l.s g.o g.n g.sheet.scene.rows l.row _ _ room.wide fit c.requires.clear l.invariant.2; steps = c.requires.steps }

pub overflow_add-row : goal.overflow_add-row
overflow_add-row c =
    let l = c.loop-j in
    let g = c.args in
    let count = c.named_rel-count.ensures.count in
    let fit = passed_room g.sheet.bytes.now g.sheet.scene l.j l.row c.args.sheet.laid (omega arith) l.invariant.1 (poses_in l.s g.p g.sheet.scene.m) in
    omega arith

pub loop-j-preserved : goal.loop-j-preserved
loop-j-preserved c =
    let l = c.loop-j in
    let g = c.args in
    let laid = c.args.sheet.laid in
    let room = c.requires.room in
    let y = c.named_rel-count.ensures in
    let w = mul-le-mul_right g.n (passed_among _ _ _ _ laid l.invariant.1) in
    let same = block_poses g.s.now l.s g.o g.n l.row 6 g.p g.sheet.scene.m _ room.wide (omega arith) l.invariant.2 in (
      omega arith,
      passed_step g.sheet.bytes.now g.sheet.scene l.j l.row laid (omega arith) l.invariant.1 _ _ y.count,
      block_rows g.s.now g.o g.n _ l.s _ l.row _ 6 _ room.wide
          (λ r e h k. passed_slope g.sheet.bytes.now g.sheet.scene l.j l.row laid (omega arith) l.invariant.1 _ _ g.i g.moved.now g.steps r e same (rw (← y.count) h)) l.invariant.2 y.block,
    )

pub shape_of-s : goal.shape_of-s
shape_of-s c = c.loop-j.invariant.2.size

pub returns : goal.returns
returns c =
    let l = c.loop-j in
    let g = c.args in
    let e : l.j ≡ g.sheet.scene.k = omega arith in
    block_as _ l.s _ _ l.row g.sheet.scene.rows 6 6 _ (passed_end g.sheet.bytes.now g.sheet.scene (poses_in g.s.now g.p g.sheet.scene.m) l.j l.row c.args.sheet.laid e l.invariant.1) refl l.invariant.2

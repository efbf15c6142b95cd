-- `freedom::total::body_columns` meets its contract: a body without unknowns has no columns, and the six of any other stand from its first unknown on. Assumes nothing.
use Rattle.scene.specs.Scene.{scene_of}
use Rattle.scene.proofs.SceneLaws.{laid_first}
use Rattle.slopes.proofs.AnewLaws.{first_some}
use Rattle.freedom.proofs.ColumnLaws.{columns_some, columns_none, waiting_some}
use Rattle.freedom.proofs.total.body_columns.Goals as goal

pub returns-in_default : goal.returns-in_default
returns-in_default c =
    let g = c.args in
    columns_none g.sheet.bytes.now g.sheet.scene g.parts g.s.now g.i c.args.sheet.laid c.requires.i_lt_m c.in_default.is c.requires.waiting

pub six_columns-requires : goal.six_columns-requires
six_columns-requires c =
    let g = c.args in
    let h = c.requires.i_lt_m in
    let first = c.in-Some.k in
    let n = c.in-Some.is in
    let e = first_some g.sheet.bytes.now g.sheet.scene g.i first c.args.sheet.laid h n in
    record { total_apart = c.requires.total_apart; i_lt_m = (h, laid_first g.sheet.bytes.now g.sheet.scene g.i first c.args.sheet.laid h n); none_value = e; waiting = waiting_some (scene_of g.sheet.bytes.now g.sheet.scene) g.sheet.scene g.parts g.s.now g.i first e c.requires.waiting }

pub shape_of-s : goal.shape_of-s
shape_of-s c = c.six_columns.ensures.size

pub returns : goal.returns
returns c =
    let g = c.args in
    let n = c.in-Some.is in
    let first = c.in-Some.k in
    columns_some g.sheet.bytes.now g.sheet.scene g.parts g.s.now _ g.i first (first_some g.sheet.bytes.now g.sheet.scene g.i first c.args.sheet.laid c.requires.i_lt_m n) c.six_columns.ensures

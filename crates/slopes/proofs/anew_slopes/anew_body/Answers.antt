-- `slopes::anew_slopes::anew_body` meets its contract: a body without unknowns has no columns, and the six of any other stand from its first unknown on. Assumes nothing.
use Rattle.scene.proofs.SceneLaws.{laid_first}
use Rattle.slopes.proofs.AnewLaws.{first_some}
use Rattle.slopes.proofs.BodyLaws.{standing_some, body_some, body_none}
use Rattle.slopes.proofs.anew_slopes.anew_body.Goals as goal

pub returns-in_default : goal.returns-in_default
returns-in_default c =
    let g = c.args in
    body_none g.sheet.bytes.now g.sheet.scene g.at g.s.now g.i c.args.sheet.laid c.requires.i_lt_m c.in_default.is

pub body_columns-requires : goal.body_columns-requires
body_columns-requires c =
    let g = c.args in
    let h = c.requires.i_lt_m in
    let first = c.in-Some.k in
    let n = c.in-Some.is in
    let given = first_some g.sheet.bytes.now g.sheet.scene g.i first c.args.sheet.laid h n in
    record { apart = c.requires.apart; i_lt_m = (h, laid_first g.sheet.bytes.now g.sheet.scene g.i first c.args.sheet.laid h n); none_value = given; standing = standing_some g.sheet.bytes.now g.sheet.scene g.at g.s.now g.i first given c.requires.standing }

pub returns : goal.returns
returns c =
    let g = c.args in
    let n = c.in-Some.is in
    let first = c.in-Some.k in
    body_some g.sheet.bytes.now g.sheet.scene g.at g.s.now _ g.i first (first_some g.sheet.bytes.now g.sheet.scene g.i first c.args.sheet.laid c.requires.i_lt_m n) c.body_columns.ensures

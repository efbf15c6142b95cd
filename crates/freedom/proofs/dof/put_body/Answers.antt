-- `freedom::dof::put_body`: a fixed body has no freedom; else its freedom is that of the six by six of its slopes. Both by the body's record, read first. Assumes nothing.
use mathlib.Core.Bool.{false}
use native.Mathlib.Omega.{arith}
use Rattle.freedom.proofs.DofLaws.{fixed_as, freed_fixed, freed_free}
use Rattle.freedom.proofs.dof.put_body.Goals as goal

pub put_none-requires : goal.put_none-requires
put_none-requires c = c.requires.i_lt_m.1

pub returns-then-body : goal.returns-then-body
returns-then-body c = freed_fixed _ _ c.args.parts.poses _ _ _ _ _ _ c.body-body.ensures c.if-body.true c.requires.m_value c.put_none.ensures

pub body_square-square-requires : goal.body_square-square-requires
body_square-square-requires c =
    let f = c.requires in
    record { i_lt_m = (f.i_lt_m.0, fixed_as _ _ false c.body-body.ensures c.if-body.false); body_apart = f.body_apart; m_value = f.m_value }

pub overflow_mul-i-2 : goal.overflow_mul-i-2
overflow_mul-i-2 c = omega (arith, c.args.sheet.laid.body_count, c.requires.i_lt_m.0)

pub put_freedom-requires : goal.put_freedom-requires
put_freedom-requires c = c.requires.i_lt_m.1

pub returns : goal.returns
returns c =
    freed_free _ _ _ _ _ _ _ _ _ _ _ _ _ c.body-body.ensures c.if-body.false c.body_square-square.ensures c.half_size.ensures c.body_dof-f.ensures
    c.put_freedom.ensures

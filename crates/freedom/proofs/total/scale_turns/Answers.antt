-- `freedom::total::scale_turns`: a body that has no unknowns leaves all as it is; else three doubles of the part are divided, which are the body's turning unknowns. Assumes nothing.
use Rattle.freedom.proofs.TotalLaws.{scale_none, scale_some}
use native.Mathlib.Omega.{arith}
use Rattle.freedom.proofs.total.scale_turns.Goals as goal

pub returns-in_default : goal.returns-in_default
returns-in_default c = scale_none _ _ _ _ _ c.in_default.is

pub divide-requires : goal.divide-requires
divide-requires c = omega (arith, c.requires.first_bound _ c.in-Some.is)

pub returns : goal.returns
returns c = scale_some c.args.s.now _ c.args.z c.args.n _ c.args.first c.args.l c.in-Some.is (c.requires.first_bound _ c.in-Some.is) c.divide.ensures

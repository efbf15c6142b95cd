-- `freedom::dof::dof` meets its contract: the bodies' freedoms in the rest that is lent from the slopes on, then the whole assembly's. Assumes nothing.
use native.Mathlib.Omega.{arith}
use lib.ListN.{length-take, length-drop}
use Rattle.freedom.proofs.DofLaws.{freed_is}
use Rattle.freedom.proofs.dof.dof.Goals as goal

pub put_bodies-requires : goal.put_bodies-requires
put_bodies-requires c = record { scene_in_bounds = simp (length-take, length-drop) (omega (arith, c.requires.scene_in_bounds)); m_in_bounds = c.requires.m_in_bounds }

pub returns : goal.returns
returns c = freed_is _ _ _ _ _ _ _ _ _ c.put_bodies.ensures c.total.ensures

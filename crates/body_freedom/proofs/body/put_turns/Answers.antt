-- `body_freedom::body::put_turns` meets its contract. Three turns, one after the other. Assumes nothing.
use mathlib.Core.Path.{refl}
use Rattle.scene.proofs.SceneLaws.{put_then}
use Rattle.body_freedom.proofs.body.put_turns.Goals as goal

pub returns : goal.returns
returns c = put_then _ _ _ _ 12 _ 6 _ _ refl (put_then _ _ _ _ 6 _ 6 _ _ refl c.put_turn.ensures c.put_turn-2.ensures) c.put_turn-3.ensures

-- `body_freedom::body::put_freedom` meets its contract. The counts, the slides and the turns, one after the other. Assumes nothing.
use mathlib.Core.Path.{refl}
use Rattle.scene.proofs.SceneLaws.{put_then}
use Rattle.body_freedom.proofs.body.put_freedom.Goals as goal

pub returns : goal.returns
returns c = put_then _ _ _ _ 11 _ 18 _ _ refl (put_then _ _ _ _ 2 _ 9 _ _ refl c.put_counts.ensures c.put_three.ensures) c.put_turns.ensures

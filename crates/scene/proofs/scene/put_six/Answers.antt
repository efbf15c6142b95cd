-- `scene::scene::put_six` meets its contract: the second three doubles are put directly behind the first three, so they are one list of six (`put_then`), and the two
-- numbers in it are the definition's (`six_are`). Assumes nothing.
use mathlib.Core.Path.{refl}
use Rattle.scene.proofs.SceneLaws.{put_then, six_are}
use Rattle.scene.proofs.scene.put_six.Goals as goal

pub returns : goal.returns
returns c = six_are _ _ _ _ _ _ _ c.inverse_weight-slide.ensures c.inverse_weight-turn.ensures (put_then _ _ _ _ 3 _ 3 _ _ refl c.put_vec.ensures c.put_vec-2.ensures)

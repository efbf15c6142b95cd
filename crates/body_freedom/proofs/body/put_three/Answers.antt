-- `body_freedom::body::put_three` meets its contract. Three vectors, one after the other. Assumes nothing.
use mathlib.Core.Path.{refl}
use Rattle.scene.proofs.SceneLaws.{put_then}
use Rattle.body_freedom.proofs.body.put_three.Goals as goal

pub returns : goal.returns
returns c = put_then _ _ _ _ 6 _ 3 _ _ refl (put_then _ _ _ _ 3 _ 3 _ _ refl c.put_vec.ensures c.put_vec-2.ensures) c.put_vec-3.ensures

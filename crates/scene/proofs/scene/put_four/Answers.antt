-- `scene::scene::put_four`: each vector is put directly behind the last, so the four are one list put from o on (`put_then`, three times). Assumes nothing.
use mathlib.Core.Path.{refl}
use Rattle.scene.proofs.SceneLaws.{put_then}
use Rattle.scene.proofs.scene.put_four.Goals as goal

pub returns : goal.returns
returns c =
    let two = put_then _ _ _ _ 3 _ 3 _ _ refl c.put_vec.ensures c.put_vec-2.ensures in
    let three = put_then _ _ _ _ 6 _ 3 _ _ refl two c.put_vec-3.ensures in
    put_then _ _ _ _ 9 _ 3 _ _ refl three c.put_vec-4.ensures

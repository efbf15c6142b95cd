-- `scene::scene::clear` meets its contract: the zeros stand between what was before and behind them (`put_to`). Assumes nothing.
use native.Mathlib.Omega.{arith}
use Prim.Native.Nat.{◌+◌, ◌-◌}
use mathlib.Core.Path.{◌≡◌, ◌∙◌}
use lib.ListN.{length, length-drop, length-take, take, drop}
use Rattle.numbers.specs.Double.{zero64}
use Rattle.least_squares.specs.Lm.{list_of}
use Rattle.least_squares.proofs.TableLaws.{length_list_of}
use Rattle.scene.proofs.PutLaws.{put_to}
use Rattle.scene.proofs.SceneLaws.{zeros_are}
use Rattle.scene.proofs.scene.clear.Goals as goal

pub returns : goal.returns
returns c =
    let s = c.args.s.now in
    let o = c.args.o in
    let k = c.args.k in
    let long : length (take (o + k - o) (drop o s)) ≡ k = omega (arith, length-take (o + k - o) (drop o s), length-drop o s) in
    let is_zeros : c.fill.new.self ≡ list_of (λ i. zero64) k = c.fill.ensures.after (λ y h. h) ∙ zeros_are _ k long in
    rw is_zeros (put_to s (list_of (λ i. zero64) k) o (o + k - o) k (omega arith) (length_list_of (λ i. zero64) k) c.requires)

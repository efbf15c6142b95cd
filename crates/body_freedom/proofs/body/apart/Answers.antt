-- `body_freedom::body::apart` meets its contract: `all` asks of each vector what the definition asks (`lean_list`). Assumes nothing.
use mathlib.Core.Path.{ap, ◌∙◌}
use lib.ListN.{take}
use lib.Ieee.{Float}
use Rattle.std.proofs.Common.{rules, tests}
use Rattle.std.proofs.lemmas.Iterator.{YieldsList-from_slice}
use Rattle.std.proofs.lemmas.Iterator.Search.{all_from_yields_List}
use Rattle.vectors.specs.Vec.{Vec, vec}
use Rattle.spans.specs.Basis.{basis}
use Rattle.body_freedom.proofs.BodyLaws.{lean, lean_all, lean_list, apart_is}
use Rattle.body_freedom.proofs.body.apart.Goals as goal

pub returns : goal.returns
returns c =
    let vs = take c.args.slides.count c.args.slides.vectors in
    let n = c.normalized-d in
    all_from_yields_List (λ u. lean (vec n.result) (vec u)) _ _ _ c.all.ensures.ran (YieldsList-from_slice vs cc) (λ x b q k. search (rules, tests)) ∙ lean_list (vec n.result) vs ∙ ap (λ (t : Vec Float). lean_all t (basis c.args.slides)) n.ensures
    ∙ apart_is (vec c.args.v) (basis c.args.slides)
